-- Operations that were added one after the other.
use Rattle.std.proofs.Common.{◌≡◌, List, ◌++◌, Result, OnOk, ap, ap₂, ◌∙◌, append_assoc}
use Rattle.std.proofs.lemmas.Result.{on_ok_weaker}

pub one : {A T E : Type 0} (r : Result T E) (old new a a' : List A) → OnOk r (new ≡ old ++ a) → a ≡ a' → OnOk r (new ≡ old ++ a')
one r old new a a' last same = on_ok_weaker r (λ h. h ∙ ap (λ xs. old ++ xs) same) last

pub two : {A T E : Type 0} (r : Result T E) (old mid new a b a' b' : List A) → mid ≡ old ++ a → OnOk r (new ≡ mid ++ b) → a ≡ a' → b ≡ b' → OnOk r (new ≡ old ++ (a' ++ b'))
two r old mid new a b a' b' first last same other =
    on_ok_weaker r
    (λ h. h ∙ ap₂ (λ xs ys. xs ++ ys) (first ∙ ap (λ xs. old ++ xs) same) other ∙ append_assoc old a' b')
    last

pub three : {A T E : Type 0} (r : Result T E) (c0 c1 c2 c3 a b d a' b' d' : List A) → c1 ≡ c0 ++ a → c2 ≡ c1 ++ b → OnOk r (c3 ≡ c2 ++ d) → a ≡ a' → b ≡ b' → d ≡ d'
    → OnOk r (c3 ≡ c0 ++ (a' ++ (b' ++ d')))
three r c0 c1 c2 c3 a b d a' b' d' one two last same other end =
    on_ok_weaker r
    (λ h.
    h ∙ ap₂ (λ xs ys. xs ++ ys) (two ∙ ap₂ (λ xs ys. xs ++ ys) (one ∙ ap (λ xs. c0 ++ xs) same) other) end
    ∙ append_assoc (c0 ++ a') b' d' ∙ append_assoc c0 a' (b' ++ d'))
    last

pub four : {A T E : Type 0} (r : Result T E) (c0 c1 c2 c3 c4 a b d e a' b' d' e' : List A) → c1 ≡ c0 ++ a → c2 ≡ c1 ++ b → c3 ≡ c2 ++ d → OnOk r (c4 ≡ c3 ++ e) → a ≡ a' → b ≡ b' → d ≡ d' → e ≡ e'
    → OnOk r (c4 ≡ c0 ++ (a' ++ (b' ++ (d' ++ e'))))
four r c0 c1 c2 c3 c4 a b d e a' b' d' e' one then_two then_three last same other third end =
    two r c0 c1 c4 a (b ++ (d ++ e)) a' (b' ++ (d' ++ e')) one
    (on_ok_weaker r
    (λ h. h ∙ ap (λ xs. xs ++ e) (then_three ∙ ap (λ xs. xs ++ d) then_two) ∙ append_assoc (c1 ++ b) d e ∙ append_assoc c1 b (d ++ e))
    last)
    same (ap₂ (λ xs ys. xs ++ ys) other (ap₂ (λ xs ys. xs ++ ys) third end))
