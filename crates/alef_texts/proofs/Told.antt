-- Facts of what an object tells, before and after calls.
use Rattle.std.proofs.Common.{◌≡◌, ℕ, zero, suc, ◌+◌, ◌-◌, List, [], ◌∷◌, ◌++◌, length, take, drop, Option, Some, None, refl, sym, ap, ◌∙◌, arith, append_assoc, inl, inr}
use Rattle.std.specs.Prelude.{◌⊎◌}
use Rattle.std.proofs.lemmas.List.{length-drop, take_all}
use Rattle.al_host.specs.Outside.{Content, Gets, WhereTold}
use Rattle.alef_texts.specs.Call.{LacksText, text_in}

pub neither : {A B : Type 0} → A ⊎ B → (A → ⊥) → (B → ⊥) → ⊥
neither (inl a) f g = f a
neither (inr b) f g = g b

pub not_missing : (told : Option Content) (text file : List ℕ) → text_in told file ≡ Some text → LacksText told file → ⊥
not_missing None text file is lacks = lacks
not_missing (Some content) text file is lacks = cc

pub told_at_once : {A : Type 0} (P : A → A → Type 0) (o : Option A) → ((a : A) → P a a) → WhereTold P o o
told_at_once P (Some a) h = h a
told_at_once P None h = tt

pub told_then : {A : Type 0} (P Q R : A → A → Type 0) (o o' o'' : Option A) → ((a b c : A) → P a b → Q b c → R a c)
    → WhereTold P o o' → WhereTold Q o' o'' → WhereTold R o o''
told_then P Q R (Some a) (Some b) (Some c) h p q = h a b c p q
told_then P Q R None None None h p q = tt
told_then P Q R (Some a) (Some b) None h p q = absurd q
told_then P Q R (Some a) None o h p q = absurd p
told_then P Q R None (Some b) o h p q = absurd p
told_then P Q R None None (Some c) h p q = absurd q

pub told_as : {A : Type 0} (P R : A → A → Type 0) (o o' : Option A) → ((a b : A) → P a b → R a b) → WhereTold P o o' → WhereTold R o o'
told_as P R (Some a) (Some b) h p = h a b p
told_as P R None None h p = tt
told_as P R (Some a) None h p = absurd p
told_as P R None (Some b) h p = absurd p

abbrev pub Getting : ℕ → List ℕ → List ℕ → List ℕ → Type 0
Getting n piece before after = after ≡ before ++ take n piece

take_none : {X : Type 0} (n : ℕ) → take {A = X} n [] ≡ []
take_none zero = refl
take_none (suc n) = refl

-- a longer front is a front, and a front of the rest
pub take-add : {X : Type 0} (m n : ℕ) (xs : List X) → take (m + n) xs ≡ take m xs ++ take n (drop m xs)
take-add zero n xs = ap (λ (k : ℕ). take k xs) (omega arith)
take-add (suc m) n [] = take_none (suc m + n) ∙ sym (take_none n)
take-add {X = X} (suc m) n (x ∷ xs) =
    let e : suc m + n ≡ suc (m + n) = omega arith in
    ap (λ (k : ℕ). take k (x ∷ xs)) e ∙ ap (λ (l : List X). x ∷ l) (take-add m n xs)

-- one write more
pub got_on : (n len : ℕ) (piece a b c : List ℕ) → Getting n piece a b → Gets len (drop n piece) b c → Getting (n + len) piece a c
got_on n len piece a b c e f =
    f ∙ ap (λ (v : List ℕ). v ++ take len (drop n piece)) e ∙ append_assoc a (take n piece) (take len (drop n piece)) ∙ ap (λ (v : List ℕ). a ++ v) (sym (take-add n len piece))

-- the part from a place on, as the code passes it
tail_is : (n : ℕ) (piece : List ℕ) → take (length piece - n) (drop n piece) ≡ drop n piece
tail_is n piece = let e = length-drop n piece in take_all (length piece - n) (drop n piece) (omega (arith, e))

pub told_got : (n len : ℕ) (piece : List ℕ) (o o' o'' : Option (List ℕ))
    → WhereTold (Getting n piece) o o' → WhereTold (Gets len (take (length piece - n) (drop n piece))) o' o'' → WhereTold (Getting (n + len) piece) o o''
told_got n len piece o o' o'' =
    told_then (Getting n piece) (Gets len (take (length piece - n) (drop n piece))) (Getting (n + len) piece) o o' o''
    (λ a b c p q. got_on n len piece a b c p (q ∙ ap (λ (v : List ℕ). b ++ take len v) (tail_is n piece)))
