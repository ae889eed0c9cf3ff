-- The first byte of a kind cuts a list in one way.
use Rattle.std.proofs.Common.{◌≡◌, ◌≢◌, ℕ, suc, ◌+◌, ◌-◌, List, [], ◌∷◌, ◌++◌, length, take, drop, Option, Some, All, refl, sym, ap, ◌∙◌, append_assoc, arith}
use Rattle.std.specs.Prelude.{◌==◌}
use Rattle.std.specs.List.{position_from}
use Rattle.std.proofs.lemmas.Bool.{cond-true, cond-false, eq-eqb, ne_eqb}
use Rattle.std.proofs.lemmas.List.{length-append, take_at, take_all, drop_at}

abbrev HasNo : ℕ → List ℕ → Type 0
HasNo one bytes = All (λ byte. byte ≢ one) bytes

head_is_not : (x c : ℕ) (a : List ℕ) → HasNo c (x ∷ a) → x ≢ c
head_is_not x c a h = h 0 x (omega arith)

tail_has_no : (x c : ℕ) (a : List ℕ) → HasNo c (x ∷ a) → HasNo c a
tail_has_no x c a h k d lt = h (suc k) d (omega arith)

-- the first such byte cuts a list in one way
pub cut_once : (c : ℕ) (l b x y : List ℕ) → All (λ byte. byte ≢ c) l → All (λ byte. byte ≢ c) b → l ++ c ∷ x ≡ b ++ c ∷ y → (l ≡ b) × (x ≡ y)
cut_once c [] [] x y p q e = (refl, cc)
cut_once c [] (w ∷ b) x y p q e = absurd (head_is_not w c b q (let same : w ≡ c = cc in same))
cut_once c (z ∷ l) [] x y p q e = absurd (head_is_not z c l p (let same : z ≡ c = cc in same))
cut_once c (z ∷ l) (w ∷ b) x y p q e =
    let rest : l ++ c ∷ x ≡ b ++ c ∷ y = cc in
    let more = cut_once c l b x y (tail_has_no z c l p) (tail_has_no w c b q) rest in
    let head : z ≡ w = cc in
    let tail : l ≡ b = more.0 in
    (cc, more.1)

-- the first place of a byte
pub position_behind : (a b : List ℕ) (c n : ℕ) → All (λ byte. byte ≢ c) a → position_from (λ byte. byte == c) n (a ++ c ∷ b) ≡ Some (n + length a)
position_behind [] b c n h =
    let e : n ≡ n + 0 = omega arith in
    cond-true (c == c) (Some n) (position_from (λ byte. byte == c) (n + 1) b) (eq-eqb c c refl) ∙ ap (λ (k : ℕ). let o : Option ℕ = Some k in o) e
position_behind (x ∷ a) b c n h =
    let e : n + 1 + length a ≡ n + length (x ∷ a) = omega arith in
    cond-false (x == c) (Some n) (position_from (λ byte. byte == c) (n + 1) (a ++ c ∷ b)) (ne_eqb x c (head_is_not x c a h))
    ∙ position_behind a b c (n + 1) (tail_has_no x c a h) ∙ ap (λ (k : ℕ). let o : Option ℕ = Some k in o) e

pub parts_at : (bytes a b : List ℕ) (c place : ℕ) → bytes ≡ a ++ c ∷ b → place ≡ length a
    → (take place bytes ≡ a) × (take (length bytes - (place + 1)) (drop (place + 1) bytes) ≡ b)
parts_at bytes a b c place e p =
    let size : length bytes ≡ length a + length (c ∷ b) = ap length e ∙ length-append a (c ∷ b) in
    let regrouped : bytes ≡ (a ++ c ∷ []) ++ b = e ∙ sym (append_assoc a (c ∷ []) b) in
    let front : length (a ++ c ∷ []) ≡ place + 1 = omega (arith, length-append a (c ∷ []), p) in
    let rest : drop (place + 1) bytes ≡ b = ap (drop (place + 1)) regrouped ∙ drop_at (a ++ c ∷ []) b (place + 1) front in (
      ap (take place) e ∙ take_at a (c ∷ b) place (sym p),
      ap (λ (v : List ℕ). take (length bytes - (place + 1)) v) rest ∙ take_all (length bytes - (place + 1)) b (omega (arith, size, p)),
    )
