-- Ten digits spell a number far below 2 ^ 64.
use Rattle.std.proofs.Common.{◌≡◌, ℕ, zero, suc, mul_assoc, ◌+◌, ◌-◌, ◌*◌, ◌^◌, ◌<◌, ◌≤◌, Bool, true, false, IsTrue, List, ◌∷◌, ◌&&◌, leb, refl, arith, sym, ap, ◌∙◌}
use Rattle.std.specs.List.{list_all}
use Rattle.std.specs.Char.{is_ascii_digit}
use Rattle.std.proofs.lemmas.Bool.{leb-true}
use Rattle.std.proofs.Math.Nat.{mul-le-mul_right, pow-suc, le-mul_of_pos_right}

both_true : (a b : Bool) → (a && b) ≡ true → (a ≡ true) × (b ≡ true)
both_true true b h = (refl, h)
both_true false b h = cc

pub positive : (n : ℕ) → 0 < 10 ^ n
positive zero = omega arith
positive (suc n) = let more : 0 < 10 ^ n = positive n in let is : 10 ^ suc n ≡ 10 ^ n * 10 = pow-suc 10 n in omega arith

-- a number that leaves room for one more digit
pub room_next : (v d n r : ℕ) → (v + 1) * 10 ^ suc n ≤ r → d ≤ 57 → (10 * v + (d - 48) + 1) * 10 ^ n ≤ r
room_next v d n r room small =
    let step : (10 * v + (d - 48) + 1) * 10 ^ n ≤ (10 * (v + 1)) * 10 ^ n = mul-le-mul_right (10 ^ n) (omega arith) in
    let one : (v + 1) * 10 ^ suc n ≡ ((v + 1) * 10 ^ n) * 10 = ap (λ p. (v + 1) * p) (pow-suc 10 n) ∙ sym (mul_assoc (v + 1) (10 ^ n) 10) in
    let two : (10 * (v + 1)) * 10 ^ n ≡ 10 * ((v + 1) * 10 ^ n) = mul_assoc 10 (v + 1) (10 ^ n) in
    omega arith

pub below : (v n r : ℕ) → (v + 1) * 10 ^ n ≤ r → v < r
below v n r room = let p : v + 1 ≤ (v + 1) * 10 ^ n = le-mul_of_pos_right (v + 1) (positive n) in omega arith

digit_range : (d : ℕ) → is_ascii_digit d ≡ true → (48 ≤ d) × (d ≤ 57)
digit_range d h = (leb-true 48 d (both_true (leb 48 d) (leb d 57) h).0, leb-true d 57 (both_true (leb 48 d) (leb d 57) h).1)

-- the first of some digits, and the others
pub first_digit : (ds rest : List ℕ) (d : ℕ) → ds ≡ d ∷ rest → IsTrue (list_all is_ascii_digit ds) → (48 ≤ d) × (d ≤ 57) × IsTrue (list_all is_ascii_digit rest)
first_digit ds rest d e h =
    let both : (is_ascii_digit d && list_all is_ascii_digit rest) ≡ true = rw e at h in
    let parts : (is_ascii_digit d ≡ true) × (list_all is_ascii_digit rest ≡ true) = both_true _ _ both in
    ((digit_range d parts.0).0, (digit_range d parts.0).1, parts.1)
