-- Signed numbers of 64 bits.
use Rattle.std.proofs.Math.Nat.{div-le_self, mod-le, mod-eq_of_lt}
use Rattle.std.proofs.Common.{◌≡◌, ◌≢◌, ℕ, zero, suc, ◌+◌, ◌-◌, ◌/◌, ◌%◌, ◌^◌, ◌<◌, ◌≤◌, ◌⊎◌, inl, inr, refl, ap, ◌∙◌, arith, Bool, true, false, ◌&&◌, nat_le, if◌then◌else◌, ℤ, pos, negsuc, ◌-ℤ◌, neg_ℤ}
use Rattle.std.specs.Prelude.{int_div, int_rem, unsigned_abs}
use Rattle.std.specs.Int.{int_shr}
use Rattle.std.proofs.lemmas.Bool.Decides.{nat_tests}
use Rattle.std.proofs.lemmas.Int.{ints}
use Rattle.al_base.specs.Arith.{value_of, wrapped}

pub signed_value : (a : ℕ) → a < 2 ^ 64
    → ((a < 2 ^ 63) × (value_of true 64 a ≡ pos a)) ⊎ ((2 ^ 63 ≤ a) × (value_of true 64 a ≡ negsuc (2 ^ 64 - 1 - a)))
signed_value a h = on (nat_le (2 ^ 63) (a % 2 ^ 64)) refl where
  on : (b : Bool) → nat_le (2 ^ 63) (a % 2 ^ 64) ≡ b
      → ((a < 2 ^ 63) × ((if true && b then pos (a % 2 ^ 64) -ℤ pos (2 ^ 64) else pos (a % 2 ^ 64)) ≡ pos a))
      ⊎ ((2 ^ 63 ≤ a) × ((if true && b then pos (a % 2 ^ 64) -ℤ pos (2 ^ 64) else pos (a % 2 ^ 64)) ≡ negsuc (2 ^ 64 - 1 - a)))
  on true e =
      let more : 2 ^ 63 ≤ a % 2 ^ 64 = grind (arith, nat_tests, e) in
      inr (omega arith, omega (arith, ints))
  on false e =
      let less : a % 2 ^ 64 < 2 ^ 63 = grind (arith, nat_tests, e) in
      inl (omega arith, omega (arith, ints))

-- the integer of 64 bits of a, by its sign and its absolute value
abbrev pub IsSigned : ℤ → (a sign size : ℕ) → Type 0
IsSigned z a sign size = ((sign ≡ 0) × (size ≡ a) × (z ≡ pos a)) ⊎ ((sign ≡ 1) × (size + a ≡ 2 ^ 64) × (z ≡ negsuc (size - 1)))

-- the bits of a number or of its opposite
abbrev pub with_sign : (sign size : ℕ) → ℕ
with_sign zero size = size
with_sign (suc n) size = (2 ^ 64 - size) % 2 ^ 64

pos_bits : (n : ℕ) → n < 2 ^ 64 → wrapped 64 (pos n) ≡ n
pos_bits n h = mod-eq_of_lt h

negsuc_bits : (n : ℕ) → n < 2 ^ 64 → wrapped 64 (negsuc n) ≡ 2 ^ 64 - 1 - n
negsuc_bits n h = omega (arith, mod-eq_of_lt h)

neg_bits : (q : ℕ) → q ≤ 2 ^ 64 → wrapped 64 (neg_ℤ (pos q)) ≡ (2 ^ 64 - q) % 2 ^ 64
neg_bits zero h = refl
neg_bits (suc n) h = let e : n < 2 ^ 64 = omega arith in negsuc_bits n e ∙ omega arith

-- a shift to the right that keeps the sign turns the bits of a number below 0 before and after
pub shr_pos : (x k : ℕ) → x < 2 ^ 64 → wrapped 64 (int_shr (pos x) k) ≡ x / 2 ^ k
shr_pos x k h = pos_bits (x / 2 ^ k) (omega (arith, div-le_self x (2 ^ k)))

pub shr_negsuc : (x k : ℕ) → x < 2 ^ 64 → wrapped 64 (int_shr (negsuc x) k) ≡ 2 ^ 64 - 1 - x / 2 ^ k
shr_negsuc x k h = negsuc_bits (x / 2 ^ k) (omega (arith, div-le_self x (2 ^ k)))

-- ---- the absolute value of a number

pub sized : (a sign : ℕ) → a < 2 ^ 64 → sign ≡ a / 2 ^ 63 → IsSigned (value_of true 64 a) a sign (with_sign sign a)
sized a sign h e = on (signed_value a h) where
  on : ((a < 2 ^ 63) × (value_of true 64 a ≡ pos a)) ⊎ ((2 ^ 63 ≤ a) × (value_of true 64 a ≡ negsuc (2 ^ 64 - 1 - a))) → IsSigned (value_of true 64 a) a sign (with_sign sign a)
  on (inl c) =
      let zero_sign : sign ≡ 0 = omega arith in
      inl (zero_sign, rw zero_sign refl, c.1)
  on (inr c) =
      let one_sign : sign ≡ 1 = omega arith in
      let size : (2 ^ 64 - a) % 2 ^ 64 + a ≡ 2 ^ 64 = omega arith in
      let same : 2 ^ 64 - 1 - a ≡ (2 ^ 64 - a) % 2 ^ 64 - 1 = omega arith in
      inr (one_sign, rw one_sign size, rw one_sign (c.1 ∙ ap negsuc same))

-- whether two signs differ
abbrev pub Differ : (s t d : ℕ) → Type 0
Differ s t d = ((s ≡ t) × (d ≡ 0)) ⊎ ((s ≢ t) × (d ≡ 1))

back : (n : ℕ) → 0 < n → suc (n - 1) ≡ n
back n h = omega arith

below_all : (x y : ℕ) → x ≤ 2 ^ 63 → x / y < 2 ^ 64
below_all x y h = omega (arith, div-le_self x y)

module _ (a b A B : ℕ) (x y : ℤ) (small : a < 2 ^ 64) (below : A < 2 ^ 64) (some : 0 < B) where
  pub quotient_bits : (s t d : ℕ) → IsSigned x a s A → IsSigned y b t B → Differ s t d → wrapped 64 (int_div x y) ≡ with_sign d (A / B)
  quotient_bits s t d (inl u) (inl v) (inl e) = rw (e.1, u.2, v.2, u.1, v.1) (pos_bits (a / b) (omega (arith, div-le_self a b)))
  quotient_bits s t d (inl u) (inl v) (inr e) = absurd (e.0 (omega arith))
  quotient_bits s t d (inl u) (inr v) (inl e) = absurd (omega arith)
  quotient_bits s t d (inl u) (inr v) (inr e) =
      rw (e.1, u.2, v.2, u.1, back B some) (neg_bits (a / B) (omega (arith, div-le_self a B)))
  quotient_bits s t d (inr u) (inl v) (inl e) = absurd (omega arith)
  quotient_bits s t d (inr u) (inl v) (inr e) =
      let some_A : 0 < A = omega arith in
      rw (e.1, u.2, v.2, v.1, back A some_A) (neg_bits (A / b) (omega (arith, div-le_self A b)))
  quotient_bits s t d (inr u) (inr v) (inl e) =
      let some_A : 0 < A = omega arith in
      rw (e.1, u.2, v.2, back A some_A, back B some) (pos_bits (A / B) (omega (arith, div-le_self A B)))
  quotient_bits s t d (inr u) (inr v) (inr e) = absurd (e.0 (omega arith))

  size_of : (t : ℕ) → IsSigned y b t B → unsigned_abs y ≡ B
  size_of t (inl v) = rw (v.2, v.1) refl
  size_of t (inr v) = rw v.2 (back B some)

  pub rest_bits : (s t : ℕ) → IsSigned x a s A → IsSigned y b t B → wrapped 64 (int_rem x y) ≡ with_sign s (A % B)
  rest_bits s t (inl u) v = rw (u.0, u.2, u.1, size_of t v) (pos_bits (a % B) (omega (arith, mod-le a B)))
  rest_bits s t (inr u) v =
      let some_A : 0 < A = omega arith in
      rw (u.0, u.2, size_of t v, back A some_A) (neg_bits (A % B) (omega (arith, mod-le A B)))
