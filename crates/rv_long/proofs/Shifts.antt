-- Shifts to the right of numbers of two words.
use Rattle.std.proofs.Common.{◌≡◌, ℕ, ◌+◌, ◌-◌, ◌*◌, ◌/◌, ◌%◌, ◌^◌, ◌<◌, ◌≤◌, ◌⊎◌, inl, inr, sym, ap, ◌∙◌, arith}
use Rattle.std.proofs.Math.Nat.{add-mul, mul_assoc, mul_comm, mul-le-mul_right}
use Rattle.std.proofs.lemmas.Nat.{pow-add, div-mul-add, mul-mod_first, shr-shr, div_below, mod_below}
use Rattle.rv_long.specs.Long.{two_words}

-- Of hi and lo, shifted right by as many bits as p has, p * w being 2^31
module _ (lo hi p w : ℕ) (a : lo < 2 ^ 32) (b : hi < 2 ^ 32) (some : 0 < p) (whole : p * w ≡ 2 ^ 31) where
  high : ℕ
  high = hi / p

  abbrev rest : ℕ
  rest = hi % p

  abbrev wide : ℕ
  wide = 2 * w

  whole_wide : wide * p ≡ 2 ^ 32
  whole_wide = omega (arith, mul_assoc 2 w p, mul_comm w p, whole)

  hi_is : hi ≡ hi / p * p + hi % p
  hi_is = omega (arith, mul_comm p (hi / p))

  lo_is : lo ≡ lo / p * p + lo % p
  lo_is = omega (arith, mul_comm p (lo / p))

  rest_below : hi % p < p
  rest_below = mod_below hi p some

  lo_small : lo / p < wide
  lo_small = div_below lo p wide some (omega (arith, whole_wide))

  rest_small : hi % p * wide + wide ≤ 2 ^ 32
  rest_small =
      let more : (hi % p + 1) * wide ≤ p * wide = mul-le-mul_right wide (omega (arith, rest_below)) in
      omega (arith, add-mul (hi % p) 1 wide, mul_comm p wide, whole_wide)

  hi_wide : hi * wide ≡ hi / p * 2 ^ 32 + hi % p * wide
  hi_wide =
      let e : hi * wide ≡ (hi / p * p + hi % p) * wide = ap (λ x. x * wide) hi_is in
      omega (arith, e, add-mul (hi / p * p) (hi % p) wide, mul_assoc (hi / p) p wide, ap (λ x. hi / p * x) (mul_comm p wide ∙ whole_wide))

  -- what comes from the high word
  moved_in : hi * 2 % 2 ^ 32 * w % 2 ^ 32 ≡ hi % p * wide
  moved_in =
      let e : hi * 2 * w ≡ hi * wide = mul_assoc hi 2 w in
      mul-mod_first (hi * 2) w (2 ^ 32) ∙ omega (arith, e, hi_wide, rest_small, lo_small)

  all_is : lo + hi * 2 ^ 32 ≡ (lo / p + hi / p * 2 ^ 32 + hi % p * wide) * p + lo % p
  all_is =
      let one : hi % p * wide * p ≡ hi % p * 2 ^ 32 = mul_assoc (hi % p) wide p ∙ ap (λ x. hi % p * x) whole_wide in
      let both : hi / p * 2 ^ 32 * p ≡ hi / p * p * 2 ^ 32 = mul_assoc (hi / p) (2 ^ 32) p ∙ ap (λ x. hi / p * x) (mul_comm (2 ^ 32) p) ∙ sym (mul_assoc (hi / p) p (2 ^ 32)) in
      omega (arith, one, both, lo_is, hi_is, add-mul (lo / p + hi / p * 2 ^ 32) (hi % p * wide) p, add-mul (lo / p) (hi / p * 2 ^ 32) p)

  quotient : (lo + hi * 2 ^ 32) / p ≡ lo / p + hi / p * 2 ^ 32 + hi % p * wide
  quotient = ap (λ x. x / p) all_is ∙ div-mul-add (lo / p + hi / p * 2 ^ 32 + hi % p * wide) p (lo % p) (mod_below lo p some)

  pub funnel : two_words ((lo / p + hi * 2 % 2 ^ 32 * w % 2 ^ 32) % 2 ^ 32) (hi / p) ≡ two_words lo hi / p
  funnel = omega (arith, moved_in, quotient, lo_small, rest_small)

-- the rest of the count
pub other_bits : (c : ℕ) → c < 2 ^ 32 → (31 + (2 ^ 32 - c)) % 2 ^ 32 % 32 ≡ 31 - c % 32
other_bits c h = omega arith

pub powers : (k : ℕ) → k < 32 → 2 ^ k * 2 ^ (31 - k) ≡ 2 ^ 31
powers k h = let e : k + (31 - k) ≡ 31 = omega arith in sym (pow-add 2 k (31 - k)) ∙ ap (λ n. 2 ^ n) e

-- by 32 more or not
pub chosen : (n lo hi k c big keep : ℕ) → lo < 2 ^ 32 → hi < 2 ^ 32 → n < 2 ^ 64 → two_words lo hi ≡ n / 2 ^ k
    → ((big ≡ 0) × (c ≡ k)) ⊎ ((big ≡ 1) × (c ≡ 32 + k)) → ((big < 1) × (keep ≡ 1)) ⊎ ((1 ≤ big) × (keep ≡ 0))
    → two_words ((lo * keep % 2 ^ 32 + hi * big % 2 ^ 32) % 2 ^ 32) (hi * keep % 2 ^ 32) ≡ n / 2 ^ c
chosen n lo hi k c big keep a b w e (inl f) (inl g) = rw (f.0, f.1, g.1) (omega (arith, e))
chosen n lo hi k c big keep a b w e (inl f) (inr g) = absurd (omega arith)
chosen n lo hi k c big keep a b w e (inr f) (inl g) = absurd (omega arith)
chosen n lo hi k c big keep a b w e (inr f) (inr g) =
    let more : n / 2 ^ k / 2 ^ 32 ≡ n / 2 ^ (k + 32) = shr-shr n k 32 in
    let same : n / 2 ^ (k + 32) ≡ n / 2 ^ (32 + k) = let e : k + 32 ≡ 32 + k = omega arith in ap (λ i. n / 2 ^ i) e in
    rw (f.0, f.1, g.1) (omega (arith, e, more, same))
