-- Numbers of two words.
use Rattle.std.proofs.Common.{◌≡◌, ℕ, ◌+◌, ◌-◌, ◌*◌, ◌/◌, ◌%◌, ◌^◌, ◌<◌, ◌≤◌, Bool, true, false, nat_lt, ◌⊎◌, inl, inr, refl, arith}
use Rattle.std.proofs.lemmas.Bool.Decides.{nat_tests}
use Rattle.rv_exec.specs.Words.{flag}
use Rattle.rv_long.specs.Long.{two_words}

-- what the test of an order gives
pub less : (x y : ℕ) → ((x < y) × (flag (nat_lt x y) ≡ 1)) ⊎ ((y ≤ x) × (flag (nat_lt x y) ≡ 0))
less x y = on (nat_lt x y) refl where
  on : (b : Bool) → nat_lt x y ≡ b → ((x < y) × (flag b ≡ 1)) ⊎ ((y ≤ x) × (flag b ≡ 0))
  on true e = inl (grind (arith, nat_tests, e), refl)
  on false e = inr (grind (arith, nat_tests, e), refl)

-- twice a number, and a bit more
pub doubled : (lo hi bit : ℕ) → lo < 2 ^ 32 → hi < 2 ^ 32 → bit ≤ 1
    → two_words ((lo * 2 % 2 ^ 32 + bit) % 2 ^ 32) ((hi * 2 % 2 ^ 32 + lo / 2 ^ 31) % 2 ^ 32) + hi / 2 ^ 31 * 2 ^ 64 ≡ 2 * two_words lo hi + bit
doubled lo hi bit p q r = omega arith

-- whether one number is less than another, by their words
pub borrow : (xl xh yl yh low high mid : ℕ) → xl < 2 ^ 32 → xh < 2 ^ 32 → yl < 2 ^ 32 → yh < 2 ^ 32
    → ((xl < yl) × (low ≡ 1)) ⊎ ((yl ≤ xl) × (low ≡ 0))
    → ((xh < yh) × (high ≡ 1)) ⊎ ((yh ≤ xh) × (high ≡ 0))
    → (((xh + (2 ^ 32 - yh)) % 2 ^ 32 < low) × (mid ≡ 1)) ⊎ ((low ≤ (xh + (2 ^ 32 - yh)) % 2 ^ 32) × (mid ≡ 0))
    → ((two_words xl xh < two_words yl yh) × ((high + mid) % 2 ^ 32 ≡ 1)) ⊎ ((two_words yl yh ≤ two_words xl xh) × ((high + mid) % 2 ^ 32 ≡ 0))
borrow xl xh yl yh low high mid a b c d (inl l) (inl h) (inl m) = absurd (omega arith)
borrow xl xh yl yh low high mid a b c d (inl l) (inl h) (inr m) = inl (omega arith, omega arith)
borrow xl xh yl yh low high mid a b c d (inl l) (inr h) (inl m) = inl (omega arith, omega arith)
borrow xl xh yl yh low high mid a b c d (inl l) (inr h) (inr m) = inr (omega arith, omega arith)
borrow xl xh yl yh low high mid a b c d (inr l) (inl h) (inl m) = absurd (omega arith)
borrow xl xh yl yh low high mid a b c d (inr l) (inl h) (inr m) = inl (omega arith, omega arith)
borrow xl xh yl yh low high mid a b c d (inr l) (inr h) (inl m) = absurd (omega arith)
borrow xl xh yl yh low high mid a b c d (inr l) (inr h) (inr m) = inr (omega arith, omega arith)

-- less a number, or nothing
pub less_taken : (xl xh yl yh take low : ℕ) → xl < 2 ^ 32 → xh < 2 ^ 32 → yl < 2 ^ 32 → yh < 2 ^ 32 → (take ≡ 0) ⊎ (take ≡ 1)
    → ((xl < yl * take % 2 ^ 32) × (low ≡ 1)) ⊎ ((yl * take % 2 ^ 32 ≤ xl) × (low ≡ 0))
    → two_words ((xl + (2 ^ 32 - yl * take % 2 ^ 32)) % 2 ^ 32) (((xh + (2 ^ 32 - yh * take % 2 ^ 32)) % 2 ^ 32 + (2 ^ 32 - low)) % 2 ^ 32)
    ≡ (two_words xl xh + (2 ^ 64 - two_words yl yh * take)) % 2 ^ 64
less_taken xl xh yl yh take low a b c d (inl z) e = rw z (nothing (rw z at e)) where
  nothing : ((xl < yl * 0 % 2 ^ 32) × (low ≡ 1)) ⊎ ((yl * 0 % 2 ^ 32 ≤ xl) × (low ≡ 0))
      → two_words ((xl + (2 ^ 32 - yl * 0 % 2 ^ 32)) % 2 ^ 32) (((xh + (2 ^ 32 - yh * 0 % 2 ^ 32)) % 2 ^ 32 + (2 ^ 32 - low)) % 2 ^ 32)
      ≡ (two_words xl xh + (2 ^ 64 - two_words yl yh * 0)) % 2 ^ 64
  nothing (inl l) = absurd (omega arith)
  nothing (inr l) = omega arith
less_taken xl xh yl yh take low a b c d (inr z) e = rw z (all (rw z at e)) where
  all : ((xl < yl * 1 % 2 ^ 32) × (low ≡ 1)) ⊎ ((yl * 1 % 2 ^ 32 ≤ xl) × (low ≡ 0))
      → two_words ((xl + (2 ^ 32 - yl * 1 % 2 ^ 32)) % 2 ^ 32) (((xh + (2 ^ 32 - yh * 1 % 2 ^ 32)) % 2 ^ 32 + (2 ^ 32 - low)) % 2 ^ 32)
      ≡ (two_words xl xh + (2 ^ 64 - two_words yl yh * 1)) % 2 ^ 64
  all (inl l) = omega arith
  all (inr l) = omega arith

-- a difference of which bit 64 may be 1 before, and whether it is taken
pub taking : (n t d carry b : ℕ) → t < 2 ^ 64 → d < 2 ^ 64 → t + carry * 2 ^ 64 ≡ n → carry ≤ 1
    → ((t < d) × (b ≡ 1)) ⊎ ((d ≤ t) × (b ≡ 0))
    → (take keep : ℕ) → ((b < 1) × (keep ≡ 1)) ⊎ ((1 ≤ b) × (keep ≡ 0))
    → ((0 < (keep + carry) % 2 ^ 32) × (take ≡ 1)) ⊎ (((keep + carry) % 2 ^ 32 ≤ 0) × (take ≡ 0))
    → ((n < d) × (take ≡ 0)) ⊎ ((d ≤ n) × (take ≡ 1))
taking n t d carry b x y e c (inl l) take keep (inl k) g = absurd (omega arith)
taking n t d carry b x y e c (inr l) take keep (inr k) g = absurd (omega arith)
taking n t d carry b x y e c (inl l) take keep (inr k) (inl g) = inr (omega arith, omega arith)
taking n t d carry b x y e c (inl l) take keep (inr k) (inr g) = inl (omega arith, omega arith)
taking n t d carry b x y e c (inr l) take keep (inl k) (inl g) = inr (omega arith, omega arith)
taking n t d carry b x y e c (inr l) take keep (inl k) (inr g) = absurd (omega arith)

-- what is left after that
pub left_over : (n t d carry take v : ℕ) → t < 2 ^ 64 → d < 2 ^ 64 → t + carry * 2 ^ 64 ≡ n → n < 2 * d
    → ((n < d) × (take ≡ 0)) ⊎ ((d ≤ n) × (take ≡ 1)) → v ≡ (t + (2 ^ 64 - d * take)) % 2 ^ 64
    → (v + take * d ≡ n) × (v < d) × (take ≤ 1)
left_over n t d carry take v x y e h (inl f) g =
    let is : v ≡ (t + (2 ^ 64 - d * 0)) % 2 ^ 64 = rw f.1 at g in
    rw f.1 (omega (arith, is), omega (arith, is), omega arith)
left_over n t d carry take v x y e h (inr f) g =
    let is : v ≡ (t + (2 ^ 64 - d * 1)) % 2 ^ 64 = rw f.1 at g in
    rw f.1 (omega (arith, is), omega (arith, is), omega arith)

pub is_bit : (n d take : ℕ) → ((n < d) × (take ≡ 0)) ⊎ ((d ≤ n) × (take ≡ 1)) → (take ≡ 0) ⊎ (take ≡ 1)
is_bit n d take (inl f) = inl f.1
is_bit n d take (inr f) = inr f.1

pub at_most_one : (take : ℕ) → (take ≡ 0) ⊎ (take ≡ 1) → take ≤ 1
at_most_one take (inl f) = omega arith
at_most_one take (inr f) = omega arith
