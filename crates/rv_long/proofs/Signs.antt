-- Signs.
use Rattle.std.proofs.Common.{◌≡◌, ℕ, ◌+◌, ◌-◌, ◌%◌, ◌^◌, ◌<◌, ◌≤◌, ◌⊎◌, inl, inr, arith}
use Rattle.std.specs.Prelude.{bit_xor}
use Rattle.std.specs.Int.Bits.{xor_add_and, xor_zero_r}
use Rattle.std.proofs.lemmas.Nat.{and_mask}
use Rattle.rv_long.specs.Long.{two_words}

-- each bit of a word turned, or none
pub turned : (x : ℕ) → x < 2 ^ 32 → bit_xor x (2 ^ 32 - 1) ≡ 2 ^ 32 - 1 - x
turned x h = omega (arith, xor_add_and x (2 ^ 32 - 1), and_mask x 32)

pub same : (x : ℕ) → bit_xor x 0 ≡ x
same x = xor_zero_r x

-- a sign is 0 or 1, and its mask has it in each bit
abbrev pub mask : ℕ → ℕ
mask n = (0 + (2 ^ 32 - n)) % 2 ^ 32

pub turned_by : (x n : ℕ) → x < 2 ^ 32 → (n ≡ 0) ⊎ (n ≡ 1)
    → ((n ≡ 0) × (bit_xor x (mask n) ≡ x)) ⊎ ((n ≡ 1) × (bit_xor x (mask n) ≡ 2 ^ 32 - 1 - x))
turned_by x n h (inl z) = inl (z, rw z (same x))
turned_by x n h (inr o) = inr (o, rw o (turned x h))

-- a number, or what is above it
pub complement_two : (lo hi n lo' hi' : ℕ) → lo < 2 ^ 32 → hi < 2 ^ 32
    → ((n ≡ 0) × (lo' ≡ lo)) ⊎ ((n ≡ 1) × (lo' ≡ 2 ^ 32 - 1 - lo))
    → ((n ≡ 0) × (hi' ≡ hi)) ⊎ ((n ≡ 1) × (hi' ≡ 2 ^ 32 - 1 - hi))
    → ((n ≡ 0) × (two_words lo' hi' ≡ two_words lo hi)) ⊎ ((n ≡ 1) × (two_words lo' hi' ≡ 2 ^ 64 - 1 - two_words lo hi))
complement_two lo hi n lo' hi' a b (inl l) (inl h) = inl (l.0, omega arith)
complement_two lo hi n lo' hi' a b (inl l) (inr h) = absurd (omega arith)
complement_two lo hi n lo' hi' a b (inr l) (inl h) = absurd (omega arith)
complement_two lo hi n lo' hi' a b (inr l) (inr h) = inr (l.0, omega arith)

-- one more where the sign is 1
pub one_more : (lo hi n carry : ℕ) → lo < 2 ^ 32 → hi < 2 ^ 32 → (n ≡ 0) ⊎ (n ≡ 1)
    → (((lo + n) % 2 ^ 32 < n) × (carry ≡ 1)) ⊎ ((n ≤ (lo + n) % 2 ^ 32) × (carry ≡ 0))
    → two_words ((lo + n) % 2 ^ 32) ((hi + carry) % 2 ^ 32) ≡ (two_words lo hi + n) % 2 ^ 64
one_more lo hi n carry a b (inl z) (inl c) = absurd (omega arith)
one_more lo hi n carry a b (inl z) (inr c) = omega arith
one_more lo hi n carry a b (inr z) (inl c) = omega arith
one_more lo hi n carry a b (inr z) (inr c) = omega arith
