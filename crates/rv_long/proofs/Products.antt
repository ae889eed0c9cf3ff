-- Products of numbers of two words.
use Rattle.std.proofs.Common.{◌≡◌, ℕ, zero, suc, ◌+◌, ◌-◌, ◌*◌, ◌/◌, ◌%◌, ◌^◌, ◌<◌, ◌⊎◌, inl, inr, refl, sym, ap, ◌∙◌, arith}
use Rattle.std.proofs.Math.Nat.{mul-add, add-mul, mul_assoc, mul_comm}
use Rattle.std.proofs.lemmas.Nat.{pow-add, one_shl}
use Rattle.rv_long.specs.Long.{two_words}

expanded : (a b c d k : ℕ) → (a + b * k) * (c + d * k) ≡ a * c + (a * d + b * c) * k + b * d * (k * k)
expanded a b c d k =
    let first : (a + b * k) * (c + d * k) ≡ a * (c + d * k) + b * k * (c + d * k) = add-mul a (b * k) (c + d * k) in
    let one : a * (c + d * k) ≡ a * c + a * d * k = omega (arith, mul-add a c (d * k), mul_assoc a d k) in
    let both : b * k * (c + d * k) ≡ b * k * c + b * k * (d * k) = mul-add (b * k) c (d * k) in
    let three : b * k * c ≡ b * c * k = omega (arith, mul_assoc b k c, mul_comm k c, mul_assoc b c k, ap (λ x. b * x) (mul_comm k c)) in
    let four : b * k * (d * k) ≡ b * d * (k * k) =
    mul_assoc b k (d * k) ∙ ap (λ x. b * x) (sym (mul_assoc k d k) ∙ ap (λ x. x * k) (mul_comm k d) ∙ mul_assoc d k k) ∙ sym (mul_assoc b d (k * k)) in
    omega (arith, first, one, both, three, four, add-mul (a * d) (b * c) k)

-- the low half of a product, of the products of words
low_half : (p x y z : ℕ) → two_words (p % 2 ^ 32) (((x % 2 ^ 32 + y % 2 ^ 32) % 2 ^ 32 + p / 2 ^ 32) % 2 ^ 32) ≡ (p + (x + y) * 2 ^ 32 + z * 2 ^ 64) % 2 ^ 64
low_half p x y z = omega arith

pub product_two : (a b c d : ℕ)
    → two_words (a * c % 2 ^ 32) (((a * d % 2 ^ 32 + b * c % 2 ^ 32) % 2 ^ 32 + a * c / 2 ^ 32) % 2 ^ 32) ≡ two_words a b * two_words c d % 2 ^ 64
product_two a b c d = low_half (a * c) (a * d) (b * c) (b * d) ∙ ap (λ n. n % 2 ^ 64) (sym (expanded a b c d (2 ^ 32)))

-- whether a count is 32 or more, modulo 64
pub bit_five : (c : ℕ) → c < 2 ^ 32 → ((c * 2 ^ 26 % 2 ^ 32 / 2 ^ 31 ≡ 0) × (c % 64 ≡ c % 32)) ⊎ ((c * 2 ^ 26 % 2 ^ 32 / 2 ^ 31 ≡ 1) × (c % 64 ≡ 32 + c % 32))
bit_five c h = on (c / 32 % 2) refl where
  on : (n : ℕ) → c / 32 % 2 ≡ n → ((c * 2 ^ 26 % 2 ^ 32 / 2 ^ 31 ≡ 0) × (c % 64 ≡ c % 32)) ⊎ ((c * 2 ^ 26 % 2 ^ 32 / 2 ^ 31 ≡ 1) × (c % 64 ≡ 32 + c % 32))
  on zero e = inl (omega arith, omega arith)
  on (suc n) e = inr (omega arith, omega arith)

-- a power of two of two words
pub power_two : (c k big : ℕ) → k < 32 → ((big ≡ 0) × (c ≡ k)) ⊎ ((big ≡ 1) × (c ≡ 32 + k))
    → two_words ((1 * 2 ^ k % 2 ^ 32 + (2 ^ 32 - 1 * 2 ^ k % 2 ^ 32 * big % 2 ^ 32)) % 2 ^ 32) (1 * 2 ^ k % 2 ^ 32 * big % 2 ^ 32) ≡ 2 ^ c
power_two c k big h (inl e) =
    let p : 1 * 2 ^ k % 2 ^ 32 ≡ 2 ^ k = one_shl k 32 h in
    let small : 1 * 2 ^ k % 2 ^ 32 < 2 ^ 32 = omega arith in
    rw (e.0, e.1) (omega (arith, p, small))
power_two c k big h (inr e) =
    let p : 1 * 2 ^ k % 2 ^ 32 ≡ 2 ^ k = one_shl k 32 h in
    let small : 1 * 2 ^ k % 2 ^ 32 < 2 ^ 32 = omega arith in
    rw (e.0, e.1) (omega (arith, p, small, pow-add 2 32 k))
