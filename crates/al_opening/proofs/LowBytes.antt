-- The lowest bytes of a number.
use Rattle.std.proofs.Common.{◌≡◌, ℕ, zero, suc, ◌+◌, ◌*◌, ◌/◌, ◌%◌, ◌^◌, ◌<◌, ◌≤◌, ◌∷◌, refl, ap, sym, ◌∙◌, arith}
use Rattle.std.proofs.Math.Nat.{mod-eq_of_lt}
use Rattle.std.proofs.Math.Pow.{mod-mod-pow}
use Rattle.std.proofs.lemmas.Nat.{field_of}
use Rattle.al_event.specs.Store.{bytes_of}

low_of : (m size n : ℕ) → size ≤ m → bytes_of size (n % 2 ^ (8 * m)) ≡ bytes_of size n
low_of m zero n h = refl
low_of zero (suc s) n h = absurd (omega (arith, h))
low_of (suc m) (suc s) n h =
    let e : n % 2 ^ (8 * suc m) ≡ n % 2 ^ (8 * m + 8) = ap (λ k. n % 2 ^ k) (omega arith) in
    let low : n % 2 ^ (8 * m + 8) % 256 ≡ n % 256 = mod-mod-pow n (8 * m) 8 in
    let high : n % 2 ^ (8 * m + 8) / 256 ≡ n / 256 % 2 ^ (8 * m) = field_of n (8 * m) 8 in
    ap (bytes_of (suc s)) e
    ∙ (ap (λ w. w ∷ bytes_of s (n % 2 ^ (8 * m + 8) / 256)) low
    ∙ (ap (λ w. n % 256 ∷ bytes_of s w) high
    ∙ ap (λ l. n % 256 ∷ l) (low_of m s (n / 256) (omega (arith, h)))))

pub same-low : (size n low : ℕ) → size ≤ 4 → low ≡ n % 2 ^ 32 → bytes_of size low ≡ bytes_of size n
same-low size n low h e = ap (bytes_of size) e ∙ low_of 4 size n h

pub ruleset low_bytes = (same-low)

pub word-small : (word : ℕ) → word < 2 ^ 32 → word ≡ word % 2 ^ 32
word-small word h = sym (mod-eq_of_lt h)

pub ruleset small_words = (word-small)
