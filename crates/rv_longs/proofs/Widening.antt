-- The words of integers that are converted to 64 bits.
use Rattle.std.proofs.Common.{◌≡◌, ℕ, ◌+◌, ◌-◌, ◌*◌, ◌/◌, ◌%◌, ◌^◌, ◌<◌, ◌≤◌, Bool, true, false, ◌&&◌, nat_le, nat_lt, if◌then◌else◌, ℤ, pos, negsuc, ◌+ℤ◌, ◌-ℤ◌, refl, sym, ap, ◌∙◌, arith}
use Rattle.std.proofs.lemmas.Int.{ints}
use Rattle.std.proofs.lemmas.Bool.Decides.{nat_tests}
use Rattle.al_base.specs.Arith.{is_signed, wrapped, integer_of, value_of}
use Rattle.al_base.specs.declared.arith.Kind.{Kind}
use Rattle.al_base.specs.declared.arith.Kind.TheVariants as kind
use Rattle.al_base.proofs.Products.{wrapped-value}
use Rattle.rv_exec.specs.Words.{shifted_right_signed}
use Rattle.rv_form.specs.Words.{low_word}
use Rattle.rv_words.proofs.Computing.{Computes}
use Rattle.rv_pairs.proofs.Widths.{IsNarrow, keeps_byte, keeps_two, keeps_four, extends_sign}

-- ---- what the instructions compute

abbrev pub IsWide : Kind → Type 0
IsWide kind.Lint = Unit {0}
IsWide kind.Ulint = Unit {0}
IsWide _ = ⊥

-- the high word of a low one that is extended
abbrev pub high_of : Bool → ℕ → ℕ
high_of true x = shifted_right_signed x 31
high_of false x = 0

-- the bits of an integer of at most 32 bits, as one of 64 bits
abbrev pub widened : Kind → ℕ → ℕ
widened from x = wrapped 64 (integer_of from x)

-- the words of it
pub record Widens (from into : Kind) : Type 0 where
  pub value : ℕ → ℕ
  pub computes : Computes value (low_word from into)
  pub low : (x : ℕ) → x < 2 ^ 32 → value x ≡ widened from x % 2 ^ 32
  pub high : (x : ℕ) → x < 2 ^ 32 → high_of (is_signed from) (value x) ≡ widened from x / 2 ^ 32

wraps32 : (z : ℤ) (n k : ℕ) → z +ℤ pos (k * 2 ^ 32) ≡ pos n → wrapped 32 z ≡ n % 2 ^ 32
wraps32 (pos m) n k e = let f : m + k * 2 ^ 32 ≡ n = omega (arith, ints, e) in omega (arith, f)
wraps32 (negsuc m) n k e = let f : k * 2 ^ 32 ≡ n + (m + 1) = omega (arith, ints, e) in omega (arith, f)

wraps64 : (z : ℤ) (n k : ℕ) → z +ℤ pos (k * 2 ^ 64) ≡ pos n → wrapped 64 z ≡ n % 2 ^ 64
wraps64 (pos m) n k e = let f : m + k * 2 ^ 64 ≡ n = omega (arith, ints, e) in omega (arith, f)
wraps64 (negsuc m) n k e = let f : k * 2 ^ 64 ≡ n + (m + 1) = omega (arith, ints, e) in omega (arith, f)

-- copies of the sign
sign_off : (y : ℕ) → y < 2 ^ 31 → shifted_right_signed y 31 ≡ 0
sign_off y less = on (nat_lt y (2 ^ 31)) (grind (arith, nat_tests, less)) where
  on : (b : Bool) → b ≡ true → (if b then y else y + (2 ^ 64 - 2 ^ 32)) / 2 ^ 31 % 2 ^ 32 ≡ 0
  on b e = rw e (omega (arith, less))

sign_on : (y : ℕ) → 2 ^ 31 ≤ y → y < 2 ^ 32 → shifted_right_signed y 31 ≡ 2 ^ 32 - 1
sign_on y more less = on (nat_lt y (2 ^ 31)) (grind (arith, nat_tests, more)) where
  on : (b : Bool) → b ≡ false → (if b then y else y + (2 ^ 64 - 2 ^ 32)) / 2 ^ 31 % 2 ^ 32 ≡ 2 ^ 32 - 1
  on b e = rw e (omega (arith, more, less))

-- with a sign the low word is that in 32 bits, and the high one has copies of the sign
short_words : (x : ℕ) → (wrapped 32 (value_of true 16 x) ≡ wrapped 64 (value_of true 16 x) % 2 ^ 32) × (shifted_right_signed (wrapped 32 (value_of true 16 x)) 31 ≡ wrapped 64 (value_of true 16 x) / 2 ^ 32)
short_words x = on (nat_le (2 ^ 15) (x % 2 ^ 16)) refl where
  below : (n : ℕ) → 2 ^ 15 ≤ n → n < 2 ^ 16
      → (wrapped 32 (pos n -ℤ pos (2 ^ 16)) ≡ wrapped 64 (pos n -ℤ pos (2 ^ 16)) % 2 ^ 32) × (shifted_right_signed (wrapped 32 (pos n -ℤ pos (2 ^ 16))) 31 ≡ wrapped 64 (pos n -ℤ pos (2 ^ 16)) / 2 ^ 32)
  below n more less =
      let a : wrapped 32 (pos n -ℤ pos (2 ^ 16)) ≡ (n + (2 ^ 32 - 2 ^ 16)) % 2 ^ 32 = wraps32 (pos n -ℤ pos (2 ^ 16)) (n + (2 ^ 32 - 2 ^ 16)) 1 (omega (arith, ints)) in
      let b : wrapped 64 (pos n -ℤ pos (2 ^ 16)) ≡ (n + (2 ^ 64 - 2 ^ 16)) % 2 ^ 64 = wraps64 (pos n -ℤ pos (2 ^ 16)) (n + (2 ^ 64 - 2 ^ 16)) 1 (omega (arith, ints)) in
      let y : ℕ = (n + (2 ^ 32 - 2 ^ 16)) % 2 ^ 32 in
      let low : y ≡ (n + (2 ^ 64 - 2 ^ 16)) % 2 ^ 64 % 2 ^ 32 = omega arith in
      let high : 2 ^ 32 - 1 ≡ (n + (2 ^ 64 - 2 ^ 16)) % 2 ^ 64 / 2 ^ 32 = omega (arith, less) in
      (a ∙ low ∙ ap (λ k. k % 2 ^ 32) (sym b), ap (λ k. shifted_right_signed k 31) a ∙ sign_on y (omega (arith, more, less)) (omega arith) ∙ high ∙ ap (λ k. k / 2 ^ 32) (sym b))

  above : (n : ℕ) → n < 2 ^ 15
      → (wrapped 32 (pos n) ≡ wrapped 64 (pos n) % 2 ^ 32) × (shifted_right_signed (wrapped 32 (pos n)) 31 ≡ wrapped 64 (pos n) / 2 ^ 32)
  above n less = (omega (arith, less), sign_off (wrapped 32 (pos n)) (omega (arith, less)) ∙ omega (arith, less))

  on : (b : Bool) → nat_le (2 ^ 15) (x % 2 ^ 16) ≡ b
      → (wrapped 32 (if true && b then pos (x % 2 ^ 16) -ℤ pos (2 ^ 16) else pos (x % 2 ^ 16)) ≡ wrapped 64 (if true && b then pos (x % 2 ^ 16) -ℤ pos (2 ^ 16) else pos (x % 2 ^ 16)) % 2 ^ 32)
      × (shifted_right_signed (wrapped 32 (if true && b then pos (x % 2 ^ 16) -ℤ pos (2 ^ 16) else pos (x % 2 ^ 16))) 31 ≡ wrapped 64 (if true && b then pos (x % 2 ^ 16) -ℤ pos (2 ^ 16) else pos (x % 2 ^ 16)) / 2 ^ 32)
  on true e = below (x % 2 ^ 16) (grind (arith, nat_tests, e)) (omega arith)
  on false e = above (x % 2 ^ 16) (grind (arith, nat_tests, e))

int_words : (x : ℕ) → x < 2 ^ 32 → (x % 2 ^ 32 ≡ wrapped 64 (value_of true 32 x) % 2 ^ 32) × (shifted_right_signed (x % 2 ^ 32) 31 ≡ wrapped 64 (value_of true 32 x) / 2 ^ 32)
int_words x small = on (nat_le (2 ^ 31) (x % 2 ^ 32)) refl where
  on : (b : Bool) → nat_le (2 ^ 31) (x % 2 ^ 32) ≡ b
      → (x % 2 ^ 32 ≡ wrapped 64 (if true && b then pos (x % 2 ^ 32) -ℤ pos (2 ^ 32) else pos (x % 2 ^ 32)) % 2 ^ 32)
      × (shifted_right_signed (x % 2 ^ 32) 31 ≡ wrapped 64 (if true && b then pos (x % 2 ^ 32) -ℤ pos (2 ^ 32) else pos (x % 2 ^ 32)) / 2 ^ 32)
  on true e =
      let more : 2 ^ 31 ≤ x % 2 ^ 32 = grind (arith, nat_tests, e) in
      let n : ℕ = x % 2 ^ 32 in
      let b : wrapped 64 (pos n -ℤ pos (2 ^ 32)) ≡ (n + (2 ^ 64 - 2 ^ 32)) % 2 ^ 64 = wraps64 (pos n -ℤ pos (2 ^ 32)) (n + (2 ^ 64 - 2 ^ 32)) 1 (omega (arith, ints)) in
      let low : n ≡ (n + (2 ^ 64 - 2 ^ 32)) % 2 ^ 64 % 2 ^ 32 = omega arith in
      let high : 2 ^ 32 - 1 ≡ (n + (2 ^ 64 - 2 ^ 32)) % 2 ^ 64 / 2 ^ 32 = omega (arith, more) in
      (low ∙ ap (λ k. k % 2 ^ 32) (sym b), sign_on n more (omega arith) ∙ high ∙ ap (λ k. k / 2 ^ 32) (sym b))
  on false e =
      let less : x % 2 ^ 32 < 2 ^ 31 = grind (arith, nat_tests, e) in
      (omega (arith, less), sign_off (x % 2 ^ 32) less ∙ omega (arith, less))

-- of all kinds of at most 32 bits
pub widen : (from into : Kind) → IsNarrow from → IsWide into → Widens from into
widen from kind.Byte n w = absurd w
widen from kind.Sint n w = absurd w
widen from kind.Usint n w = absurd w
widen from kind.Int n w = absurd w
widen from kind.Uint n w = absurd w
widen kind.Byte kind.Lint n w = record { value = λ x. x % 2 ^ 8; computes = keeps_byte; low = λ x a. omega arith; high = λ x a. omega arith }
widen kind.Byte kind.Ulint n w = record { value = λ x. x % 2 ^ 8; computes = keeps_byte; low = λ x a. omega arith; high = λ x a. omega arith }
widen kind.Sint kind.Lint n w = record { value = λ x. wrapped 32 (value_of true 16 x); computes = extends_sign; low = λ x a. (short_words x).0; high = λ x a. (short_words x).1 }
widen kind.Sint kind.Ulint n w = record { value = λ x. wrapped 32 (value_of true 16 x); computes = extends_sign; low = λ x a. (short_words x).0; high = λ x a. (short_words x).1 }
widen kind.Usint kind.Lint n w = record { value = λ x. x % 2 ^ 16; computes = keeps_two; low = λ x a. omega arith; high = λ x a. omega arith }
widen kind.Usint kind.Ulint n w = record { value = λ x. x % 2 ^ 16; computes = keeps_two; low = λ x a. omega arith; high = λ x a. omega arith }
widen kind.Int kind.Lint n w = record { value = λ x. x % 2 ^ 32; computes = keeps_four; low = λ x a. (int_words x a).0; high = λ x a. (int_words x a).1 }
widen kind.Int kind.Ulint n w = record { value = λ x. x % 2 ^ 32; computes = keeps_four; low = λ x a. (int_words x a).0; high = λ x a. (int_words x a).1 }
widen kind.Uint kind.Lint n w = record { value = λ x. x % 2 ^ 32; computes = keeps_four; low = λ x a. omega arith; high = λ x a. omega arith }
widen kind.Uint kind.Ulint n w = record { value = λ x. x % 2 ^ 32; computes = keeps_four; low = λ x a. omega arith; high = λ x a. omega arith }
widen kind.Lint kind.Lint n w = absurd n
widen kind.Lint kind.Ulint n w = absurd n
widen kind.Ulint kind.Lint n w = absurd n
widen kind.Ulint kind.Ulint n w = absurd n

-- from 64 bits both words stay
pub keeps_low : (from into : Kind) → IsWide from → IsWide into → Computes (λ x. x % 2 ^ 32) (low_word from into)
keeps_low kind.Lint kind.Lint v w = keeps_four
keeps_low kind.Lint kind.Ulint v w = keeps_four
keeps_low kind.Ulint kind.Lint v w = keeps_four
keeps_low kind.Ulint kind.Ulint v w = keeps_four
keeps_low kind.Lint kind.Byte v w = absurd w
keeps_low kind.Lint kind.Sint v w = absurd w
keeps_low kind.Lint kind.Usint v w = absurd w
keeps_low kind.Lint kind.Int v w = absurd w
keeps_low kind.Lint kind.Uint v w = absurd w
keeps_low kind.Ulint kind.Byte v w = absurd w
keeps_low kind.Ulint kind.Sint v w = absurd w
keeps_low kind.Ulint kind.Usint v w = absurd w
keeps_low kind.Ulint kind.Int v w = absurd w
keeps_low kind.Ulint kind.Uint v w = absurd w
keeps_low kind.Byte _ v w = absurd v
keeps_low kind.Sint _ v w = absurd v
keeps_low kind.Usint _ v w = absurd v
keeps_low kind.Int _ v w = absurd v
keeps_low kind.Uint _ v w = absurd v

same_pair : (s : Bool) (low high : ℕ) → low < 2 ^ 32 → high < 2 ^ 32
    → (low % 2 ^ 32 ≡ wrapped 64 (value_of s 64 (low + 2 ^ 32 * high)) % 2 ^ 32) × (high ≡ wrapped 64 (value_of s 64 (low + 2 ^ 32 * high)) / 2 ^ 32)
same_pair s low high a b =
    let n : ℕ = low + 2 ^ 32 * high in
    let e : low % 2 ^ 32 ≡ n % 2 ^ 64 % 2 ^ 32 = omega (arith, a, b) in
    let f : high ≡ n % 2 ^ 64 / 2 ^ 32 = omega (arith, a, b) in
    (e ∙ ap (λ k. k % 2 ^ 32) (sym (wrapped-value 64 s n)), f ∙ ap (λ k. k / 2 ^ 32) (sym (wrapped-value 64 s n)))

pub pair_stays : (from : Kind) → IsWide from → (low high : ℕ) → low < 2 ^ 32 → high < 2 ^ 32
    → (low % 2 ^ 32 ≡ widened from (low + 2 ^ 32 * high) % 2 ^ 32) × (high ≡ widened from (low + 2 ^ 32 * high) / 2 ^ 32)
pair_stays kind.Lint v low high a b = same_pair true low high a b
pair_stays kind.Ulint v low high a b = same_pair false low high a b
pair_stays kind.Byte v low high a b = absurd v
pair_stays kind.Sint v low high a b = absurd v
pair_stays kind.Usint v low high a b = absurd v
pair_stays kind.Int v low high a b = absurd v
pair_stays kind.Uint v low high a b = absurd v
