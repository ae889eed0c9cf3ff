-- The words of integers that are converted.
use Rattle.std.proofs.Common.{◌≡◌, ◌≢◌, ℕ, ◌+◌, ◌-◌, ◌*◌, ◌/◌, ◌%◌, ◌^◌, ◌<◌, ◌≤◌, ◌==◌, Bool, true, false, ◌&&◌, nat_le, nat_lt, if◌then◌else◌, ℤ, pos, negsuc, ◌+ℤ◌, ◌-ℤ◌, List, [], ◌∷◌, refl, sym, ap, ◌∙◌, arith}
use Rattle.std.specs.Prelude.{bit_and}
use Rattle.std.proofs.lemmas.Nat.{and_mask}
use Rattle.std.proofs.lemmas.Bool.Decides.{nat_tests}
use Rattle.std.proofs.lemmas.Int.{ints}
use Rattle.al_base.specs.Arith.{width_of, wrapped, integer_of, value_of}
use Rattle.al_base.specs.declared.arith.Kind.{Kind}
use Rattle.al_base.specs.declared.arith.Kind.TheVariants as kind
use Rattle.al_base.proofs.Products.{wrapped-value}
use Rattle.al_meaning.specs.Words.{bits_of}
use Rattle.rv_isa.specs.declared.instr.Instr.{Instr}
use Rattle.rv_isa.specs.declared.instr.Instr.TheVariants.{Shift}
use Rattle.rv_isa.specs.declared.instr.ShiftOp.TheVariants.{Slli, Srai}
use Rattle.rv_exec.specs.Hart.{put}
use Rattle.rv_exec.specs.Words.{sum_of, sign_extended}
use Rattle.rv_code.proofs.Operands.{operand_some}
use Rattle.rv_code.proofs.Slots.{put_same}
use Rattle.rv_form.specs.Words.{low_bytes, low_word}
use Rattle.rv_words.proofs.Computing.{Computes}
use Rattle.rv_words.proofs.Straight.{reg, reg_put}

-- ---- bytes of a word

pub keeps_byte : Computes (λ x. x % 2 ^ 8) (low_bytes 1)
keeps_byte = record {
  straight = λ d a. (tt, tt);
  gives = λ d a r id ia small. put_same r d _ ∙ and_mask (reg r a) 8;
  spares = λ d a k other q. (other, tt);
}

pub keeps_two : Computes (λ x. x % 2 ^ 16) (low_bytes 2)
keeps_two = record {
  straight = λ d a. (tt, (tt, tt));
  gives = λ d a r id ia small.
      let y : ℕ = reg r a * 2 ^ 16 % 2 ^ 32 in
      put_same (put r d y) d _ ∙ ap (λ k. k / 2 ^ 16) (reg_put r d y (operand_some 10 d (omega arith) id)) ∙ omega (arith, small);
  spares = λ d a k other q. (other, (other, tt));
}

pub keeps_four : Computes (λ x. x % 2 ^ 32) (low_bytes 4)
keeps_four = record {
  straight = λ d a. (tt, tt);
  gives = λ d a r id ia small. let e : sum_of (reg r a) 0 ≡ reg r a % 2 ^ 32 = omega arith in put_same r d _ ∙ e;
  spares = λ d a k other q. (other, tt);
}

-- ---- integers that are cut off

wraps8 : (z : ℤ) (n k : ℕ) → z +ℤ pos (k * 2 ^ 8) ≡ pos n → wrapped 8 z ≡ n % 2 ^ 8
wraps8 (pos m) n k e = let f : m + k * 2 ^ 8 ≡ n = omega (arith, ints, e) in omega (arith, f)
wraps8 (negsuc m) n k e = let f : k * 2 ^ 8 ≡ n + (m + 1) = omega (arith, ints, e) in omega (arith, f)

wraps16 : (z : ℤ) (n k : ℕ) → z +ℤ pos (k * 2 ^ 16) ≡ pos n → wrapped 16 z ≡ n % 2 ^ 16
wraps16 (pos m) n k e = let f : m + k * 2 ^ 16 ≡ n = omega (arith, ints, e) in omega (arith, f)
wraps16 (negsuc m) n k e = let f : k * 2 ^ 16 ≡ n + (m + 1) = omega (arith, ints, e) in omega (arith, f)

wraps32 : (z : ℤ) (n k : ℕ) → z +ℤ pos (k * 2 ^ 32) ≡ pos n → wrapped 32 z ≡ n % 2 ^ 32
wraps32 (pos m) n k e = let f : m + k * 2 ^ 32 ≡ n = omega (arith, ints, e) in omega (arith, f)
wraps32 (negsuc m) n k e = let f : k * 2 ^ 32 ≡ n + (m + 1) = omega (arith, ints, e) in omega (arith, f)

wraps64 : (z : ℤ) (n k : ℕ) → z +ℤ pos (k * 2 ^ 64) ≡ pos n → wrapped 64 z ≡ n % 2 ^ 64
wraps64 (pos m) n k e = let f : m + k * 2 ^ 64 ≡ n = omega (arith, ints, e) in omega (arith, f)
wraps64 (negsuc m) n k e = let f : k * 2 ^ 64 ≡ n + (m + 1) = omega (arith, ints, e) in omega (arith, f)

cut_8_16 : (t : Bool) (m : ℕ) → wrapped 8 (if true && t then pos m -ℤ pos (2 ^ 16) else pos m) ≡ m % 2 ^ 8
cut_8_16 true m = wraps8 (pos m -ℤ pos (2 ^ 16)) m (2 ^ 8) (omega (arith, ints))
cut_8_16 false m = refl

cut_8_32 : (t : Bool) (m : ℕ) → wrapped 8 (if true && t then pos m -ℤ pos (2 ^ 32) else pos m) ≡ m % 2 ^ 8
cut_8_32 true m = wraps8 (pos m -ℤ pos (2 ^ 32)) m (2 ^ 24) (omega (arith, ints))
cut_8_32 false m = refl

cut_8_64 : (t : Bool) (m : ℕ) → wrapped 8 (if true && t then pos m -ℤ pos (2 ^ 64) else pos m) ≡ m % 2 ^ 8
cut_8_64 true m = wraps8 (pos m -ℤ pos (2 ^ 64)) m (2 ^ 56) (omega (arith, ints))
cut_8_64 false m = refl

cut_16_32 : (t : Bool) (m : ℕ) → wrapped 16 (if true && t then pos m -ℤ pos (2 ^ 32) else pos m) ≡ m % 2 ^ 16
cut_16_32 true m = wraps16 (pos m -ℤ pos (2 ^ 32)) m (2 ^ 16) (omega (arith, ints))
cut_16_32 false m = refl

cut_16_64 : (t : Bool) (m : ℕ) → wrapped 16 (if true && t then pos m -ℤ pos (2 ^ 64) else pos m) ≡ m % 2 ^ 16
cut_16_64 true m = wraps16 (pos m -ℤ pos (2 ^ 64)) m (2 ^ 48) (omega (arith, ints))
cut_16_64 false m = refl

cut_32_64 : (t : Bool) (m : ℕ) → wrapped 32 (if true && t then pos m -ℤ pos (2 ^ 64) else pos m) ≡ m % 2 ^ 32
cut_32_64 true m = wraps32 (pos m -ℤ pos (2 ^ 64)) m (2 ^ 32) (omega (arith, ints))
cut_32_64 false m = refl

-- ---- 16 bits with a sign

sign_word_is : (x : ℕ) → sign_extended (x * 2 ^ 16 % 2 ^ 32) / 2 ^ 16 % 2 ^ 32 ≡ wrapped 32 (value_of true 16 x)
sign_word_is x = on (nat_lt (x * 2 ^ 16 % 2 ^ 32) (2 ^ 31)) (nat_le (2 ^ 15) (x % 2 ^ 16)) refl refl where
  on : (b d : Bool) → nat_lt (x * 2 ^ 16 % 2 ^ 32) (2 ^ 31) ≡ b → nat_le (2 ^ 15) (x % 2 ^ 16) ≡ d
      → (if b then x * 2 ^ 16 % 2 ^ 32 else x * 2 ^ 16 % 2 ^ 32 + (2 ^ 64 - 2 ^ 32)) / 2 ^ 16 % 2 ^ 32 ≡ wrapped 32 (if true && d then pos (x % 2 ^ 16) -ℤ pos (2 ^ 16) else pos (x % 2 ^ 16))
  on true true e f =
      let less : x * 2 ^ 16 % 2 ^ 32 < 2 ^ 31 = grind (arith, nat_tests, e) in
      let more : 2 ^ 15 ≤ x % 2 ^ 16 = grind (arith, nat_tests, f) in
      absurd (omega (arith, less, more))
  on false false e f =
      let more : 2 ^ 31 ≤ x * 2 ^ 16 % 2 ^ 32 = grind (arith, nat_tests, e) in
      let less : x % 2 ^ 16 < 2 ^ 15 = grind (arith, nat_tests, f) in
      absurd (omega (arith, less, more))
  on true false e f = omega arith
  on false true e f =
      let more : 2 ^ 15 ≤ x % 2 ^ 16 = grind (arith, nat_tests, f) in
      let value : (x * 2 ^ 16 % 2 ^ 32 + (2 ^ 64 - 2 ^ 32)) / 2 ^ 16 % 2 ^ 32 ≡ (x % 2 ^ 16 + (2 ^ 32 - 2 ^ 16)) % 2 ^ 32 = omega (arith, more) in
      value ∙ sym (wraps32 (pos (x % 2 ^ 16) -ℤ pos (2 ^ 16)) (x % 2 ^ 16 + (2 ^ 32 - 2 ^ 16)) 1 (omega (arith, ints)))

pub extends_sign : Computes (λ x. wrapped 32 (value_of true 16 x)) (λ d a. Shift Slli d a 16 ∷ Shift Srai d d 16 ∷ [])
extends_sign = record {
  straight = λ d a. (tt, (tt, tt));
  gives = λ d a r id ia small.
      let y : ℕ = reg r a * 2 ^ 16 % 2 ^ 32 in
      put_same (put r d y) d _ ∙ ap (λ k. sign_extended k / 2 ^ 16 % 2 ^ 32) (reg_put r d y (operand_some 10 d (omega arith) id)) ∙ sign_word_is (reg r a);
  spares = λ d a k other q. (other, (other, tt));
}

-- ---- kinds of at most 32 bits

abbrev pub IsNarrow : Kind → Type 0
IsNarrow kind.Lint = ⊥
IsNarrow kind.Ulint = ⊥
IsNarrow _ = Unit {0}

-- the words of an integer of a kind: two where it has 64 bits
abbrev pub source : Kind → (low high : ℕ) → List ℕ
source kind.Lint low high = low ∷ high ∷ []
source kind.Ulint low high = low ∷ high ∷ []
source _ low high = low ∷ []

-- a conversion to such a kind is computed from the low word
pub record Narrows (from into : Kind) : Type 0 where
  pub value : ℕ → ℕ
  pub computes : Computes value (low_word from into)
  pub is : (low high : ℕ) → low < 2 ^ 32 → high < 2 ^ 32 → value low ≡ wrapped (width_of into) (integer_of from (bits_of (source from low high)))

pub narrow : (from into : Kind) → IsNarrow into → Narrows from into
narrow kind.Byte kind.Byte n = record { value = λ x. x % 2 ^ 8; computes = keeps_byte; is = λ low high a b. omega (arith, a) }
narrow kind.Byte kind.Sint n = record { value = λ x. x % 2 ^ 8; computes = keeps_byte; is = λ low high a b. omega (arith, a) }
narrow kind.Byte kind.Usint n = record { value = λ x. x % 2 ^ 8; computes = keeps_byte; is = λ low high a b. omega (arith, a) }
narrow kind.Byte kind.Int n = record { value = λ x. x % 2 ^ 8; computes = keeps_byte; is = λ low high a b. omega (arith, a) }
narrow kind.Byte kind.Uint n = record { value = λ x. x % 2 ^ 8; computes = keeps_byte; is = λ low high a b. omega (arith, a) }
narrow kind.Byte kind.Lint n = absurd n
narrow kind.Byte kind.Ulint n = absurd n
narrow kind.Sint kind.Byte n = record { value = λ x. x % 2 ^ 8; computes = keeps_byte; is = λ low high a b. sym (cut_8_16 (nat_le (2 ^ 15) (low % 2 ^ 16)) (low % 2 ^ 16) ∙ omega (arith, a)) }
narrow kind.Sint kind.Sint n = record { value = λ x. x % 2 ^ 16; computes = keeps_two; is = λ low high a b. sym (wrapped-value 16 true low) }
narrow kind.Sint kind.Usint n = record { value = λ x. x % 2 ^ 16; computes = keeps_two; is = λ low high a b. sym (wrapped-value 16 true low) }
narrow kind.Sint kind.Int n = record { value = λ x. wrapped 32 (value_of true 16 x); computes = extends_sign; is = λ low high a b. refl }
narrow kind.Sint kind.Uint n = record { value = λ x. wrapped 32 (value_of true 16 x); computes = extends_sign; is = λ low high a b. refl }
narrow kind.Sint kind.Lint n = absurd n
narrow kind.Sint kind.Ulint n = absurd n
narrow kind.Usint kind.Byte n = record { value = λ x. x % 2 ^ 8; computes = keeps_byte; is = λ low high a b. omega (arith, a) }
narrow kind.Usint kind.Sint n = record { value = λ x. x % 2 ^ 16; computes = keeps_two; is = λ low high a b. omega (arith, a) }
narrow kind.Usint kind.Usint n = record { value = λ x. x % 2 ^ 16; computes = keeps_two; is = λ low high a b. omega (arith, a) }
narrow kind.Usint kind.Int n = record { value = λ x. x % 2 ^ 16; computes = keeps_two; is = λ low high a b. omega (arith, a) }
narrow kind.Usint kind.Uint n = record { value = λ x. x % 2 ^ 16; computes = keeps_two; is = λ low high a b. omega (arith, a) }
narrow kind.Usint kind.Lint n = absurd n
narrow kind.Usint kind.Ulint n = absurd n
narrow kind.Int kind.Byte n = record { value = λ x. x % 2 ^ 8; computes = keeps_byte; is = λ low high a b. sym (cut_8_32 (nat_le (2 ^ 31) (low % 2 ^ 32)) (low % 2 ^ 32) ∙ omega (arith, a)) }
narrow kind.Int kind.Sint n = record { value = λ x. x % 2 ^ 16; computes = keeps_two; is = λ low high a b. sym (cut_16_32 (nat_le (2 ^ 31) (low % 2 ^ 32)) (low % 2 ^ 32) ∙ omega (arith, a)) }
narrow kind.Int kind.Usint n = record { value = λ x. x % 2 ^ 16; computes = keeps_two; is = λ low high a b. sym (cut_16_32 (nat_le (2 ^ 31) (low % 2 ^ 32)) (low % 2 ^ 32) ∙ omega (arith, a)) }
narrow kind.Int kind.Int n = record { value = λ x. x % 2 ^ 32; computes = keeps_four; is = λ low high a b. sym (wrapped-value 32 true low) }
narrow kind.Int kind.Uint n = record { value = λ x. x % 2 ^ 32; computes = keeps_four; is = λ low high a b. sym (wrapped-value 32 true low) }
narrow kind.Int kind.Lint n = absurd n
narrow kind.Int kind.Ulint n = absurd n
narrow kind.Uint kind.Byte n = record { value = λ x. x % 2 ^ 8; computes = keeps_byte; is = λ low high a b. omega (arith, a) }
narrow kind.Uint kind.Sint n = record { value = λ x. x % 2 ^ 16; computes = keeps_two; is = λ low high a b. omega (arith, a) }
narrow kind.Uint kind.Usint n = record { value = λ x. x % 2 ^ 16; computes = keeps_two; is = λ low high a b. omega (arith, a) }
narrow kind.Uint kind.Int n = record { value = λ x. x % 2 ^ 32; computes = keeps_four; is = λ low high a b. omega (arith, a) }
narrow kind.Uint kind.Uint n = record { value = λ x. x % 2 ^ 32; computes = keeps_four; is = λ low high a b. omega (arith, a) }
narrow kind.Uint kind.Lint n = absurd n
narrow kind.Uint kind.Ulint n = absurd n
narrow kind.Lint kind.Byte n = record { value = λ x. x % 2 ^ 8; computes = keeps_byte; is = λ low high a b. sym (cut_8_64 (nat_le (2 ^ 63) ((low + 2 ^ 32 * high) % 2 ^ 64)) ((low + 2 ^ 32 * high) % 2 ^ 64) ∙ omega (arith, a, b)) }
narrow kind.Lint kind.Sint n = record { value = λ x. x % 2 ^ 16; computes = keeps_two; is = λ low high a b. sym (cut_16_64 (nat_le (2 ^ 63) ((low + 2 ^ 32 * high) % 2 ^ 64)) ((low + 2 ^ 32 * high) % 2 ^ 64) ∙ omega (arith, a, b)) }
narrow kind.Lint kind.Usint n = record { value = λ x. x % 2 ^ 16; computes = keeps_two; is = λ low high a b. sym (cut_16_64 (nat_le (2 ^ 63) ((low + 2 ^ 32 * high) % 2 ^ 64)) ((low + 2 ^ 32 * high) % 2 ^ 64) ∙ omega (arith, a, b)) }
narrow kind.Lint kind.Int n = record { value = λ x. x % 2 ^ 32; computes = keeps_four; is = λ low high a b. sym (cut_32_64 (nat_le (2 ^ 63) ((low + 2 ^ 32 * high) % 2 ^ 64)) ((low + 2 ^ 32 * high) % 2 ^ 64) ∙ omega (arith, a, b)) }
narrow kind.Lint kind.Uint n = record { value = λ x. x % 2 ^ 32; computes = keeps_four; is = λ low high a b. sym (cut_32_64 (nat_le (2 ^ 63) ((low + 2 ^ 32 * high) % 2 ^ 64)) ((low + 2 ^ 32 * high) % 2 ^ 64) ∙ omega (arith, a, b)) }
narrow kind.Lint kind.Lint n = absurd n
narrow kind.Lint kind.Ulint n = absurd n
narrow kind.Ulint kind.Byte n = record { value = λ x. x % 2 ^ 8; computes = keeps_byte; is = λ low high a b. omega (arith, a, b) }
narrow kind.Ulint kind.Sint n = record { value = λ x. x % 2 ^ 16; computes = keeps_two; is = λ low high a b. omega (arith, a, b) }
narrow kind.Ulint kind.Usint n = record { value = λ x. x % 2 ^ 16; computes = keeps_two; is = λ low high a b. omega (arith, a, b) }
narrow kind.Ulint kind.Int n = record { value = λ x. x % 2 ^ 32; computes = keeps_four; is = λ low high a b. omega (arith, a, b) }
narrow kind.Ulint kind.Uint n = record { value = λ x. x % 2 ^ 32; computes = keeps_four; is = λ low high a b. omega (arith, a, b) }
narrow kind.Ulint kind.Lint n = absurd n
narrow kind.Ulint kind.Ulint n = absurd n
