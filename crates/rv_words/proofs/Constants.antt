-- Harts follow operations on a word and a constant of 12 bits.
use Rattle.std.proofs.Common.{◌≡◌, ◌≢◌, ℕ, zero, suc, ◌+◌, ◌-◌, ◌*◌, ◌/◌, ◌%◌, ◌^◌, ◌<◌, ◌≤◌, ◌==◌, Bool, true, false, nat_le, nat_lt, not, if◌then◌else◌, pos, negsuc, List, [], ◌∷◌, ◌++◌, Some, None, refl, sym, ap, ap₂, ◌∙◌, arith, ◌⊎◌, inl, inr}
use Rattle.std.specs.Prelude.{bit_and, bit_or, bit_xor}
use Rattle.std.specs.Int.Bits.{xor_self, xor_add_and}
use Rattle.std.proofs.lemmas.Nat.{and_le_l, and_le_r}
use Rattle.std.proofs.lemmas.Bool.{cases_eq}
use Rattle.std.proofs.lemmas.Bool.Decides.{nat_tests}
use Rattle.std.proofs.lemmas.Int.{ints}
use Rattle.al_base.specs.declared.arith.Op.{Op as Arith}
use Rattle.al_base.specs.declared.arith.Op.TheVariants as arith
use Rattle.al_ir.specs.Bounds.{IsShort}
use Rattle.rv_isa.specs.declared.instr.Instr.{Instr}
use Rattle.rv_isa.specs.declared.instr.Instr.TheVariants.{Upper, Immediate, Shift}
use Rattle.rv_isa.specs.declared.instr.UpperOp.TheVariants.{Lui}
use Rattle.rv_isa.specs.declared.instr.ImmediateOp.TheVariants.{Addi, Slti, Sltiu, Xori, Ori, Andi}
use Rattle.rv_isa.specs.declared.instr.ShiftOp.TheVariants.{Slli, Srli, Srai}
use Rattle.rv_exec.specs.Hart.{put}
use Rattle.rv_exec.specs.Words.{word, flag, sum_of, difference_of, less_signed, sign_extended}
use Rattle.rv_code.specs.Homes.{low_part, high_part}
use Rattle.rv_code.specs.Pieces.{number_code}
use Rattle.rv_code.proofs.Numbers.{whole}
use Rattle.rv_code.proofs.Operands.{IsOperand, operand_some, not_kept}
use Rattle.rv_code.proofs.Slots.{low_is, put_same}
use Rattle.rv_form.specs.Words.{word_instrs, immediate_instrs, by_instrs}
use Rattle.rv_words.proofs.Computing.{Computes}
use Rattle.rv_words.proofs.Instructions.{word_computes}
use Rattle.rv_words.proofs.Straight.{reg, reg_put, reg_some, AreStraight, after, Spares, spared, straight_append, after_append, spares_append}
use Rattle.rv_words.proofs.Values.{word_value}

-- a constant is what its 12 bits make, extended with their sign
pub short_word : (n : ℕ) → IsShort n → word (low_part n) ≡ n
short_word n s = on s (low_is (n % 2 ^ 12) (omega arith)) where
  on : (n < 2 ^ 11) ⊎ ((2 ^ 32 - 2 ^ 11 ≤ n) × (n < 2 ^ 32))
      → ((n % 2 ^ 12 < 2 ^ 11) × (word (low_part n) ≡ n % 2 ^ 12)) ⊎ ((2 ^ 11 ≤ n % 2 ^ 12) × (word (low_part n) ≡ n % 2 ^ 12 + (2 ^ 32 - 2 ^ 12))) → word (low_part n) ≡ n
  on (inl a) (inl q) = q.1 ∙ omega (arith, a)
  on (inl a) (inr q) = absurd (omega (arith, a, q.0))
  on (inr a) (inl q) = absurd (omega (arith, a.0, a.1, q.0))
  on (inr a) (inr q) = q.1 ∙ omega (arith, a.0, a.1)

pub short_is_word : (n : ℕ) → IsShort n → n < 2 ^ 32
short_is_word n (inl a) = omega (arith, a)
short_is_word n (inr a) = a.1

-- ---- a number in register 11

module _ (n : ℕ) (fits : n < 2 ^ 32) where
  abbrev in_two : List Instr
  in_two = Upper Lui 11 (high_part n) ∷ Immediate Addi 11 11 (low_part n) ∷ []

  abbrev cases : (b c : Bool) → List Instr
  cases b c = if b then Immediate Addi 11 0 (pos n) ∷ [] else (if c then Immediate Addi 11 0 (negsuc (2 ^ 32 - 1 - n)) ∷ [] else in_two)

  pub number_straight : AreStraight (number_code 11 n)
  number_straight = on (nat_lt n (2 ^ 11)) (nat_le (2 ^ 32 - 2 ^ 11) n) where
    on : (b c : Bool) → AreStraight (cases b c)
    on true c = (tt, tt)
    on false true = (tt, tt)
    on false false = (tt, (tt, tt))

  pub number_spares : (k : ℕ) → k ≢ 11 → Spares k (number_code 11 n)
  number_spares k other = on (nat_lt n (2 ^ 11)) (nat_le (2 ^ 32 - 2 ^ 11) n) where
    on : (b c : Bool) → Spares k (cases b c)
    on true c = (other, tt)
    on false true = (other, tt)
    on false false = (other, (other, tt))

  pub number_gives : (r : ℕ → ℕ) → after (number_code 11 n) r 11 ≡ n
  number_gives r = on (nat_lt n (2 ^ 11)) (nat_le (2 ^ 32 - 2 ^ 11) n) refl refl where
    on : (b c : Bool) → nat_lt n (2 ^ 11) ≡ b → nat_le (2 ^ 32 - 2 ^ 11) n ≡ c → after (cases b c) r 11 ≡ n
    on true c e f =
        let less : n < 2 ^ 11 = grind (arith, nat_tests, e) in
        let value : sum_of 0 (word (pos n)) ≡ n = omega (arith, ints, less) in
        put_same r 11 (sum_of 0 (word (pos n))) ∙ value
    on false true e f =
        let more : 2 ^ 32 - 2 ^ 11 ≤ n = grind (arith, nat_tests, f) in
        let value : sum_of 0 (word (negsuc (2 ^ 32 - 1 - n))) ≡ n = omega (arith, ints, more, fits) in
        put_same r 11 (sum_of 0 (word (negsuc (2 ^ 32 - 1 - n)))) ∙ value
    on false false e f = put_same (put r 11 (high_part n * 2 ^ 12)) 11 _ ∙ ap (λ v. sum_of v (word (low_part n))) (put_same r 11 (high_part n * 2 ^ 12)) ∙ whole n fits

not_eleven : (a : ℕ) → IsOperand 10 a → a ≢ 11
not_eleven a (inl e) f = absurd (omega (arith, e, f))
not_eleven a (inr q) f = absurd (omega (arith, q.0, f))

-- where there is no instruction for it
pub by_number : (op : Arith) (s : Bool) (n : ℕ) → n < 2 ^ 32 → Computes (λ x. word_value op s x n) (λ d a. number_code 11 n ++ word_instrs op s d a 11)
by_number op s n fits = record {
  straight = λ d a. straight_append (number_code 11 n) (word_instrs op s d a 11) (number_straight n fits) ((word_computes op s).straight d a 11);
  gives = λ d a r id ia small.
      let some : a ≢ 0 = operand_some 10 a (omega arith) ia in
      let r1 : ℕ → ℕ = after (number_code 11 n) r in
      let left : reg r1 a ≡ reg r a = reg_some r1 a some ∙ spared a (number_code 11 n) r (number_spares n fits a (not_eleven a ia)) ∙ sym (reg_some r a some) in
      let right : reg r1 11 ≡ n = number_gives n fits r in
      ap (λ (q : ℕ → ℕ). q d) (after_append (number_code 11 n) (word_instrs op s d a 11) r)
      ∙ (word_computes op s).gives d a 11 r1 id ia (inl refl) (omega (arith, left, small)) (omega (arith, right, fits)) ∙ ap₂ (word_value op s) left right;
  spares = λ d a k other q. spares_append k (number_code 11 n) (word_instrs op s d a 11) (number_spares n fits k (not_kept 11 k (omega arith, omega arith) q)) ((word_computes op s).spares d a 11 k other q);
}

-- ---- where there is one

operand_is_some : (d : ℕ) → IsOperand 10 d → d ≢ 0
operand_is_some d o = operand_some 10 d (omega arith) o

one : {f : ℕ → ℕ} (i : (d a : ℕ) → Instr) → ((d a : ℕ) → AreStraight (i d a ∷ [])) → ((d a : ℕ) (r : ℕ → ℕ) → after (i d a ∷ []) r d ≡ f (reg r a)) → ((d a n : ℕ) → n ≢ d → Spares n (i d a ∷ []))
    → Computes f (λ d a. i d a ∷ [])
one i straight gives spares = record {
  straight = straight;
  gives = λ d a r id ia small. gives d a r;
  spares = λ d a n other k. spares d a n other;
}

-- words are equal where no bit differs
pub differ_nowhere : (x y : ℕ) → x < 2 ^ 32 → y < 2 ^ 32 → (bit_xor x y == 0) ≡ (difference_of x y == 0)
differ_nowhere x y a b = on (cases_eq x y) where
  parts : bit_xor x y + bit_and x y * 2 ≡ x + y
  parts = xor_add_and x y

  on : (x ≡ y) ⊎ (x ≢ y) → (bit_xor x y == 0) ≡ (difference_of x y == 0)
  on (inl e) =
      let none : bit_xor x y ≡ 0 = ap (bit_xor x) (sym e) ∙ xor_self x in
      let zero_too : difference_of x y ≡ 0 = omega (arith, e, a) in
      ap (λ n. n == 0) (none ∙ sym zero_too)
  on (inr e) =
      let some : bit_xor x y ≢ 0 = λ z. e (omega (arith, z, parts, and_le_l x y, and_le_r x y)) in
      let some_too : difference_of x y ≢ 0 = λ z. e (omega (arith, z, a, b)) in
      off (bit_xor x y) some ∙ sym (off (difference_of x y) some_too) where
        off : (n : ℕ) → n ≢ 0 → (n == 0) ≡ false
        off n other = grind (arith, nat_tests, other)

below_one : (n : ℕ) → nat_lt n 1 ≡ (n == 0)
below_one zero = refl
below_one (suc n) = let p : nat_lt (suc n) 1 ≡ false = grind (arith, nat_tests) in let q : (suc n == 0) ≡ false = grind (arith, nat_tests) in p ∙ sym q

above_zero : (n : ℕ) → nat_lt 0 n ≡ not (n == 0)
above_zero zero = refl
above_zero (suc n) = let p : nat_lt 0 (suc n) ≡ true = grind (arith, nat_tests) in let q : (suc n == 0) ≡ false = grind (arith, nat_tests) in p ∙ sym (ap not q)

module _ (n : ℕ) (short : IsShort n) where
  equal_by : (x : ℕ) → x < 2 ^ 32 → flag (nat_lt (bit_xor x n) 1) ≡ flag (nat_lt (difference_of x n) 1)
  equal_by x a = ap flag (below_one (bit_xor x n) ∙ differ_nowhere x n a (short_is_word n short) ∙ sym (below_one (difference_of x n)))

  different_by : (x : ℕ) → x < 2 ^ 32 → flag (nat_lt 0 (bit_xor x n)) ≡ flag (nat_lt 0 (difference_of x n))
  different_by x a = ap flag (above_zero (bit_xor x n) ∙ ap not (differ_nowhere x n a (short_is_word n short)) ∙ sym (above_zero (difference_of x n)))

  -- what is subtracted is added with the other sign, where that has 12 bits
  subtracts : (b : Bool) → (n == 2 ^ 32 - 2 ^ 11) ≡ b → (s : Bool)
      → Computes (λ x. difference_of x n) (λ d a. by_instrs (if b then None else Some (Immediate Addi d a (low_part (2 ^ 32 - n)) ∷ [])) arith.Sub s d a n)
  subtracts true e s = by_number arith.Sub s n (short_is_word n short)
  subtracts false e s = one (λ d a. Immediate Addi d a (low_part (2 ^ 32 - n))) (λ d a. (tt, tt)) (λ d a r. put_same r d _ ∙ added (reg r a)) (λ d a k other. (other, tt)) where
    other_end : n ≢ 2 ^ 32 - 2 ^ 11
    other_end = grind (arith, nat_tests, e)

    added : (x : ℕ) → sum_of x (word (low_part (2 ^ 32 - n))) ≡ difference_of x n
    added x = on (low_is ((2 ^ 32 - n) % 2 ^ 12) (omega arith)) short where
      on : (((2 ^ 32 - n) % 2 ^ 12 < 2 ^ 11) × (word (low_part (2 ^ 32 - n)) ≡ (2 ^ 32 - n) % 2 ^ 12)) ⊎ ((2 ^ 11 ≤ (2 ^ 32 - n) % 2 ^ 12) × (word (low_part (2 ^ 32 - n)) ≡ (2 ^ 32 - n) % 2 ^ 12 + (2 ^ 32 - 2 ^ 12)))
          → (n < 2 ^ 11) ⊎ ((2 ^ 32 - 2 ^ 11 ≤ n) × (n < 2 ^ 32)) → sum_of x (word (low_part (2 ^ 32 - n))) ≡ difference_of x n
      on (inl q) (inl a) = rw q.1 (omega (arith, q.0, a, other_end))
      on (inl q) (inr a) = rw q.1 (omega (arith, q.0, a.0, a.1, other_end))
      on (inr q) (inl a) = rw q.1 (omega (arith, q.0, a, other_end))
      on (inr q) (inr a) = absurd (omega (arith, q.0, a.0, a.1, other_end))

  pub by_computes : (op : Arith) (s : Bool) → Computes (λ x. word_value op s x n) (λ d a. by_instrs (immediate_instrs op s d a n) op s d a n)
  by_computes arith.Add s = one (λ d a. Immediate Addi d a (low_part n)) (λ d a. (tt, tt)) (λ d a r. put_same r d _ ∙ ap (sum_of (reg r a)) (short_word n short)) (λ d a k other. (other, tt))
  by_computes arith.Sub s = subtracts (n == 2 ^ 32 - 2 ^ 11) refl s
  by_computes arith.And s = one (λ d a. Immediate Andi d a (low_part n)) (λ d a. (tt, tt)) (λ d a r. put_same r d _ ∙ ap (bit_and (reg r a)) (short_word n short)) (λ d a k other. (other, tt))
  by_computes arith.Or s = one (λ d a. Immediate Ori d a (low_part n)) (λ d a. (tt, tt)) (λ d a r. put_same r d _ ∙ ap (bit_or (reg r a)) (short_word n short)) (λ d a k other. (other, tt))
  by_computes arith.Xor s = one (λ d a. Immediate Xori d a (low_part n)) (λ d a. (tt, tt)) (λ d a r. put_same r d _ ∙ ap (bit_xor (reg r a)) (short_word n short)) (λ d a k other. (other, tt))
  by_computes arith.Shl s =
      let e : n % 32 % 32 ≡ n % 32 = omega arith in
      one (λ d a. Shift Slli d a (n % 32)) (λ d a. (tt, tt)) (λ d a r. put_same r d _ ∙ ap (λ k. reg r a * 2 ^ k % 2 ^ 32) e) (λ d a k other. (other, tt))
  by_computes arith.Shr true =
      let e : n % 32 % 32 ≡ n % 32 = omega arith in
      one (λ d a. Shift Srai d a (n % 32)) (λ d a. (tt, tt)) (λ d a r. put_same r d _ ∙ ap (λ k. sign_extended (reg r a) / 2 ^ k % 2 ^ 32) e) (λ d a k other. (other, tt))
  by_computes arith.Shr false =
      let e : n % 32 % 32 ≡ n % 32 = omega arith in
      one (λ d a. Shift Srli d a (n % 32)) (λ d a. (tt, tt)) (λ d a r. put_same r d _ ∙ ap (λ k. reg r a / 2 ^ k) e) (λ d a k other. (other, tt))
  by_computes arith.Lt true = one (λ d a. Immediate Slti d a (low_part n)) (λ d a. (tt, tt)) (λ d a r. put_same r d _ ∙ ap (λ k. flag (less_signed (reg r a) k)) (short_word n short)) (λ d a k other. (other, tt))
  by_computes arith.Lt false = one (λ d a. Immediate Sltiu d a (low_part n)) (λ d a. (tt, tt)) (λ d a r. put_same r d _ ∙ ap (λ k. flag (nat_lt (reg r a) k)) (short_word n short)) (λ d a k other. (other, tt))
  by_computes arith.Eq s = record {
    straight = λ d a. (tt, (tt, tt));
    gives = λ d a r id ia small.
        put_same (put r d (bit_xor (reg r a) (word (low_part n)))) d _ ∙ ap (λ k. flag (nat_lt k 1)) (reg_put r d (bit_xor (reg r a) (word (low_part n))) (operand_is_some d id) ∙ ap (bit_xor (reg r a)) (short_word n short))
        ∙ equal_by (reg r a) small;
    spares = λ d a k other q. (other, (other, tt));
  }
  by_computes arith.Ne s = record {
    straight = λ d a. (tt, (tt, tt));
    gives = λ d a r id ia small.
        put_same (put r d (bit_xor (reg r a) (word (low_part n)))) d _ ∙ ap (λ k. flag (nat_lt 0 k)) (reg_put r d (bit_xor (reg r a) (word (low_part n))) (operand_is_some d id) ∙ ap (bit_xor (reg r a)) (short_word n short))
        ∙ different_by (reg r a) small;
    spares = λ d a k other q. (other, (other, tt));
  }
  by_computes arith.Mul s = by_number arith.Mul s n (short_is_word n short)
  by_computes arith.Div s = by_number arith.Div s n (short_is_word n short)
  by_computes arith.Rem s = by_number arith.Rem s n (short_is_word n short)
  by_computes arith.Le s = by_number arith.Le s n (short_is_word n short)
