-- The instructions of each operation on two words compute its word.
use Rattle.std.proofs.Common.{◌≡◌, ◌≢◌, ℕ, Bool, true, false, pos, [], ◌∷◌, refl, ap, ◌∙◌, arith}
use Rattle.std.specs.Prelude.{bit_xor, nat_lt}
use Rattle.al_base.specs.Arith.{divides}
use Rattle.al_base.specs.declared.arith.Op.{Op as Arith}
use Rattle.al_base.specs.declared.arith.Op.TheVariants as arith
use Rattle.rv_isa.specs.declared.instr.Instr.TheVariants.{Immediate, Register}
use Rattle.rv_isa.specs.declared.instr.ImmediateOp.TheVariants.{Xori, Sltiu}
use Rattle.rv_isa.specs.declared.instr.RegisterOp.{RegisterOp}
use Rattle.rv_isa.specs.declared.instr.RegisterOp.TheVariants.{Add, Sub, Sll, Sltu, Xor, Or, And, Mul}
use Rattle.rv_exec.specs.Hart.{put}
use Rattle.rv_exec.specs.Words.{computed, flag}
use Rattle.rv_code.proofs.Operands.{IsOperand, operand_some}
use Rattle.rv_code.proofs.Slots.{put_same}
use Rattle.rv_form.specs.Words.{less, divided, remaining, shifted_right, word_instrs, divisor_test, tested}
use Rattle.rv_words.proofs.Computing.{ComputesTwo}
use Rattle.rv_words.proofs.Straight.{reg, reg_put}
use Rattle.rv_words.proofs.Values.{word_value}

operand_is_some : (d : ℕ) → IsOperand 10 d → d ≢ 0
operand_is_some d o = operand_some 10 d (omega arith) o

one : (o : RegisterOp) → ComputesTwo (computed o) (λ d a b. Register o d a b ∷ [])
one o = record {
  straight = λ d a b. (tt, tt);
  gives = λ d a b r id ia ib sa sb. put_same r d _;
  spares = λ d a b n other k. (other, tt);
}

-- an instruction, and another one on what it gave
then_immediate : (s : Bool) → ComputesTwo (λ x y. bit_xor (computed (less s) y x) 1) (λ d a b. Register (less s) d b a ∷ Immediate Xori d d (pos 1) ∷ [])
then_immediate s = record {
  straight = λ d a b. (tt, (tt, tt));
  gives = λ d a b r id ia ib sa sb.
      put_same (put r d (computed (less s) (reg r b) (reg r a))) d _ ∙ ap (λ n. bit_xor n 1) (reg_put r d (computed (less s) (reg r b) (reg r a)) (operand_is_some d id));
  spares = λ d a b n other k. (other, (other, tt));
}

equal : ComputesTwo (λ x y. flag (nat_lt (computed Sub x y) 1)) (λ d a b. Register Sub d a b ∷ Immediate Sltiu d d (pos 1) ∷ [])
equal = record {
  straight = λ d a b. (tt, (tt, tt));
  gives = λ d a b r id ia ib sa sb.
      put_same (put r d (computed Sub (reg r a) (reg r b))) d _ ∙ ap (λ n. flag (nat_lt n 1)) (reg_put r d (computed Sub (reg r a) (reg r b)) (operand_is_some d id));
  spares = λ d a b n other k. (other, (other, tt));
}

different : ComputesTwo (λ x y. flag (nat_lt 0 (computed Sub x y))) (λ d a b. Register Sub d a b ∷ Register Sltu d 0 d ∷ [])
different = record {
  straight = λ d a b. (tt, (tt, tt));
  gives = λ d a b r id ia ib sa sb.
      put_same (put r d (computed Sub (reg r a) (reg r b))) d _ ∙ ap (λ n. flag (nat_lt 0 n)) (reg_put r d (computed Sub (reg r a) (reg r b)) (operand_is_some d id));
  spares = λ d a b n other k. (other, (other, tt));
}

pub word_computes : (op : Arith) (s : Bool) → ComputesTwo (word_value op s) (word_instrs op s)
word_computes arith.Add s = one Add
word_computes arith.Sub s = one Sub
word_computes arith.Mul s = one Mul
word_computes arith.Div s = one (divided s)
word_computes arith.Rem s = one (remaining s)
word_computes arith.And s = one And
word_computes arith.Or s = one Or
word_computes arith.Xor s = one Xor
word_computes arith.Shl s = one Sll
word_computes arith.Shr s = one (shifted_right s)
word_computes arith.Lt s = one (less s)
word_computes arith.Le s = then_immediate s
word_computes arith.Eq s = equal
word_computes arith.Ne s = different

-- only what divides is tested
pub not_tested : (op : Arith) (b : ℕ) → divides op ≡ false → tested op b ≡ []
not_tested arith.Div b e = absurd (cc)
not_tested arith.Rem b e = absurd (cc)
not_tested arith.Add b e = refl
not_tested arith.Sub b e = refl
not_tested arith.Mul b e = refl
not_tested arith.And b e = refl
not_tested arith.Or b e = refl
not_tested arith.Xor b e = refl
not_tested arith.Shl b e = refl
not_tested arith.Shr b e = refl
not_tested arith.Lt b e = refl
not_tested arith.Le b e = refl
not_tested arith.Eq b e = refl
not_tested arith.Ne b e = refl

pub is_tested : (op : Arith) (b : ℕ) → divides op ≡ true → tested op b ≡ divisor_test b
is_tested arith.Div b e = refl
is_tested arith.Rem b e = refl
is_tested arith.Add b e = absurd (cc)
is_tested arith.Sub b e = absurd (cc)
is_tested arith.Mul b e = absurd (cc)
is_tested arith.And b e = absurd (cc)
is_tested arith.Or b e = absurd (cc)
is_tested arith.Xor b e = absurd (cc)
is_tested arith.Shl b e = absurd (cc)
is_tested arith.Shr b e = absurd (cc)
is_tested arith.Lt b e = absurd (cc)
is_tested arith.Le b e = absurd (cc)
is_tested arith.Eq b e = absurd (cc)
is_tested arith.Ne b e = absurd (cc)
