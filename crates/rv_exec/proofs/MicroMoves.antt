-- Micro-operations do what the instructions do that they stand for.
use Rattle.std.proofs.Common.{◌≡◌, ℕ, zero, suc, ◌+◌, ◌-◌, ◌*◌, ◌%◌, ◌^◌, ◌<◌, ◌==◌, ◌||◌, nat_le, Bool, true, false, if◌then◌else◌, Option, Some, None, refl, sym, ap, ◌∙◌, arith}
use Rattle.rv_isa.specs.declared.image.Contents.{Contents}
use Rattle.rv_isa.specs.declared.instr.Instr.{Instr}
use Rattle.rv_isa.specs.declared.instr.Instr.TheVariants.{Upper, Jal, Jalr, Branch, Load, Store, Immediate, Shift, Register, Fence, Ecall, Ebreak}
use Rattle.rv_isa.specs.declared.instr.UpperOp.TheVariants.{Lui, Auipc}
use Rattle.rv_isa.specs.declared.instr.BranchOp.{BranchOp}
use Rattle.rv_isa.specs.declared.instr.LoadOp.{LoadOp}
use Rattle.rv_isa.specs.declared.instr.LoadOp.TheVariants.{Lb, Lh, Lw, Lbu, Lhu}
use Rattle.rv_isa.specs.declared.instr.StoreOp.{StoreOp}
use Rattle.rv_isa.specs.declared.instr.StoreOp.TheVariants.{Sb, Sh, Sw}
use Rattle.rv_isa.specs.declared.instr.ImmediateOp.{ImmediateOp}
use Rattle.rv_isa.specs.declared.instr.ImmediateOp.TheVariants.{Addi, Slti, Sltiu, Xori, Ori, Andi}
use Rattle.rv_isa.specs.declared.instr.ShiftOp.{ShiftOp}
use Rattle.rv_isa.specs.declared.instr.ShiftOp.TheVariants.{Slli, Srli, Srai}
use Rattle.rv_isa.specs.declared.instr.RegisterOp.{RegisterOp}
use Rattle.rv_isa.specs.declared.instr.RegisterOp.TheVariants.{Add}
use Rattle.rv_isa.specs.declared.micro.Micro.{Micro}
use Rattle.rv_isa.specs.declared.micro.MicroOp.{MicroOp}
use Rattle.rv_isa.specs.declared.micro.MicroOp.TheVariants as micro
use Rattle.rv_isa.specs.Micro.{slot, of_load, of_store, micro_of, word}
use Rattle.rv_exec.specs.Micros.{computes, decides}
use Rattle.rv_exec.specs.Hart.{Hart, register, with_register, moved}
use Rattle.rv_exec.specs.Calls.{Privates, Move, Goes}
use Rattle.rv_exec.specs.Step.{executed, set, jumps}
use Rattle.rv_exec.specs.Words.{computed, computed_immediate, shifted, is_taken, sum_of}
use Rattle.rv_exec.proofs.OpKinds.{kind, kind_register, kind_immediate, kind_shift, kind_branch, computes_register, computes_branch, decides_register, decides_immediate, decides_shift, decides_branch, computes_immediate, computes_shift, on_immediate, on_shift}

not_some : {X : Type 0} (x : X) (o : Option X) → o ≡ None → o ≡ Some x → ⊥
not_some x None e f = absurd (cc)
not_some x (Some y) e f = absurd (cc)

same_some : {X : Type 0} (x y : X) (o : Option X) → o ≡ Some x → o ≡ Some y → x ≡ y
same_some x y o e f = cc

pub apart : (m n : ℕ) (op op2 : MicroOp) → kind op ≡ m → kind op2 ≡ n → op ≡ op2 → m ≡ n
apart m n op op2 k l e = sym k ∙ ap kind e ∙ l

-- what an access of a word stands for
module _ (P : MicroOp → Type 0) (stack globals : MicroOp) (a : P stack) (b : P globals) (c : P micro.Other) where
  by_tests : (s t : Bool) → P (if s then stack else (if t then globals else micro.Other))
  by_tests true t = a
  by_tests false true = b
  by_tests false false = c

pub of_load_is : (P : MicroOp → Type 0) (op : LoadOp) (rs1 : ℕ) → P micro.LoadStack → P micro.LoadGlobals → P micro.Other → P (of_load op rs1)
of_load_is P Lw rs1 a b c = by_tests P micro.LoadStack micro.LoadGlobals a b c (rs1 == 2 || rs1 == 8) (rs1 == 4)
of_load_is P Lb rs1 a b c = c
of_load_is P Lh rs1 a b c = c
of_load_is P Lbu rs1 a b c = c
of_load_is P Lhu rs1 a b c = c

pub of_store_is : (P : MicroOp → Type 0) (op : StoreOp) (rs1 : ℕ) → P micro.StoreStack → P micro.StoreGlobals → P micro.Other → P (of_store op rs1)
of_store_is P Sw rs1 a b c = by_tests P micro.StoreStack micro.StoreGlobals a b c (rs1 == 2 || rs1 == 8) (rs1 == 4)
of_store_is P Sb rs1 a b c = c
of_store_is P Sh rs1 a b c = c

sum_0 : (x : ℕ) → x < 2 ^ 32 → sum_of x 0 ≡ x
sum_0 x h = omega arith

0_sum : (z x : ℕ) → z ≡ 0 → x < 2 ^ 32 → sum_of z x ≡ x
0_sum z x e h = omega arith

immediate_is : (op : ImmediateOp) (x y : ℕ) → computed (on_immediate op) x y ≡ computed_immediate op x y
immediate_is Addi x y = refl
immediate_is Slti x y = refl
immediate_is Sltiu x y = refl
immediate_is Xori x y = refl
immediate_is Ori x y = refl
immediate_is Andi x y = refl

shift_is : (op : ShiftOp) (x y : ℕ) → computed (on_shift op) x y ≡ shifted op x y
shift_is Slli x y = refl
shift_is Srli x y = refl
shift_is Srai x y = refl

module _ (image : Contents) (h : Hart) (p : Privates) (zeroed : h.registers 32 ≡ 0) where
  reads : (n : ℕ) → register h n ≡ h.registers (slot n)
  reads zero = sym zeroed
  reads (suc n) = refl

  -- what a computing micro-operation does
  abbrev computing_by : Micro → RegisterOp → Move
  computing_by m op = set m.rd (computed op (h.registers m.rs1) (sum_of (h.registers m.rs2) m.imm)) h p

  pub computing : (i : Instr) (op : RegisterOp) → h.registers (micro_of i).rs2 < 2 ^ 32 → (micro_of i).imm < 2 ^ 32 → computes (micro_of i).op ≡ Some op
      → executed i image h p ≡ computing_by (micro_of i) op
  computing (Upper Lui rd imm) o below small e =
      let is : Add ≡ o = same_some _ _ _ refl e in
      let zero_sum : sum_of (h.registers 32) (sum_of (h.registers 32) (imm * 2 ^ 12)) ≡ imm * 2 ^ 12 = omega arith in
      rw (← is, zero_sum) refl
  computing (Upper Auipc rd imm) o below small e = absurd (not_some _ _ refl e)
  computing (Jal rd imm) o below small e = absurd (not_some _ _ refl e)
  computing (Jalr rd rs1 imm) o below small e = absurd (not_some _ _ refl e)
  computing (Branch op rs1 rs2 imm) o below small e = absurd (not_some _ _ (computes_branch op) e)
  computing (Load op rd rs1 imm) o below small e = absurd (not_some _ _ (of_load_is (λ x. computes x ≡ None) op rs1 refl refl refl) e)
  computing (Store op rs1 rs2 imm) o below small e = absurd (not_some _ _ (of_store_is (λ x. computes x ≡ None) op rs1 refl refl refl) e)
  computing (Immediate op rd rs1 imm) o below small e =
      rw (← same_some _ _ _ (computes_immediate op) e, 0_sum (h.registers 32) (word imm) zeroed small, immediate_is op, reads rs1) refl
  computing (Shift op rd rs1 amount) o below small e =
      rw (← same_some _ _ _ (computes_shift op) e, 0_sum (h.registers 32) amount zeroed small, shift_is op, reads rs1) refl
  computing (Register op rd rs1 rs2) o below small e =
      rw (← same_some _ _ _ (computes_register op) e, reads rs1, reads rs2, sum_0 (h.registers (slot rs2)) below) refl
  computing (Fence rd rs1 imm) o below small e = absurd (not_some _ _ refl e)
  computing Ecall o below small e = absurd (not_some _ _ refl e)
  computing Ebreak o below small e = absurd (not_some _ _ refl e)

  -- a jump by a distance, as a word
  abbrev jumping_by : (distance : ℕ) → (next : Hart) → Move
  jumping_by distance next = jumps (nat_le (sum_of h.pc distance) h.pc) (sum_of h.pc distance) next h p

  abbrev deciding_by : Micro → BranchOp → Move
  deciding_by m op = if is_taken op (h.registers m.rs1) (h.registers m.rs2) then jumping_by m.imm h else Goes (moved h) p

  pub deciding : (i : Instr) (op : BranchOp) → decides (micro_of i).op ≡ Some op → executed i image h p ≡ deciding_by (micro_of i) op
  deciding (Upper Lui rd imm) o e = absurd (not_some _ _ refl e)
  deciding (Upper Auipc rd imm) o e = absurd (not_some _ _ refl e)
  deciding (Jal rd imm) o e = absurd (not_some _ _ refl e)
  deciding (Jalr rd rs1 imm) o e = absurd (not_some _ _ refl e)
  deciding (Branch op rs1 rs2 imm) o e = rw (← same_some _ _ _ (decides_branch op) e, reads rs1, reads rs2) refl
  deciding (Load op rd rs1 imm) o e = absurd (not_some _ _ (of_load_is (λ x. decides x ≡ None) op rs1 refl refl refl) e)
  deciding (Store op rs1 rs2 imm) o e = absurd (not_some _ _ (of_store_is (λ x. decides x ≡ None) op rs1 refl refl refl) e)
  deciding (Immediate op rd rs1 imm) o e = absurd (not_some _ _ (decides_immediate op) e)
  deciding (Shift op rd rs1 amount) o e = absurd (not_some _ _ (decides_shift op) e)
  deciding (Register op rd rs1 rs2) o e = absurd (not_some _ _ (decides_register op) e)
  deciding (Fence rd rs1 imm) o e = absurd (not_some _ _ refl e)
  deciding Ecall o e = absurd (not_some _ _ refl e)
  deciding Ebreak o e = absurd (not_some _ _ refl e)

  pub linking : (i : Instr) → (micro_of i).op ≡ micro.Jal → executed i image h p ≡ jumping_by (micro_of i).imm (with_register (micro_of i).rd (h.pc + 4) h)
  linking (Upper Lui rd imm) e = absurd (cc)
  linking (Upper Auipc rd imm) e = absurd (cc)
  linking (Jal rd imm) e = refl
  linking (Jalr rd rs1 imm) e = absurd (cc)
  linking (Branch op rs1 rs2 imm) e = absurd (omega (arith, apart 0 1 _ _ (kind_branch op) refl e))
  linking (Load op rd rs1 imm) e = absurd (of_load_is (λ x. x ≡ micro.Jal → ⊥) op rs1 (λ f. absurd (cc)) (λ f. absurd (cc)) (λ f. absurd (cc)) e)
  linking (Store op rs1 rs2 imm) e = absurd (of_store_is (λ x. x ≡ micro.Jal → ⊥) op rs1 (λ f. absurd (cc)) (λ f. absurd (cc)) (λ f. absurd (cc)) e)
  linking (Immediate op rd rs1 imm) e = absurd (omega (arith, apart 0 1 _ _ (kind_immediate op) refl e))
  linking (Shift op rd rs1 amount) e = absurd (omega (arith, apart 0 1 _ _ (kind_shift op) refl e))
  linking (Register op rd rs1 rs2) e = absurd (omega (arith, apart 0 1 _ _ (kind_register op) refl e))
  linking (Fence rd rs1 imm) e = absurd (cc)
  linking Ecall e = absurd (cc)
  linking Ebreak e = absurd (cc)

  pub returning : (i : Instr) → (micro_of i).op ≡ micro.Jalr → executed i image h p ≡ jumps true ((sum_of (h.registers (micro_of i).rs1) (micro_of i).imm) - (sum_of (h.registers (micro_of i).rs1) (micro_of i).imm) % 2) (with_register (micro_of i).rd (h.pc + 4) h) h p
  returning (Upper Lui rd imm) e = absurd (cc)
  returning (Upper Auipc rd imm) e = absurd (cc)
  returning (Jal rd imm) e = absurd (cc)
  returning (Jalr rd rs1 imm) e = rw (reads rs1) refl
  returning (Branch op rs1 rs2 imm) e = absurd (omega (arith, apart 0 2 _ _ (kind_branch op) refl e))
  returning (Load op rd rs1 imm) e = absurd (of_load_is (λ x. x ≡ micro.Jalr → ⊥) op rs1 (λ f. absurd (cc)) (λ f. absurd (cc)) (λ f. absurd (cc)) e)
  returning (Store op rs1 rs2 imm) e = absurd (of_store_is (λ x. x ≡ micro.Jalr → ⊥) op rs1 (λ f. absurd (cc)) (λ f. absurd (cc)) (λ f. absurd (cc)) e)
  returning (Immediate op rd rs1 imm) e = absurd (omega (arith, apart 0 2 _ _ (kind_immediate op) refl e))
  returning (Shift op rd rs1 amount) e = absurd (omega (arith, apart 0 2 _ _ (kind_shift op) refl e))
  returning (Register op rd rs1 rs2) e = absurd (omega (arith, apart 0 2 _ _ (kind_register op) refl e))
  returning (Fence rd rs1 imm) e = absurd (cc)
  returning Ecall e = absurd (cc)
  returning Ebreak e = absurd (cc)
