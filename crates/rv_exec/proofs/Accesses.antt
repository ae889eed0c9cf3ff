-- Micro-operations that load or store do what the instructions do that they stand for.
use Rattle.std.proofs.Common.{◌≡◌, ℕ, zero, suc, ◌==◌, ◌||◌, Bool, true, false, if◌then◌else◌, refl, sym, arith}
use Rattle.rv_isa.specs.declared.image.Contents.{Contents}
use Rattle.rv_isa.specs.declared.instr.Instr.{Instr}
use Rattle.rv_isa.specs.declared.instr.Instr.TheVariants.{Upper, Jal, Jalr, Branch, Load, Store, Immediate, Shift, Register, Fence, Ecall, Ebreak}
use Rattle.rv_isa.specs.declared.instr.UpperOp.TheVariants.{Lui, Auipc}
use Rattle.rv_isa.specs.declared.instr.LoadOp.TheVariants.{Lb, Lh, Lw, Lbu, Lhu}
use Rattle.rv_isa.specs.declared.instr.StoreOp.TheVariants.{Sb, Sh, Sw}
use Rattle.rv_isa.specs.declared.micro.Micro.{Micro}
use Rattle.rv_isa.specs.declared.micro.MicroOp.{MicroOp}
use Rattle.rv_isa.specs.declared.micro.MicroOp.TheVariants as micro
use Rattle.rv_isa.specs.Micro.{slot, micro_of}
use Rattle.rv_exec.specs.Hart.{Hart, register}
use Rattle.rv_exec.specs.Calls.{Privates}
use Rattle.rv_exec.specs.Step.{executed, loads, stores_stack, stores_globals}
use Rattle.rv_exec.specs.Windows.{stack_offset, globals_offset}
use Rattle.rv_exec.specs.Words.{sum_of}
use Rattle.rv_exec.specs.declared.windows.Window.{Window}
use Rattle.rv_exec.specs.declared.windows.Window.TheVariants.{Stack, Globals, Shared}
use Rattle.rv_exec.proofs.OpKinds.{kind_register, kind_immediate, kind_shift, kind_branch}
use Rattle.rv_exec.proofs.MicroMoves.{apart, of_load_is, of_store_is}

-- the window of an access, by what it stands for: `op` is the micro-operation of a word's access by this base
module _ (to_stack to_globals : MicroOp) where
  abbrev by_base : (s t : Bool) → MicroOp
  by_base s t = if s then to_stack else (if t then to_globals else micro.Other)

  abbrev window_by : (s t : Bool) → Window
  window_by s t = if s then Stack else (if t then Globals else Shared)

  stack_by : (s t : Bool) → (to_globals ≡ to_stack → ⊥) → (micro.Other ≡ to_stack → ⊥) → by_base s t ≡ to_stack → window_by s t ≡ Stack
  stack_by true t g o e = refl
  stack_by false true g o e = absurd (g e)
  stack_by false false g o e = absurd (o e)

  globals_by : (s t : Bool) → (to_stack ≡ to_globals → ⊥) → (micro.Other ≡ to_globals → ⊥) → by_base s t ≡ to_globals → window_by s t ≡ Globals
  globals_by true t g o e = absurd (g e)
  globals_by false true g o e = refl
  globals_by false false g o e = absurd (o e)

module _ (image : Contents) (h : Hart) (p : Privates) (zeroed : h.registers 32 ≡ 0) where
  reads : (n : ℕ) → register h n ≡ h.registers (slot n)
  reads zero = sym zeroed
  reads (suc n) = refl

  abbrev address : Micro → ℕ
  address m = sum_of (h.registers m.rs1) m.imm

  pub loading_stack : (i : Instr) → (micro_of i).op ≡ micro.LoadStack → executed i image h p ≡ loads Lw (micro_of i).rd h.stack (stack_offset 4 (address (micro_of i))) h p
  loading_stack (Upper Lui rd imm) e = absurd (cc)
  loading_stack (Upper Auipc rd imm) e = absurd (cc)
  loading_stack (Jal rd imm) e = absurd (cc)
  loading_stack (Jalr rd rs1 imm) e = absurd (cc)
  loading_stack (Branch op rs1 rs2 imm) e = absurd (omega (arith, apart 0 3 _ _ (kind_branch op) refl e))
  loading_stack (Load Lb rd rs1 imm) e = absurd (cc)
  loading_stack (Load Lh rd rs1 imm) e = absurd (cc)
  loading_stack (Load Lw rd rs1 imm) e = rw (stack_by micro.LoadStack micro.LoadGlobals (rs1 == 2 || rs1 == 8) (rs1 == 4) (λ f. absurd (cc)) (λ f. absurd (cc)) e, reads rs1) refl
  loading_stack (Load Lbu rd rs1 imm) e = absurd (cc)
  loading_stack (Load Lhu rd rs1 imm) e = absurd (cc)
  loading_stack (Store op rs1 rs2 imm) e = absurd (of_store_is (λ x. x ≡ micro.LoadStack → ⊥) op rs1 (λ f. absurd (cc)) (λ f. absurd (cc)) (λ f. absurd (cc)) e)
  loading_stack (Immediate op rd rs1 imm) e = absurd (omega (arith, apart 0 3 _ _ (kind_immediate op) refl e))
  loading_stack (Shift op rd rs1 amount) e = absurd (omega (arith, apart 0 3 _ _ (kind_shift op) refl e))
  loading_stack (Register op rd rs1 rs2) e = absurd (omega (arith, apart 0 3 _ _ (kind_register op) refl e))
  loading_stack (Fence rd rs1 imm) e = absurd (cc)
  loading_stack Ecall e = absurd (cc)
  loading_stack Ebreak e = absurd (cc)

  pub loading_globals : (i : Instr) → (micro_of i).op ≡ micro.LoadGlobals → executed i image h p ≡ loads Lw (micro_of i).rd p (globals_offset image.privates 4 (address (micro_of i))) h p
  loading_globals (Upper Lui rd imm) e = absurd (cc)
  loading_globals (Upper Auipc rd imm) e = absurd (cc)
  loading_globals (Jal rd imm) e = absurd (cc)
  loading_globals (Jalr rd rs1 imm) e = absurd (cc)
  loading_globals (Branch op rs1 rs2 imm) e = absurd (omega (arith, apart 0 5 _ _ (kind_branch op) refl e))
  loading_globals (Load Lb rd rs1 imm) e = absurd (cc)
  loading_globals (Load Lh rd rs1 imm) e = absurd (cc)
  loading_globals (Load Lw rd rs1 imm) e = rw (globals_by micro.LoadStack micro.LoadGlobals (rs1 == 2 || rs1 == 8) (rs1 == 4) (λ f. absurd (cc)) (λ f. absurd (cc)) e, reads rs1) refl
  loading_globals (Load Lbu rd rs1 imm) e = absurd (cc)
  loading_globals (Load Lhu rd rs1 imm) e = absurd (cc)
  loading_globals (Store op rs1 rs2 imm) e = absurd (of_store_is (λ x. x ≡ micro.LoadGlobals → ⊥) op rs1 (λ f. absurd (cc)) (λ f. absurd (cc)) (λ f. absurd (cc)) e)
  loading_globals (Immediate op rd rs1 imm) e = absurd (omega (arith, apart 0 5 _ _ (kind_immediate op) refl e))
  loading_globals (Shift op rd rs1 amount) e = absurd (omega (arith, apart 0 5 _ _ (kind_shift op) refl e))
  loading_globals (Register op rd rs1 rs2) e = absurd (omega (arith, apart 0 5 _ _ (kind_register op) refl e))
  loading_globals (Fence rd rs1 imm) e = absurd (cc)
  loading_globals Ecall e = absurd (cc)
  loading_globals Ebreak e = absurd (cc)

  pub storing_stack : (i : Instr) → (micro_of i).op ≡ micro.StoreStack → executed i image h p ≡ stores_stack Sw (h.registers (micro_of i).rs2) (stack_offset 4 (address (micro_of i))) h p
  storing_stack (Upper Lui rd imm) e = absurd (cc)
  storing_stack (Upper Auipc rd imm) e = absurd (cc)
  storing_stack (Jal rd imm) e = absurd (cc)
  storing_stack (Jalr rd rs1 imm) e = absurd (cc)
  storing_stack (Branch op rs1 rs2 imm) e = absurd (omega (arith, apart 0 4 _ _ (kind_branch op) refl e))
  storing_stack (Load op rd rs1 imm) e = absurd (of_load_is (λ x. x ≡ micro.StoreStack → ⊥) op rs1 (λ f. absurd (cc)) (λ f. absurd (cc)) (λ f. absurd (cc)) e)
  storing_stack (Store Sb rs1 rs2 imm) e = absurd (cc)
  storing_stack (Store Sh rs1 rs2 imm) e = absurd (cc)
  storing_stack (Store Sw rs1 rs2 imm) e = rw (stack_by micro.StoreStack micro.StoreGlobals (rs1 == 2 || rs1 == 8) (rs1 == 4) (λ f. absurd (cc)) (λ f. absurd (cc)) e, reads rs1, reads rs2) refl
  storing_stack (Immediate op rd rs1 imm) e = absurd (omega (arith, apart 0 4 _ _ (kind_immediate op) refl e))
  storing_stack (Shift op rd rs1 amount) e = absurd (omega (arith, apart 0 4 _ _ (kind_shift op) refl e))
  storing_stack (Register op rd rs1 rs2) e = absurd (omega (arith, apart 0 4 _ _ (kind_register op) refl e))
  storing_stack (Fence rd rs1 imm) e = absurd (cc)
  storing_stack Ecall e = absurd (cc)
  storing_stack Ebreak e = absurd (cc)

  pub storing_globals : (i : Instr) → (micro_of i).op ≡ micro.StoreGlobals → executed i image h p ≡ stores_globals Sw (h.registers (micro_of i).rs2) (globals_offset image.privates 4 (address (micro_of i))) h p
  storing_globals (Upper Lui rd imm) e = absurd (cc)
  storing_globals (Upper Auipc rd imm) e = absurd (cc)
  storing_globals (Jal rd imm) e = absurd (cc)
  storing_globals (Jalr rd rs1 imm) e = absurd (cc)
  storing_globals (Branch op rs1 rs2 imm) e = absurd (omega (arith, apart 0 6 _ _ (kind_branch op) refl e))
  storing_globals (Load op rd rs1 imm) e = absurd (of_load_is (λ x. x ≡ micro.StoreGlobals → ⊥) op rs1 (λ f. absurd (cc)) (λ f. absurd (cc)) (λ f. absurd (cc)) e)
  storing_globals (Store Sb rs1 rs2 imm) e = absurd (cc)
  storing_globals (Store Sh rs1 rs2 imm) e = absurd (cc)
  storing_globals (Store Sw rs1 rs2 imm) e = rw (globals_by micro.StoreStack micro.StoreGlobals (rs1 == 2 || rs1 == 8) (rs1 == 4) (λ f. absurd (cc)) (λ f. absurd (cc)) e, reads rs1, reads rs2) refl
  storing_globals (Immediate op rd rs1 imm) e = absurd (omega (arith, apart 0 6 _ _ (kind_immediate op) refl e))
  storing_globals (Shift op rd rs1 amount) e = absurd (omega (arith, apart 0 6 _ _ (kind_shift op) refl e))
  storing_globals (Register op rd rs1 rs2) e = absurd (omega (arith, apart 0 6 _ _ (kind_register op) refl e))
  storing_globals (Fence rd rs1 imm) e = absurd (cc)
  storing_globals Ecall e = absurd (cc)
  storing_globals Ebreak e = absurd (cc)
