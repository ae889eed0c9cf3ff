-- What the micro-operations of a run compute.
use Rattle.std.specs.Prelude.{◌≡◌, ℕ, ◌+◌, Option, Some, None}
use Rattle.rv_isa.specs.Micro.{micro_of}
use Rattle.rv_isa.specs.declared.image.Contents.{Contents}
use Rattle.rv_isa.specs.declared.instr.Instr.{Instr}
use Rattle.rv_isa.specs.declared.micro.Micro.{Micro}
use Rattle.rv_isa.specs.declared.micro.MicroOp.{MicroOp}
use Rattle.rv_isa.specs.declared.micro.MicroOp.TheVariants.{Add, Sub, Sll, Slt, Sltu, Xor, Srl, Sra, Or, And, Mul, Mulh, Mulhsu, Mulhu, Div, Divu, Rem, Remu, Beq, Bne, Blt, Bge, Bltu, Bgeu}
use Rattle.rv_isa.specs.declared.instr.RegisterOp.{RegisterOp}
use Rattle.rv_isa.specs.declared.instr.RegisterOp.TheVariants as register
use Rattle.rv_isa.specs.declared.instr.BranchOp.{BranchOp}
use Rattle.rv_isa.specs.declared.instr.BranchOp.TheVariants as branch
use Rattle.rv_exec.specs.Hart.{Hart}
use Rattle.rv_exec.specs.Calls.{Privates, Move}
use Rattle.rv_exec.specs.Step.{executed}

-- the operation on registers that it computes, if it computes one
abbrev pub computes : MicroOp → Option RegisterOp
computes Add = Some register.Add
computes Sub = Some register.Sub
computes Sll = Some register.Sll
computes Slt = Some register.Slt
computes Sltu = Some register.Sltu
computes Xor = Some register.Xor
computes Srl = Some register.Srl
computes Sra = Some register.Sra
computes Or = Some register.Or
computes And = Some register.And
computes Mul = Some register.Mul
computes Mulh = Some register.Mulh
computes Mulhsu = Some register.Mulhsu
computes Mulhu = Some register.Mulhu
computes Div = Some register.Div
computes Divu = Some register.Divu
computes Rem = Some register.Rem
computes Remu = Some register.Remu
computes _ = None

-- the condition that it decides, if it is a branch
abbrev pub decides : MicroOp → Option BranchOp
decides Beq = Some branch.Beq
decides Bne = Some branch.Bne
decides Blt = Some branch.Blt
decides Bge = Some branch.Bge
decides Bltu = Some branch.Bltu
decides Bgeu = Some branch.Bgeu
decides _ = None

-- each instruction that the micro-operation stands for makes this move, at a word whose fetch counts
abbrev pub Does : Micro → (pc work bytes : ℕ) → Hart → Privates → Move → Type 0
Does m pc work bytes h p move =
    (instr : Instr) (image : Contents) → micro_of instr ≡ m → image.privates ≡ bytes
    → executed instr image (record h { pc = pc; work = work + 1 }) p ≡ move
