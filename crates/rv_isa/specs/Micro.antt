-- Micro-operations: instructions in the form in which they are run.
use Rattle.std.specs.Prelude.{◌≡◌, ℕ, zero, suc, ◌*◌, ◌^◌, ◌<◌, ◌≤◌, ◌==◌, ◌||◌, if◌then◌else◌, List, map, All, Option, Some, None, ℤ}
use Rattle.std.specs.Int.{cast_unsigned, w32}
use Rattle.rv_isa.specs.declared.instr.Instr.{Instr}
use Rattle.rv_isa.specs.declared.instr.Instr.TheVariants.{Upper, Jal, Jalr, Branch, Load, Store, Immediate, Shift, Register, Fence, Ecall, Ebreak}
use Rattle.rv_isa.specs.declared.instr.UpperOp.TheVariants.{Lui, Auipc}
use Rattle.rv_isa.specs.declared.instr.BranchOp.{BranchOp}
use Rattle.rv_isa.specs.declared.instr.BranchOp.TheVariants.{Beq, Bne, Blt, Bge, Bltu, Bgeu}
use Rattle.rv_isa.specs.declared.instr.LoadOp.{LoadOp}
use Rattle.rv_isa.specs.declared.instr.LoadOp.TheVariants.{Lw}
use Rattle.rv_isa.specs.declared.instr.StoreOp.{StoreOp}
use Rattle.rv_isa.specs.declared.instr.StoreOp.TheVariants.{Sw}
use Rattle.rv_isa.specs.declared.instr.ImmediateOp.{ImmediateOp}
use Rattle.rv_isa.specs.declared.instr.ImmediateOp.TheVariants.{Addi, Slti, Sltiu, Xori, Ori, Andi}
use Rattle.rv_isa.specs.declared.instr.ShiftOp.{ShiftOp}
use Rattle.rv_isa.specs.declared.instr.ShiftOp.TheVariants.{Slli, Srli, Srai}
use Rattle.rv_isa.specs.declared.instr.RegisterOp.{RegisterOp}
use Rattle.rv_isa.specs.declared.instr.RegisterOp.TheVariants.{Add, Sub, Sll, Slt, Sltu, Xor, Srl, Sra, Or, And, Mul, Mulh, Mulhsu, Mulhu, Div, Divu, Rem, Remu}
use Rattle.rv_isa.specs.declared.micro.Micro.{Micro}
use Rattle.rv_isa.specs.declared.micro.MicroOp.{MicroOp}
use Rattle.rv_isa.specs.declared.micro.MicroOp.TheVariants as micro
use Rattle.rv_isa.specs.Table.{instruction_of}

-- the slot that is read for a register; slot 32, past the last register, is read for register 0, and holds 0
abbrev pub slot : ℕ → ℕ
slot zero = 32
slot (suc n) = suc n

-- ---- operations; one with an immediate computes what the one with two registers does

abbrev pub of_register : RegisterOp → MicroOp
of_register Add = micro.Add
of_register Sub = micro.Sub
of_register Sll = micro.Sll
of_register Slt = micro.Slt
of_register Sltu = micro.Sltu
of_register Xor = micro.Xor
of_register Srl = micro.Srl
of_register Sra = micro.Sra
of_register Or = micro.Or
of_register And = micro.And
of_register Mul = micro.Mul
of_register Mulh = micro.Mulh
of_register Mulhsu = micro.Mulhsu
of_register Mulhu = micro.Mulhu
of_register Div = micro.Div
of_register Divu = micro.Divu
of_register Rem = micro.Rem
of_register Remu = micro.Remu

abbrev pub of_immediate : ImmediateOp → MicroOp
of_immediate Addi = micro.Add
of_immediate Slti = micro.Slt
of_immediate Sltiu = micro.Sltu
of_immediate Xori = micro.Xor
of_immediate Ori = micro.Or
of_immediate Andi = micro.And

abbrev pub of_shift : ShiftOp → MicroOp
of_shift Slli = micro.Sll
of_shift Srli = micro.Srl
of_shift Srai = micro.Sra

abbrev pub of_branch : BranchOp → MicroOp
of_branch Beq = micro.Beq
of_branch Bne = micro.Bne
of_branch Blt = micro.Blt
of_branch Bge = micro.Bge
of_branch Bltu = micro.Bltu
of_branch Bgeu = micro.Bgeu

-- words of the private windows are loaded and stored in a run
abbrev pub of_load : LoadOp → (rs1 : ℕ) → MicroOp
of_load Lw rs1 = if rs1 == 2 || rs1 == 8 then micro.LoadStack else (if rs1 == 4 then micro.LoadGlobals else micro.Other)
of_load _ rs1 = micro.Other

abbrev pub of_store : StoreOp → (rs1 : ℕ) → MicroOp
of_store Sw rs1 = if rs1 == 2 || rs1 == 8 then micro.StoreStack else (if rs1 == 4 then micro.StoreGlobals else micro.Other)
of_store _ rs1 = micro.Other

-- ---- instructions

-- the immediate as a word
abbrev pub word : ℤ → ℕ
word imm = cast_unsigned w32 imm

-- an instruction at which a run ends
abbrev pub other : Micro
other = record { op = micro.Other; rd = 0; rs1 = 32; rs2 = 32; imm = 0 }

abbrev pub micro_of : Instr → Micro
micro_of (Upper Lui rd imm) = record { op = micro.Add; rd = rd; rs1 = 32; rs2 = 32; imm = imm * 2 ^ 12 }
micro_of (Upper Auipc rd imm) = other
micro_of (Jal rd imm) = record { op = micro.Jal; rd = rd; rs1 = 32; rs2 = 32; imm = word imm }
micro_of (Jalr rd rs1 imm) = record { op = micro.Jalr; rd = rd; rs1 = slot rs1; rs2 = 32; imm = word imm }
micro_of (Branch op rs1 rs2 imm) = record { op = of_branch op; rd = 0; rs1 = slot rs1; rs2 = slot rs2; imm = word imm }
micro_of (Load op rd rs1 imm) = record { op = of_load op rs1; rd = rd; rs1 = slot rs1; rs2 = 32; imm = word imm }
micro_of (Store op rs1 rs2 imm) = record { op = of_store op rs1; rd = 0; rs1 = slot rs1; rs2 = slot rs2; imm = word imm }
micro_of (Immediate op rd rs1 imm) = record { op = of_immediate op; rd = rd; rs1 = slot rs1; rs2 = 32; imm = word imm }
micro_of (Shift op rd rs1 amount) = record { op = of_shift op; rd = rd; rs1 = slot rs1; rs2 = 32; imm = amount }
micro_of (Register op rd rs1 rs2) = record { op = of_register op; rd = rd; rs1 = slot rs1; rs2 = slot rs2; imm = 0 }
micro_of (Fence rd rs1 imm) = other
micro_of Ecall = other
micro_of Ebreak = other

-- a word in no row of the table traps, as EBREAK does
abbrev pub or_break : Option Instr → Instr
or_break None = Ebreak
or_break (Some instr) = instr

-- the micro-operations of a code, one for each word
abbrev pub micros_of : (code : List ℕ) → List Micro
micros_of code = map (λ word. micro_of (or_break (instruction_of word))) code

-- the slots are there
pub record IsNumbered (m : Micro) : Type 0 where
  pub rd : m.rd < 32
  pub rs1 : m.rs1 ≤ 32
  pub rs2 : m.rs2 ≤ 32

-- the micro-operations that are at hand, if any, are those of this code
abbrev pub IsReady : (code : List ℕ) → Option (List Micro) → Type 0
IsReady code None = Unit {0}
IsReady code (Some micros) = (micros ≡ micros_of code) × All IsNumbered micros
