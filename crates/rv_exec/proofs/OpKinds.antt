-- The kinds of micro-operations.
use Rattle.std.proofs.Common.{◌≡◌, ℕ, Some, None, refl}
use Rattle.rv_isa.specs.declared.instr.BranchOp.{BranchOp}
use Rattle.rv_isa.specs.declared.instr.BranchOp.TheVariants.{Beq, Bne, Blt, Bge, Bltu, Bgeu}
use Rattle.rv_isa.specs.declared.instr.ImmediateOp.{ImmediateOp}
use Rattle.rv_isa.specs.declared.instr.ImmediateOp.TheVariants.{Addi, Slti, Sltiu, Xori, Ori, Andi}
use Rattle.rv_isa.specs.declared.instr.ShiftOp.{ShiftOp}
use Rattle.rv_isa.specs.declared.instr.ShiftOp.TheVariants.{Slli, Srli, Srai}
use Rattle.rv_isa.specs.declared.instr.RegisterOp.{RegisterOp}
use Rattle.rv_isa.specs.declared.instr.RegisterOp.TheVariants.{Add, Sub, Sll, Slt, Sltu, Xor, Srl, Sra, Or, And, Mul, Mulh, Mulhsu, Mulhu, Div, Divu, Rem, Remu}
use Rattle.rv_isa.specs.declared.micro.MicroOp.{MicroOp}
use Rattle.rv_isa.specs.declared.micro.MicroOp.TheVariants.{Jal, Jalr, LoadStack, StoreStack, LoadGlobals, StoreGlobals, Other}
use Rattle.rv_isa.specs.Micro.{of_register, of_immediate, of_shift, of_branch}
use Rattle.rv_exec.specs.Micros.{computes, decides}

-- a number for each kind but those that compute or decide
abbrev pub kind : MicroOp → ℕ
kind Jal = 1
kind Jalr = 2
kind LoadStack = 3
kind StoreStack = 4
kind LoadGlobals = 5
kind StoreGlobals = 6
kind Other = 7
kind _ = 0

pub kind_register : (op : RegisterOp) → kind (of_register op) ≡ 0
kind_register Add = refl
kind_register Sub = refl
kind_register Sll = refl
kind_register Slt = refl
kind_register Sltu = refl
kind_register Xor = refl
kind_register Srl = refl
kind_register Sra = refl
kind_register Or = refl
kind_register And = refl
kind_register Mul = refl
kind_register Mulh = refl
kind_register Mulhsu = refl
kind_register Mulhu = refl
kind_register Div = refl
kind_register Divu = refl
kind_register Rem = refl
kind_register Remu = refl

pub kind_immediate : (op : ImmediateOp) → kind (of_immediate op) ≡ 0
kind_immediate Addi = refl
kind_immediate Slti = refl
kind_immediate Sltiu = refl
kind_immediate Xori = refl
kind_immediate Ori = refl
kind_immediate Andi = refl

pub kind_shift : (op : ShiftOp) → kind (of_shift op) ≡ 0
kind_shift Slli = refl
kind_shift Srli = refl
kind_shift Srai = refl

pub kind_branch : (op : BranchOp) → kind (of_branch op) ≡ 0
kind_branch Beq = refl
kind_branch Bne = refl
kind_branch Blt = refl
kind_branch Bge = refl
kind_branch Bltu = refl
kind_branch Bgeu = refl

pub computes_register : (op : RegisterOp) → computes (of_register op) ≡ Some op
computes_register Add = refl
computes_register Sub = refl
computes_register Sll = refl
computes_register Slt = refl
computes_register Sltu = refl
computes_register Xor = refl
computes_register Srl = refl
computes_register Sra = refl
computes_register Or = refl
computes_register And = refl
computes_register Mul = refl
computes_register Mulh = refl
computes_register Mulhsu = refl
computes_register Mulhu = refl
computes_register Div = refl
computes_register Divu = refl
computes_register Rem = refl
computes_register Remu = refl

pub computes_branch : (op : BranchOp) → computes (of_branch op) ≡ None
computes_branch Beq = refl
computes_branch Bne = refl
computes_branch Blt = refl
computes_branch Bge = refl
computes_branch Bltu = refl
computes_branch Bgeu = refl

pub decides_register : (op : RegisterOp) → decides (of_register op) ≡ None
decides_register Add = refl
decides_register Sub = refl
decides_register Sll = refl
decides_register Slt = refl
decides_register Sltu = refl
decides_register Xor = refl
decides_register Srl = refl
decides_register Sra = refl
decides_register Or = refl
decides_register And = refl
decides_register Mul = refl
decides_register Mulh = refl
decides_register Mulhsu = refl
decides_register Mulhu = refl
decides_register Div = refl
decides_register Divu = refl
decides_register Rem = refl
decides_register Remu = refl

pub decides_immediate : (op : ImmediateOp) → decides (of_immediate op) ≡ None
decides_immediate Addi = refl
decides_immediate Slti = refl
decides_immediate Sltiu = refl
decides_immediate Xori = refl
decides_immediate Ori = refl
decides_immediate Andi = refl

pub decides_shift : (op : ShiftOp) → decides (of_shift op) ≡ None
decides_shift Slli = refl
decides_shift Srli = refl
decides_shift Srai = refl

pub decides_branch : (op : BranchOp) → decides (of_branch op) ≡ Some op
decides_branch Beq = refl
decides_branch Bne = refl
decides_branch Blt = refl
decides_branch Bge = refl
decides_branch Bltu = refl
decides_branch Bgeu = refl

-- the operation on registers that an immediate or a constant shift stands for
abbrev pub on_immediate : ImmediateOp → RegisterOp
on_immediate Addi = Add
on_immediate Slti = Slt
on_immediate Sltiu = Sltu
on_immediate Xori = Xor
on_immediate Ori = Or
on_immediate Andi = And

abbrev pub on_shift : ShiftOp → RegisterOp
on_shift Slli = Sll
on_shift Srli = Srl
on_shift Srai = Sra

pub computes_immediate : (op : ImmediateOp) → computes (of_immediate op) ≡ Some (on_immediate op)
computes_immediate Addi = refl
computes_immediate Slti = refl
computes_immediate Sltiu = refl
computes_immediate Xori = refl
computes_immediate Ori = refl
computes_immediate Andi = refl

pub computes_shift : (op : ShiftOp) → computes (of_shift op) ≡ Some (on_shift op)
computes_shift Slli = refl
computes_shift Srli = refl
computes_shift Srai = refl
