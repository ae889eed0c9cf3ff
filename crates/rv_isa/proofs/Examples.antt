-- Words that the table reads.
use Rattle.std.proofs.Common.{◌≡◌, Some, None, refl, pos, negsuc}
use Rattle.rv_isa.specs.Table.{instruction_of}
use Rattle.rv_isa.specs.declared.instr.Instr.TheVariants.{Jal, Branch, Immediate, Register, Ecall}
use Rattle.rv_isa.specs.declared.instr.BranchOp.TheVariants.{Bne}
use Rattle.rv_isa.specs.declared.instr.ImmediateOp.TheVariants.{Addi}
use Rattle.rv_isa.specs.declared.instr.RegisterOp.TheVariants.{Add, Mul}

pub add : instruction_of 0x003100b3 ≡ Some (Register Add 1 2 3)
add = refl

pub mul : instruction_of 0x023100b3 ≡ Some (Register Mul 1 2 3)
mul = refl

-- no instruction of opcode 0x33 has 2 as its funct7
pub no_row : instruction_of 0x043100b3 ≡ None
no_row = refl

pub addi : instruction_of 0x02a00513 ≡ Some (Immediate Addi 10 0 (pos 42))
addi = refl

-- bne x1, x0, -8
pub bne : instruction_of 0xfe009ce3 ≡ Some (Branch Bne 1 0 (negsuc 7))
bne = refl

-- jal x0, -4
pub jal : instruction_of 0xffdff06f ≡ Some (Jal 0 (negsuc 3))
jal = refl

pub ecall : instruction_of 0x00000073 ≡ Some Ecall
ecall = refl
