-- Words of instructions, for examples: the fields of the six formats, put together.
use Rattle.std.specs.Prelude.{ℕ, ◌+◌, ◌-◌, ◌*◌, ◌/◌, ◌%◌, ◌^◌, ℤ, pos, negsuc, suc, List, map}
use Rattle.rv_isa.specs.declared.instr.Instr.{Instr}
use Rattle.rv_isa.specs.declared.instr.Instr.TheVariants.{Upper, Jal, Jalr, Branch, Load, Store, Immediate, Shift, Register, Fence, Ecall, Ebreak}
use Rattle.rv_isa.specs.declared.instr.UpperOp.{UpperOp}
use Rattle.rv_isa.specs.declared.instr.UpperOp.TheVariants.{Lui, Auipc}
use Rattle.rv_isa.specs.declared.instr.BranchOp.{BranchOp}
use Rattle.rv_isa.specs.declared.instr.BranchOp.TheVariants.{Beq, Bne, Blt, Bge, Bltu, Bgeu}
use Rattle.rv_isa.specs.declared.instr.LoadOp.{LoadOp}
use Rattle.rv_isa.specs.declared.instr.LoadOp.TheVariants.{Lb, Lh, Lw, Lbu, Lhu}
use Rattle.rv_isa.specs.declared.instr.StoreOp.{StoreOp}
use Rattle.rv_isa.specs.declared.instr.StoreOp.TheVariants.{Sb, Sh, Sw}
use Rattle.rv_isa.specs.declared.instr.ImmediateOp.{ImmediateOp}
use Rattle.rv_isa.specs.declared.instr.ImmediateOp.TheVariants.{Addi, Slti, Sltiu, Xori, Ori, Andi}
use Rattle.rv_isa.specs.declared.instr.ShiftOp.{ShiftOp}
use Rattle.rv_isa.specs.declared.instr.ShiftOp.TheVariants.{Slli, Srli, Srai}
use Rattle.rv_isa.specs.declared.instr.RegisterOp.{RegisterOp}
use Rattle.rv_isa.specs.declared.instr.RegisterOp.TheVariants.{Add, Sub, Sll, Slt, Sltu, Xor, Srl, Sra, Or, And, Mul, Mulh, Mulhsu, Mulhu, Div, Divu, Rem, Remu}

-- a number in two's complement, `all` being the number of patterns
abbrev pattern : (all : ℕ) → ℤ → ℕ
pattern all (pos n) = n
pattern all (negsuc n) = all - suc n

abbrev joined : (opcode rd funct3 rs1 rs2 funct7 : ℕ) → ℕ
joined opcode rd funct3 rs1 rs2 funct7 = opcode + rd * 2 ^ 7 + funct3 * 2 ^ 12 + rs1 * 2 ^ 15 + rs2 * 2 ^ 20 + funct7 * 2 ^ 25

abbrev i_word : (opcode funct3 rd rs1 imm : ℕ) → ℕ
i_word opcode funct3 rd rs1 imm = joined opcode rd funct3 rs1 (imm % 32) (imm / 32)

abbrev s_word : (opcode funct3 rs1 rs2 imm : ℕ) → ℕ
s_word opcode funct3 rs1 rs2 imm = joined opcode (imm % 32) funct3 rs1 rs2 (imm / 32)

abbrev b_word : (opcode funct3 rs1 rs2 imm : ℕ) → ℕ
b_word opcode funct3 rs1 rs2 imm =
    joined opcode (imm / 2 % 16 * 2 + imm / 2048 % 2) funct3 rs1 rs2 (imm / 4096 * 64 + imm / 32 % 64)

abbrev u_word : (opcode rd imm : ℕ) → ℕ
u_word opcode rd imm = joined opcode rd (imm % 8) (imm / 8 % 32) (imm / 256 % 32) (imm / 8192)

abbrev j_word : (opcode rd imm : ℕ) → ℕ
j_word opcode rd imm =
    joined opcode rd (imm / 4096 % 8) (imm / 32768 % 32) (imm / 2 % 16 * 2 + imm / 2048 % 2) (imm / 1048576 * 64 + imm / 32 % 64)

abbrev upper_opcode : UpperOp → ℕ
upper_opcode Lui = 0x37
upper_opcode Auipc = 0x17

abbrev branch_funct3 : BranchOp → ℕ
branch_funct3 Beq = 0
branch_funct3 Bne = 1
branch_funct3 Blt = 4
branch_funct3 Bge = 5
branch_funct3 Bltu = 6
branch_funct3 Bgeu = 7

abbrev load_funct3 : LoadOp → ℕ
load_funct3 Lb = 0
load_funct3 Lh = 1
load_funct3 Lw = 2
load_funct3 Lbu = 4
load_funct3 Lhu = 5

abbrev store_funct3 : StoreOp → ℕ
store_funct3 Sb = 0
store_funct3 Sh = 1
store_funct3 Sw = 2

abbrev immediate_funct3 : ImmediateOp → ℕ
immediate_funct3 Addi = 0
immediate_funct3 Slti = 2
immediate_funct3 Sltiu = 3
immediate_funct3 Xori = 4
immediate_funct3 Ori = 6
immediate_funct3 Andi = 7

abbrev shift_functs : ShiftOp → ℕ × ℕ
shift_functs Slli = (1, 0)
shift_functs Srli = (5, 0)
shift_functs Srai = (5, 0x20)

abbrev register_functs : RegisterOp → ℕ × ℕ
register_functs Add = (0, 0)
register_functs Sub = (0, 0x20)
register_functs Sll = (1, 0)
register_functs Slt = (2, 0)
register_functs Sltu = (3, 0)
register_functs Xor = (4, 0)
register_functs Srl = (5, 0)
register_functs Sra = (5, 0x20)
register_functs Or = (6, 0)
register_functs And = (7, 0)
register_functs Mul = (0, 1)
register_functs Mulh = (1, 1)
register_functs Mulhsu = (2, 1)
register_functs Mulhu = (3, 1)
register_functs Div = (4, 1)
register_functs Divu = (5, 1)
register_functs Rem = (6, 1)
register_functs Remu = (7, 1)

abbrev pub word_of : Instr → ℕ
word_of (Upper op rd imm) = u_word (upper_opcode op) rd imm
word_of (Jal rd imm) = j_word 0x6f rd (pattern (2 ^ 21) imm)
word_of (Jalr rd rs1 imm) = i_word 0x67 0 rd rs1 (pattern 4096 imm)
word_of (Branch op rs1 rs2 imm) = b_word 0x63 (branch_funct3 op) rs1 rs2 (pattern 8192 imm)
word_of (Load op rd rs1 imm) = i_word 0x03 (load_funct3 op) rd rs1 (pattern 4096 imm)
word_of (Store op rs1 rs2 imm) = s_word 0x23 (store_funct3 op) rs1 rs2 (pattern 4096 imm)
word_of (Immediate op rd rs1 imm) = i_word 0x13 (immediate_funct3 op) rd rs1 (pattern 4096 imm)
word_of (Shift op rd rs1 amount) = joined 0x13 rd (shift_functs op).0 rs1 amount (shift_functs op).1
word_of (Register op rd rs1 rs2) = joined 0x33 rd (register_functs op).0 rs1 rs2 (register_functs op).1
word_of (Fence rd rs1 imm) = i_word 0x0f 0 rd rs1 (pattern 4096 imm)
word_of Ecall = 0x73
word_of Ebreak = 0x100073

abbrev pub words_of : List Instr → List ℕ
words_of code = map word_of code
