-- The instruction words of RV32IM, after the RISC-V unprivileged specification, "RV32/64G Instruction Set Listings".
use Rattle.std.specs.Prelude.{◌≡◌, ℕ, ◌-◌, ◌%◌, ◌^◌, ◌<◌, ◌≤◌, ◌==◌, Bool, if◌then◌else◌, List, [], ◌∷◌, Option, Some, None, count_by, ℤ, pos, negsuc, ◌≤ℤ◌, ◌<ℤ◌}
use Rattle.std.specs.List.{list_all}
use Rattle.rv_isa.specs.Fields.{bits, rd, rs1, rs2, i_imm, s_imm, b_imm, u_imm, j_imm}
use Rattle.rv_isa.specs.declared.instr.Instr.{Instr}
use Rattle.rv_isa.specs.declared.instr.Instr.TheVariants.{Upper, Jal, Jalr, Branch, Load, Store, Immediate, Shift, Register, Fence, Ecall, Ebreak}
use Rattle.rv_isa.specs.declared.instr.UpperOp.TheVariants.{Lui, Auipc}
use Rattle.rv_isa.specs.declared.instr.BranchOp.TheVariants.{Beq, Bne, Blt, Bge, Bltu, Bgeu}
use Rattle.rv_isa.specs.declared.instr.LoadOp.TheVariants.{Lb, Lh, Lw, Lbu, Lhu}
use Rattle.rv_isa.specs.declared.instr.StoreOp.TheVariants.{Sb, Sh, Sw}
use Rattle.rv_isa.specs.declared.instr.ImmediateOp.TheVariants.{Addi, Slti, Sltiu, Xori, Ori, Andi}
use Rattle.rv_isa.specs.declared.instr.ShiftOp.TheVariants.{Slli, Srli, Srai}
use Rattle.rv_isa.specs.declared.instr.RegisterOp.TheVariants.{Add, Sub, Sll, Slt, Sltu, Xor, Srl, Sra, Or, And, Mul, Mulh, Mulhsu, Mulhu, Div, Divu, Rem, Remu}

-- word[high:low] has this value in each word of the row
pub record Fixed : Type 0 where
  pub high : ℕ
  pub low : ℕ
  pub value : ℕ

-- what all words of an instruction have in common, and the instruction that such a word is, operands and all
pub record Row : Type 0 where
  pub fixed : List Fixed
  pub instruction : ℕ → Instr

abbrev pub has_opcode : ℕ → Fixed
has_opcode value = record { high = 6; low = 0; value = value }

abbrev pub has_funct3 : ℕ → Fixed
has_funct3 value = record { high = 14; low = 12; value = value }

abbrev pub has_funct7 : ℕ → Fixed
has_funct7 value = record { high = 31; low = 25; value = value }

-- the six formats, and words in which nothing is free

abbrev pub r_row : (opcode funct3 funct7 : ℕ) → (ℕ → ℕ → ℕ → Instr) → Row
r_row opcode funct3 funct7 make = record {
  fixed = has_opcode opcode ∷ has_funct3 funct3 ∷ has_funct7 funct7 ∷ [];
  instruction = λ word. make (rd word) (rs1 word) (rs2 word);
}

abbrev pub i_row : (opcode funct3 : ℕ) → (ℕ → ℕ → ℤ → Instr) → Row
i_row opcode funct3 make = record {
  fixed = has_opcode opcode ∷ has_funct3 funct3 ∷ [];
  instruction = λ word. make (rd word) (rs1 word) (i_imm word);
}

abbrev pub s_row : (opcode funct3 : ℕ) → (ℕ → ℕ → ℤ → Instr) → Row
s_row opcode funct3 make = record {
  fixed = has_opcode opcode ∷ has_funct3 funct3 ∷ [];
  instruction = λ word. make (rs1 word) (rs2 word) (s_imm word);
}

abbrev pub b_row : (opcode funct3 : ℕ) → (ℕ → ℕ → ℤ → Instr) → Row
b_row opcode funct3 make = record {
  fixed = has_opcode opcode ∷ has_funct3 funct3 ∷ [];
  instruction = λ word. make (rs1 word) (rs2 word) (b_imm word);
}

abbrev pub u_row : (opcode : ℕ) → (ℕ → ℕ → Instr) → Row
u_row opcode make = record {
  fixed = has_opcode opcode ∷ [];
  instruction = λ word. make (rd word) (u_imm word);
}

abbrev pub j_row : (opcode : ℕ) → (ℕ → ℤ → Instr) → Row
j_row opcode make = record {
  fixed = has_opcode opcode ∷ [];
  instruction = λ word. make (rd word) (j_imm word);
}

abbrev pub only_word : ℕ → Instr → Row
only_word value instr = record {
  fixed = record { high = 31; low = 0; value = value } ∷ [];
  instruction = λ word. instr;
}

-- opcode, funct3, funct7. A constant shift has its amount in the place of rs2.
abbrev pub table : List Row
table =
    u_row 0x37 (Upper Lui)
    ∷ u_row 0x17 (Upper Auipc)
    ∷ j_row 0x6f Jal
    ∷ i_row 0x67 0 Jalr
    ∷ b_row 0x63 0 (Branch Beq)
    ∷ b_row 0x63 1 (Branch Bne)
    ∷ b_row 0x63 4 (Branch Blt)
    ∷ b_row 0x63 5 (Branch Bge)
    ∷ b_row 0x63 6 (Branch Bltu)
    ∷ b_row 0x63 7 (Branch Bgeu)
    ∷ i_row 0x03 0 (Load Lb)
    ∷ i_row 0x03 1 (Load Lh)
    ∷ i_row 0x03 2 (Load Lw)
    ∷ i_row 0x03 4 (Load Lbu)
    ∷ i_row 0x03 5 (Load Lhu)
    ∷ s_row 0x23 0 (Store Sb)
    ∷ s_row 0x23 1 (Store Sh)
    ∷ s_row 0x23 2 (Store Sw)
    ∷ i_row 0x13 0 (Immediate Addi)
    ∷ i_row 0x13 2 (Immediate Slti)
    ∷ i_row 0x13 3 (Immediate Sltiu)
    ∷ i_row 0x13 4 (Immediate Xori)
    ∷ i_row 0x13 6 (Immediate Ori)
    ∷ i_row 0x13 7 (Immediate Andi)
    ∷ r_row 0x13 1 0x00 (Shift Slli)
    ∷ r_row 0x13 5 0x00 (Shift Srli)
    ∷ r_row 0x13 5 0x20 (Shift Srai)
    ∷ r_row 0x33 0 0x00 (Register Add)
    ∷ r_row 0x33 0 0x20 (Register Sub)
    ∷ r_row 0x33 1 0x00 (Register Sll)
    ∷ r_row 0x33 2 0x00 (Register Slt)
    ∷ r_row 0x33 3 0x00 (Register Sltu)
    ∷ r_row 0x33 4 0x00 (Register Xor)
    ∷ r_row 0x33 5 0x00 (Register Srl)
    ∷ r_row 0x33 5 0x20 (Register Sra)
    ∷ r_row 0x33 6 0x00 (Register Or)
    ∷ r_row 0x33 7 0x00 (Register And)
    ∷ r_row 0x33 0 0x01 (Register Mul)
    ∷ r_row 0x33 1 0x01 (Register Mulh)
    ∷ r_row 0x33 2 0x01 (Register Mulhsu)
    ∷ r_row 0x33 3 0x01 (Register Mulhu)
    ∷ r_row 0x33 4 0x01 (Register Div)
    ∷ r_row 0x33 5 0x01 (Register Divu)
    ∷ r_row 0x33 6 0x01 (Register Rem)
    ∷ r_row 0x33 7 0x01 (Register Remu)
    ∷ i_row 0x0f 0 Fence
    ∷ only_word 0x00000073 Ecall
    ∷ only_word 0x00100073 Ebreak
    ∷ []

-- a row has the word
abbrev pub has : (row : Row) (word : ℕ) → Bool
has row word = list_all (λ (f : Fixed). bits f.high f.low word == f.value) row.fixed

-- the instruction that the first row with this word gives
abbrev pub read_by : List Row → ℕ → Option Instr
read_by [] word = None
read_by (row ∷ rows) word = if has row word then Some (row.instruction word) else read_by rows word

-- the instruction that a word is, or none where no row has it
abbrev pub instruction_of : ℕ → Option Instr
instruction_of word = read_by table word

-- each word is in at most one row
abbrev pub HasOneRowAtMost : Type 0
HasOneRowAtMost = (word : ℕ) → count_by (λ (row : Row). has row word) table ≤ 1

-- operands

abbrev pub IsRegister : ℕ → Type 0
IsRegister n = n < 32

-- an immediate of `count` bits
abbrev pub IsSigned : (count : ℕ) → ℤ → Type 0
IsSigned count imm = (negsuc (2 ^ (count - 1) - 1) ≤ℤ imm) × (imm <ℤ pos (2 ^ (count - 1)))

abbrev pub IsEven : ℤ → Type 0
IsEven (pos n) = n % 2 ≡ 0
IsEven (negsuc n) = n % 2 ≡ 1

-- a distance in bytes, of which bit 0 is in no word
abbrev pub IsDistance : (count : ℕ) → ℤ → Type 0
IsDistance count imm = IsSigned count imm × IsEven imm

-- the operands fit the fields of a word
abbrev pub InRange : Instr → Type 0
InRange (Upper op rd imm) = IsRegister rd × (imm < 2 ^ 20)
InRange (Jal rd imm) = IsRegister rd × IsDistance 21 imm
InRange (Jalr rd rs1 imm) = IsRegister rd × IsRegister rs1 × IsSigned 12 imm
InRange (Branch op rs1 rs2 imm) = IsRegister rs1 × IsRegister rs2 × IsDistance 13 imm
InRange (Load op rd rs1 imm) = IsRegister rd × IsRegister rs1 × IsSigned 12 imm
InRange (Store op rs1 rs2 imm) = IsRegister rs1 × IsRegister rs2 × IsSigned 12 imm
InRange (Immediate op rd rs1 imm) = IsRegister rd × IsRegister rs1 × IsSigned 12 imm
InRange (Shift op rd rs1 amount) = IsRegister rd × IsRegister rs1 × (amount < 32)
InRange (Register op rd rs1 rs2) = IsRegister rd × IsRegister rs1 × IsRegister rs2
InRange (Fence rd rs1 imm) = IsRegister rd × IsRegister rs1 × IsSigned 12 imm
InRange Ecall = Unit {0}
InRange Ebreak = Unit {0}
