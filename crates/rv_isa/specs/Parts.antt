-- The six parts that every instruction word has, and where each format keeps its operands in them.
use Rattle.std.specs.Prelude.{◌≡◌, ℕ, suc, ◌+◌, ◌-◌, ◌*◌, ◌/◌, ◌%◌, ◌^◌, ◌<◌, ℤ, pos, negsuc, Some}
use Rattle.rv_isa.specs.Fields as fields
use Rattle.rv_isa.specs.Table.{instruction_of}
use Rattle.rv_isa.specs.declared.instr.Instr.{Instr}
use Rattle.rv_isa.specs.declared.encoder.Parts.{Parts}

-- these are the word's parts
pub record HasParts (word : ℕ) (parts : Parts) : Type 0 where
  pub opcode : fields.opcode word ≡ parts.opcode
  pub rd : fields.rd word ≡ parts.rd
  pub funct3 : fields.funct3 word ≡ parts.funct3
  pub rs1 : fields.rs1 word ≡ parts.rs1
  pub rs2 : fields.rs2 word ≡ parts.rs2
  pub funct7 : fields.funct7 word ≡ parts.funct7

-- the words with these parts, and no others, are this instruction
pub record Names (parts : Parts) (instr : Instr) : Type 0 where
  pub is : (word : ℕ) → word < 2 ^ 32 → HasParts word parts → instruction_of word ≡ Some instr
  pub only : (word : ℕ) → word < 2 ^ 32 → instruction_of word ≡ Some instr → HasParts word parts

-- the parts fit their places
pub record Fit (parts : Parts) : Type 0 where
  pub opcode : parts.opcode < 128
  pub rd : parts.rd < 32
  pub funct3 : parts.funct3 < 8
  pub rs1 : parts.rs1 < 32
  pub rs2 : parts.rs2 < 32
  pub funct7 : parts.funct7 < 128

-- a number in two's complement, `all` being the number of patterns
abbrev pub pattern : (all : ℕ) → ℤ → ℕ
pattern all (pos n) = n
pattern all (negsuc n) = all - suc n

abbrev pub r_parts : (opcode funct3 funct7 rd rs1 rs2 : ℕ) → Parts
r_parts opcode funct3 funct7 rd rs1 rs2 = record {
  opcode = opcode;
  rd = rd;
  funct3 = funct3;
  rs1 = rs1;
  rs2 = rs2;
  funct7 = funct7;
}

abbrev pub i_parts : (opcode funct3 rd rs1 imm : ℕ) → Parts
i_parts opcode funct3 rd rs1 imm = record {
  opcode = opcode;
  rd = rd;
  funct3 = funct3;
  rs1 = rs1;
  rs2 = imm % 32;
  funct7 = imm / 32;
}

abbrev pub s_parts : (opcode funct3 rs1 rs2 imm : ℕ) → Parts
s_parts opcode funct3 rs1 rs2 imm = record {
  opcode = opcode;
  rd = imm % 32;
  funct3 = funct3;
  rs1 = rs1;
  rs2 = rs2;
  funct7 = imm / 32;
}

abbrev pub b_parts : (opcode funct3 rs1 rs2 imm : ℕ) → Parts
b_parts opcode funct3 rs1 rs2 imm = record {
  opcode = opcode;
  rd = imm / 2 % 16 * 2 + imm / 2048 % 2;
  funct3 = funct3;
  rs1 = rs1;
  rs2 = rs2;
  funct7 = imm / 4096 * 64 + imm / 32 % 64;
}

abbrev pub u_parts : (opcode rd imm : ℕ) → Parts
u_parts opcode rd imm = record {
  opcode = opcode;
  rd = rd;
  funct3 = imm % 8;
  rs1 = imm / 8 % 32;
  rs2 = imm / 256 % 32;
  funct7 = imm / 8192;
}

abbrev pub j_parts : (opcode rd imm : ℕ) → Parts
j_parts opcode rd imm = record {
  opcode = opcode;
  rd = rd;
  funct3 = imm / 4096 % 8;
  rs1 = imm / 32768 % 32;
  rs2 = imm / 2 % 16 * 2 + imm / 2048 % 2;
  funct7 = imm / 1048576 * 64 + imm / 32 % 64;
}
