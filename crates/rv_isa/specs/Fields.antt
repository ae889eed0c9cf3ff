-- The fields of an instruction word, after the RISC-V unprivileged specification,
-- "Base Instruction Formats" and "Immediate Encoding Variants".
use Rattle.std.specs.Prelude.{ℕ, ◌+◌, ◌-◌, ◌*◌, ◌/◌, ◌%◌, ◌^◌, nat_lt, if◌then◌else◌, ℤ, pos, negsuc}

-- word[high:low]
abbrev pub bits : (high low word : ℕ) → ℕ
bits high low word = word / 2 ^ low % 2 ^ (high + 1 - low)

abbrev pub opcode : ℕ → ℕ
opcode word = bits 6 0 word

abbrev pub rd : ℕ → ℕ
rd word = bits 11 7 word

abbrev pub funct3 : ℕ → ℕ
funct3 word = bits 14 12 word

abbrev pub rs1 : ℕ → ℕ
rs1 word = bits 19 15 word

abbrev pub rs2 : ℕ → ℕ
rs2 word = bits 24 20 word

abbrev pub funct7 : ℕ → ℕ
funct7 word = bits 31 25 word

-- a field of `count` bits, read as a number in two's complement
abbrev pub signed : (count field : ℕ) → ℤ
signed count field = if nat_lt field (2 ^ (count - 1)) then pos field else negsuc (2 ^ count - 1 - field)

-- imm[11:0] in 31 to 20
abbrev pub i_imm : ℕ → ℤ
i_imm word = signed 12 (bits 31 20 word)

-- imm[11:5] in 31 to 25, imm[4:0] in 11 to 7
abbrev pub s_imm : ℕ → ℤ
s_imm word = signed 12 (bits 31 25 word * 2 ^ 5 + bits 11 7 word)

-- imm[12|10:5] in 31 to 25, imm[4:1|11] in 11 to 7
abbrev pub b_imm : ℕ → ℤ
b_imm word = signed 13 (bits 31 31 word * 2 ^ 12 + bits 7 7 word * 2 ^ 11 + bits 30 25 word * 2 ^ 5 + bits 11 8 word * 2)

-- imm[31:12] in 31 to 12: the number of these 20 bits
abbrev pub u_imm : ℕ → ℕ
u_imm word = bits 31 12 word

-- imm[20|10:1|11|19:12] in 31 to 12
abbrev pub j_imm : ℕ → ℤ
j_imm word = signed 21 (bits 31 31 word * 2 ^ 20 + bits 19 12 word * 2 ^ 12 + bits 20 20 word * 2 ^ 11 + bits 30 21 word * 2)
