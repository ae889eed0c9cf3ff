-- What the operations of RV32IM compute. Words are numbers below 2^32; `signed` reads one in two's complement and
-- `word` writes one. After the RISC-V unprivileged specification, "RV32I Base Integer Instruction Set" and
-- "M Extension for Integer Multiplication and Division".
use Rattle.std.specs.Prelude.{ℕ, ◌+◌, ◌-◌, ◌*◌, ◌/◌, ◌%◌, ◌^◌, ◌==◌, nat_lt, not, Bool, if◌then◌else◌, ℤ, pos, ◌*ℤ◌, int_lt, bit_and, bit_or, bit_xor, int_div, int_rem}
use Rattle.std.specs.Int.{cast_signed, cast_unsigned, w32, w64}
use Rattle.rv_isa.specs.declared.instr.BranchOp.{BranchOp}
use Rattle.rv_isa.specs.declared.instr.BranchOp.TheVariants.{Beq, Bne, Blt, Bge, Bltu, Bgeu}
use Rattle.rv_isa.specs.declared.instr.ImmediateOp.{ImmediateOp}
use Rattle.rv_isa.specs.declared.instr.ImmediateOp.TheVariants.{Addi, Slti, Sltiu, Xori, Ori, Andi}
use Rattle.rv_isa.specs.declared.instr.ShiftOp.{ShiftOp}
use Rattle.rv_isa.specs.declared.instr.ShiftOp.TheVariants.{Slli, Srli, Srai}
use Rattle.rv_isa.specs.declared.instr.RegisterOp.{RegisterOp}
use Rattle.rv_isa.specs.declared.instr.RegisterOp.TheVariants.{Add, Sub, Sll, Slt, Sltu, Xor, Srl, Sra, Or, And, Mul, Mulh, Mulhsu, Mulhu, Div, Divu, Rem, Remu}
use Rattle.rv_isa.specs.declared.instr.LoadOp.{LoadOp}
use Rattle.rv_isa.specs.declared.instr.LoadOp.TheVariants.{Lb, Lh, Lw, Lbu, Lhu}
use Rattle.rv_isa.specs.declared.instr.StoreOp.{StoreOp}
use Rattle.rv_isa.specs.declared.instr.StoreOp.TheVariants.{Sb, Sh, Sw}

abbrev pub signed : ℕ → ℤ
signed x = cast_signed w32 x

abbrev pub word : ℤ → ℕ
word z = cast_unsigned w32 z

abbrev pub flag : Bool → ℕ
flag b = if b then 1 else 0

abbrev pub sum_of : ℕ → ℕ → ℕ
sum_of x y = (x + y) % 2 ^ 32

abbrev pub difference_of : ℕ → ℕ → ℕ
difference_of x y = (x + (2 ^ 32 - y)) % 2 ^ 32

abbrev pub less_signed : ℕ → ℕ → Bool
less_signed x y = int_lt (signed x) (signed y)

-- shifts take the low five bits of the amount

abbrev pub shifted_left : ℕ → ℕ → ℕ
shifted_left x amount = x * 2 ^ (amount % 32) % 2 ^ 32

abbrev pub shifted_right : ℕ → ℕ → ℕ
shifted_right x amount = x / 2 ^ (amount % 32)

-- a word as 64 bits with the same sign
abbrev pub sign_extended : ℕ → ℕ
sign_extended x = if nat_lt x (2 ^ 31) then x else x + (2 ^ 64 - 2 ^ 32)

-- with copies of the sign at the left
abbrev pub shifted_right_signed : ℕ → ℕ → ℕ
shifted_right_signed x amount = sign_extended x / 2 ^ (amount % 32) % 2 ^ 32

-- the high half of a product of 64 bits
abbrev pub high_half : ℤ → ℕ
high_half product = cast_unsigned w64 product / 2 ^ 32

-- division by 0 gives -1, or the greatest number; the least number by -1 gives itself
abbrev pub quotient_signed : ℕ → ℕ → ℕ
quotient_signed x y = if y == 0 then 2 ^ 32 - 1 else word (int_div (signed x) (signed y))

abbrev pub quotient : ℕ → ℕ → ℕ
quotient x y = if y == 0 then 2 ^ 32 - 1 else x / y

-- the remainder of a division by 0 is the dividend
abbrev pub remainder_signed : ℕ → ℕ → ℕ
remainder_signed x y = if y == 0 then x else word (int_rem (signed x) (signed y))

abbrev pub remainder : ℕ → ℕ → ℕ
remainder x y = if y == 0 then x else x % y

abbrev pub computed : RegisterOp → ℕ → ℕ → ℕ
computed Add x y = sum_of x y
computed Sub x y = difference_of x y
computed Sll x y = shifted_left x y
computed Slt x y = flag (less_signed x y)
computed Sltu x y = flag (nat_lt x y)
computed Xor x y = bit_xor x y
computed Srl x y = shifted_right x y
computed Sra x y = shifted_right_signed x y
computed Or x y = bit_or x y
computed And x y = bit_and x y
computed Mul x y = x * y % 2 ^ 32
computed Mulh x y = high_half (signed x *ℤ signed y)
computed Mulhsu x y = high_half (signed x *ℤ pos y)
computed Mulhu x y = x * y / 2 ^ 32
computed Div x y = quotient_signed x y
computed Divu x y = quotient x y
computed Rem x y = remainder_signed x y
computed Remu x y = remainder x y

abbrev pub computed_immediate : ImmediateOp → ℕ → ℕ → ℕ
computed_immediate Addi x imm = sum_of x imm
computed_immediate Slti x imm = flag (less_signed x imm)
computed_immediate Sltiu x imm = flag (nat_lt x imm)
computed_immediate Xori x imm = bit_xor x imm
computed_immediate Ori x imm = bit_or x imm
computed_immediate Andi x imm = bit_and x imm

abbrev pub shifted : ShiftOp → ℕ → ℕ → ℕ
shifted Slli x amount = shifted_left x amount
shifted Srli x amount = shifted_right x amount
shifted Srai x amount = shifted_right_signed x amount

abbrev pub is_taken : BranchOp → ℕ → ℕ → Bool
is_taken Beq x y = x == y
is_taken Bne x y = not (x == y)
is_taken Blt x y = less_signed x y
is_taken Bge x y = not (less_signed x y)
is_taken Bltu x y = nat_lt x y
is_taken Bgeu x y = not (nat_lt x y)

-- ---- loads and stores

abbrev pub load_size : LoadOp → ℕ
load_size Lb = 1
load_size Lh = 2
load_size Lw = 4
load_size Lbu = 1
load_size Lhu = 2

abbrev pub store_size : StoreOp → ℕ
store_size Sb = 1
store_size Sh = 2
store_size Sw = 4

-- a unit of this many bits with its sign, as a word
abbrev pub with_sign : (bits unit : ℕ) → ℕ
with_sign bits unit = if nat_lt unit (2 ^ (bits - 1)) then unit else unit + (2 ^ 32 - 2 ^ bits)

-- what a load puts into its register, of the unit that it read
abbrev pub extended : LoadOp → ℕ → ℕ
extended Lb unit = with_sign 8 (unit % 2 ^ 8)
extended Lh unit = with_sign 16 (unit % 2 ^ 16)
extended Lw unit = unit
extended Lbu unit = unit
extended Lhu unit = unit

-- the unit of a word at a byte's offset, low byte first
abbrev pub unit_of : (size offset word : ℕ) → ℕ
unit_of size offset word = word / 2 ^ (8 * offset) % 2 ^ (8 * size)

-- the word with another unit there; it keeps its 32 bits
abbrev pub with_unit : (size offset word unit : ℕ) → ℕ
with_unit size offset word unit =
    (word % 2 ^ (8 * offset) + unit % 2 ^ (8 * size) * 2 ^ (8 * offset) + word / 2 ^ (8 * (offset + size)) * 2 ^ (8 * (offset + size))) % 2 ^ 32
