-- What instructions compute of words are words.
use Rattle.std.proofs.Common.{ℕ, suc, ◌+◌, ◌-◌, ◌/◌, ◌%◌, ◌^◌, ◌<◌, ◌≤◌, ◌==◌, nat_lt, Bool, true, false, if◌then◌else◌, arith, lit<, lit≤, ℤ, pos, negsuc, ◌*ℤ◌}
use Rattle.std.specs.Prelude.{int_div, int_rem, unsigned_abs}
use Rattle.std.proofs.Math.Nat.{mod-lt, mod-le, div-le_self}
use Rattle.std.proofs.lemmas.Nat.{and_le_l, or_of_32, xor_of_32, mul-le}
use Rattle.std.proofs.lemmas.Int.{ints, unsigned_abs-mul}
use Rattle.rv_isa.specs.declared.instr.ImmediateOp.{ImmediateOp}
use Rattle.rv_isa.specs.declared.instr.ImmediateOp.TheVariants.{Addi, Slti, Sltiu, Xori, Ori, Andi}
use Rattle.rv_isa.specs.declared.instr.ShiftOp.{ShiftOp}
use Rattle.rv_isa.specs.declared.instr.ShiftOp.TheVariants.{Slli, Srli, Srai}
use Rattle.rv_isa.specs.declared.instr.RegisterOp.{RegisterOp}
use Rattle.rv_isa.specs.declared.instr.RegisterOp.TheVariants.{Add, Sub, Sll, Slt, Sltu, Xor, Srl, Sra, Or, And, Mul, Mulh, Mulhsu, Mulhu, Div, Divu, Rem, Remu}
use Rattle.rv_isa.specs.declared.instr.LoadOp.{LoadOp}
use Rattle.rv_isa.specs.declared.instr.LoadOp.TheVariants.{Lb, Lh, Lw, Lbu, Lhu}
use Rattle.rv_exec.specs.Words.{signed, word, flag, computed, computed_immediate, shifted, high_half, extended, with_sign}

pub mod32 : (n : ℕ) → n % 2 ^ 32 < 2 ^ 32
mod32 n = mod-lt n (lit< tt)

flag_below : (b : Bool) → flag b < 2 ^ 32
flag_below true = lit< tt
flag_below false = lit< tt

signed_size : (x : ℕ) → x < 2 ^ 32 → unsigned_abs (signed x) ≤ 2 ^ 31
signed_size x h = omega (arith, ints)

word_below : (z : ℤ) → unsigned_abs z < 2 ^ 32 → word z < 2 ^ 32
word_below (pos n) h = h
word_below (negsuc n) h = omega arith

abs_div : (x y : ℤ) → unsigned_abs (int_div x y) ≤ unsigned_abs x
abs_div (pos a) (pos b) = div-le_self a b
abs_div (pos a) (negsuc b) = omega (arith, ints, div-le_self a (suc b))
abs_div (negsuc a) (pos b) = omega (arith, ints, div-le_self (suc a) b)
abs_div (negsuc a) (negsuc b) = div-le_self (suc a) (suc b)

abs_rem : (x y : ℤ) → unsigned_abs (int_rem x y) ≤ unsigned_abs x
abs_rem (pos a) y = mod-le a (unsigned_abs y)
abs_rem (negsuc a) y = omega (arith, ints, mod-le (suc a) (unsigned_abs y))

high_below : (z : ℤ) → unsigned_abs z < 2 ^ 64 → high_half z < 2 ^ 32
high_below (pos n) h = omega arith
high_below (negsuc n) h = omega arith

product_size : (x y : ℤ) → unsigned_abs x ≤ 2 ^ 31 → unsigned_abs y ≤ 2 ^ 32 → unsigned_abs (x *ℤ y) < 2 ^ 64
product_size x y a b = omega (arith, unsigned_abs-mul x y, mul-le (unsigned_abs x) (unsigned_abs y) (2 ^ 31) (2 ^ 32) a b)

module _ (x y : ℕ) (a : x < 2 ^ 32) (b : y < 2 ^ 32) where
  quotient_signed_below : (t : Bool) → (if t then 2 ^ 32 - 1 else word (int_div (signed x) (signed y))) < 2 ^ 32
  quotient_signed_below true = lit< tt
  quotient_signed_below false = word_below (int_div (signed x) (signed y)) (omega (arith, abs_div (signed x) (signed y), signed_size x a))

  quotient_below : (t : Bool) → (if t then 2 ^ 32 - 1 else x / y) < 2 ^ 32
  quotient_below true = lit< tt
  quotient_below false = omega (arith, div-le_self x y)

  remainder_signed_below : (t : Bool) → (if t then x else word (int_rem (signed x) (signed y))) < 2 ^ 32
  remainder_signed_below true = a
  remainder_signed_below false = word_below (int_rem (signed x) (signed y)) (omega (arith, abs_rem (signed x) (signed y), signed_size x a))

  remainder_below : (t : Bool) → (if t then x else x % y) < 2 ^ 32
  remainder_below true = a
  remainder_below false = omega (arith, mod-le x y)

  pub computed_below : (op : RegisterOp) → computed op x y < 2 ^ 32
  computed_below Add = mod32 _
  computed_below Sub = mod32 _
  computed_below Sll = mod32 _
  computed_below Slt = flag_below _
  computed_below Sltu = flag_below _
  computed_below Xor = xor_of_32 x y a b
  computed_below Srl = omega (arith, div-le_self x (2 ^ (y % 32)))
  computed_below Sra = mod32 _
  computed_below Or = or_of_32 x y a b
  computed_below And = omega (arith, and_le_l x y)
  computed_below Mul = mod32 _
  computed_below Mulh = high_below (signed x *ℤ signed y) (product_size (signed x) (signed y) (signed_size x a) (omega (arith, signed_size y b)))
  computed_below Mulhsu = high_below (signed x *ℤ pos y) (product_size (signed x) (pos y) (signed_size x a) (omega arith))
  computed_below Mulhu = omega (arith, mul-le x y (2 ^ 32 - 1) (2 ^ 32 - 1) (omega arith) (omega arith))
  computed_below Div = quotient_signed_below (y == 0)
  computed_below Divu = quotient_below (y == 0)
  computed_below Rem = remainder_signed_below (y == 0)
  computed_below Remu = remainder_below (y == 0)

  pub immediate_below : (op : ImmediateOp) → computed_immediate op x y < 2 ^ 32
  immediate_below Addi = mod32 _
  immediate_below Slti = flag_below _
  immediate_below Sltiu = flag_below _
  immediate_below Xori = xor_of_32 x y a b
  immediate_below Ori = or_of_32 x y a b
  immediate_below Andi = omega (arith, and_le_l x y)

pub shifted_below : (op : ShiftOp) (x n : ℕ) → x < 2 ^ 32 → shifted op x n < 2 ^ 32
shifted_below Slli x n a = mod32 _
shifted_below Srli x n a = omega (arith, div-le_self x (2 ^ (n % 32)))
shifted_below Srai x n a = mod32 _

with_sign_below : (bits n : ℕ) → n < 2 ^ bits → 2 ^ bits ≤ 2 ^ 32 → with_sign bits n < 2 ^ 32
with_sign_below bits n h k = on (nat_lt n (2 ^ (bits - 1))) where
  on : (t : Bool) → (if t then n else n + (2 ^ 32 - 2 ^ bits)) < 2 ^ 32
  on true = omega arith
  on false = omega arith

pub extended_below : (op : LoadOp) (unit : ℕ) → unit < 2 ^ 32 → extended op unit < 2 ^ 32
extended_below Lb unit h = with_sign_below 8 (unit % 2 ^ 8) (mod-lt unit (lit< tt)) (lit≤ tt)
extended_below Lh unit h = with_sign_below 16 (unit % 2 ^ 16) (mod-lt unit (lit< tt)) (lit≤ tt)
extended_below Lw unit h = h
extended_below Lbu unit h = h
extended_below Lhu unit h = h
