-- Arithmetic that wraps, on the bits of a kind of integers.
use Rattle.std.specs.Prelude.{ℕ, ℤ, pos, ◌+ℤ◌, ◌-ℤ◌, ◌*ℤ◌, ◌-◌, ◌%◌, ◌^◌, Bool, true, false, ◌&&◌, not, ◌==◌, nat_le, if◌then◌else◌, Option, Some, None, bit_and, bit_or, bit_xor, int_div, int_rem, int_lt, int_le, unsigned_abs}
use Rattle.std.specs.Int.{int_rem_euclid, int_shr}
use Rattle.al_base.specs.declared.arith.Op.{Op}
use Rattle.al_base.specs.declared.arith.Op.TheVariants.{Add, Sub, Mul, Div, Rem, And, Or, Xor, Shl, Shr, Lt, Le, Eq, Ne}
use Rattle.al_base.specs.declared.arith.Kind.{Kind}
use Rattle.al_base.specs.declared.arith.Kind.TheVariants.{Byte, Sint, Usint, Int, Uint, Lint, Ulint}

-- how many bits a kind has
abbrev pub width_of : Kind → ℕ
width_of Byte = 8
width_of Sint = 16
width_of Usint = 16
width_of Int = 32
width_of Uint = 32
width_of Lint = 64
width_of Ulint = 64

-- whether a kind has numbers below 0
abbrev pub is_signed : Kind → Bool
is_signed Byte = false
is_signed Sint = true
is_signed Usint = false
is_signed Int = true
is_signed Uint = false
is_signed Lint = true
is_signed Ulint = false

-- the bits of a number in a width
abbrev pub bits_in : ℕ → ℕ → ℕ
bits_in width n = n % 2 ^ width

-- the integer that the bits stand for: with a sign, those from half of the numbers on stand for what is
-- 2^width below them
abbrev pub value_of : Bool → ℕ → ℕ → ℤ
value_of signed width n =
    if signed && nat_le (2 ^ (width - 1)) (bits_in width n) then pos (bits_in width n) -ℤ pos (2 ^ width) else pos (bits_in width n)

-- the bits of an integer: the number from 0 to 2^width - 1 that differs from it by a multiple of 2^width
abbrev pub wrapped : ℕ → ℤ → ℕ
wrapped width z = unsigned_abs (int_rem_euclid z (pos (2 ^ width)))

-- the integer that bits stand for in a kind
abbrev pub integer_of : Kind → ℕ → ℤ
integer_of kind n = value_of (is_signed kind) (width_of kind) n

-- 1 where a test holds, 0 where it doesn't
abbrev pub one_where : Bool → ℤ
one_where true = pos 1
one_where false = pos 0

-- whether an operation divides
abbrev pub divides : Op → Bool
divides Div = true
divides Rem = true
divides Add = false
divides Sub = false
divides Mul = false
divides And = false
divides Or = false
divides Xor = false
divides Shl = false
divides Shr = false
divides Lt = false
divides Le = false
divides Eq = false
divides Ne = false

-- what an operation gives in the integers, before it wraps: x and y are the operands, m and n their bits
abbrev pub exact : Op → ℕ → ℤ → ℤ → ℕ → ℕ → ℤ
exact Add width x y m n = x +ℤ y
exact Sub width x y m n = x -ℤ y
exact Mul width x y m n = x *ℤ y
exact Div width x y m n = int_div x y
exact Rem width x y m n = int_rem x y
exact And width x y m n = pos (bit_and m n)
exact Or width x y m n = pos (bit_or m n)
exact Xor width x y m n = pos (bit_xor m n)
exact Shl width x y m n = x *ℤ pos (2 ^ (n % width))
exact Shr width x y m n = int_shr x (n % width)
exact Lt width x y m n = one_where (int_lt x y)
exact Le width x y m n = one_where (int_le x y)
exact Eq width x y m n = one_where (m == n)
exact Ne width x y m n = one_where (not (m == n))

-- that, on the bits of a kind
abbrev pub exact_of : Op → Kind → ℕ → ℕ → ℤ
exact_of op kind a b =
    exact op (width_of kind) (integer_of kind a) (integer_of kind b) (bits_in (width_of kind) a) (bits_in (width_of kind) b)

-- an operation on bits of a kind: the exact result wraps, and nothing is divided by 0
abbrev pub applied : Op → Kind → ℕ → ℕ → Option ℕ
applied op kind a b =
    if divides op && (bits_in (width_of kind) b == 0) then None else Some (wrapped (width_of kind) (exact_of op kind a b))
