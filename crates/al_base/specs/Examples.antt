-- Arithmetic on numbers that are written out.
use Rattle.std.specs.Prelude.{◌≡◌, ◌-◌, ◌^◌, Some, None, refl}
use Rattle.al_base.specs.Arith.{applied, integer_of, wrapped, width_of}
use Rattle.al_base.specs.declared.arith.Op.TheVariants.{Add, Div, Rem, Shr, Lt}
use Rattle.al_base.specs.declared.arith.Kind.TheVariants.{Byte, Sint, Int, Uint, Lint}

-- 2147483647 + 1 wraps to -2147483648
greatest_and_one : applied Add Int 2147483647 1 ≡ Some 2147483648
greatest_and_one = refl

-- 7 / 2 is 3, and -7 / 2 is -3
towards_zero : applied Div Int (2 ^ 32 - 7) 2 ≡ Some (2 ^ 32 - 3)
towards_zero = refl

-- -7 % 2 is -1
sign_of_the_left : applied Rem Int (2 ^ 32 - 7) 2 ≡ Some (2 ^ 32 - 1)
sign_of_the_left = refl

-- only the bits of the kind count: 256 is 0 in a byte
no_divisor : applied Div Byte 5 256 ≡ None
no_divisor = refl

-- a count of 33 is one of 1 in 32 bits, and -4 >> 1 is -2
count_and_sign : applied Shr Int (2 ^ 32 - 4) 33 ≡ Some (2 ^ 32 - 2)
count_and_sign = refl

-- -1 is below 0 as an int and above it as a uint
signed_order : applied Lt Int (2 ^ 32 - 1) 0 ≡ Some 1
signed_order = refl

unsigned_order : applied Lt Uint (2 ^ 32 - 1) 0 ≡ Some 0
unsigned_order = refl

-- a sint of -2 is a lint of -2
widened : wrapped (width_of Lint) (integer_of Sint 65534) ≡ 2 ^ 64 - 2
widened = refl
