-- Forms of types, and the kinds of arithmetic.
use Rattle.std.specs.Prelude.{ℕ, nat_lt, Bool, true, false, if◌then◌else◌, Option, Some, None, is_some}
use Rattle.al_base.specs.declared.arith.Kind.{Kind}
use Rattle.al_base.specs.declared.arith.Kind.TheVariants as kind
use Rattle.al_typed.specs.declared.ty.Ty.{Ty, out-Ty}
use Rattle.al_typed.specs.declared.ty.Ty.TheOpen.{Ty-F}
use Rattle.al_typed.specs.Types.{promoted}

abbrev pub kind_at : Ty-F Ty → Option Kind
kind_at (Ty-F.Integer k) = Some k
kind_at _ = None

-- the kind of an integer type
unfoldable pub kind_of : Ty → Option Kind
kind_of t = kind_at (out-Ty t)

abbrev pub is_integer : Ty → Bool
is_integer t = is_some (kind_of t)

abbrev pub element_at : Ty-F Ty → Option Ty
element_at (Ty-F.Chan element capacity) = Some element
element_at _ = None

-- the element of a channel type
unfoldable pub element_of : Ty → Option Ty
element_of t = element_at (out-Ty t)

abbrev pub is_channel : Ty → Bool
is_channel t = is_some (element_of t)

abbrev pub items_at : Ty-F Ty → Option Ty
items_at (Ty-F.Array element count) = Some element
items_at _ = None

-- the element of an array type
unfoldable pub items_of : Ty → Option Ty
items_of t = items_at (out-Ty t)

abbrev pub is_function_at : Ty-F Ty → Bool
is_function_at (Ty-F.Function returns parameters) = true
is_function_at _ = false

unfoldable pub is_function : Ty → Bool
is_function t = is_function_at (out-Ty t)

-- wider kinds stand higher, and of equal widths the unsigned one
abbrev pub rank : Kind → ℕ
rank kind.Byte = 0
rank kind.Sint = 0
rank kind.Usint = 0
rank kind.Int = 0
rank kind.Uint = 1
rank kind.Lint = 2
rank kind.Ulint = 3

-- the kind of arithmetic on two integers: the wider one's, and of equal widths the unsigned one
abbrev pub common : Kind → Kind → Kind
common a b = if nat_lt (rank a) (rank b) then promoted b else promoted a
