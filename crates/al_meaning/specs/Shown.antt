-- What print puts out.
use Rattle.std.specs.Prelude.{ℕ, ◌%◌, true, false, List, [], ◌∷◌, decimal}
use Rattle.std.specs.Fmt.{digits, signed_decimal}
use Rattle.al_base.specs.Arith.{width_of, value_of}
use Rattle.al_base.specs.declared.arith.Kind.{Kind}
use Rattle.al_base.specs.declared.arith.Kind.TheVariants as kind
use Rattle.al_typed.specs.declared.ty.Ty.{Ty, out-Ty}
use Rattle.al_typed.specs.declared.ty.Ty.TheOpen.{Ty-F}
use Rattle.al_typed.specs.declared.expression.PrintPiece.{PrintPiece}
use Rattle.al_typed.specs.declared.expression.PrintPiece.TheVariants as print
use Rattle.al_meaning.specs.Words.{bits_of}

-- the most bytes that one print puts out
abbrev pub most_text : ℕ
most_text = 1024

abbrev pub kind_at : Ty-F Ty → Kind
kind_at (Ty-F.Integer k) = k
kind_at _ = kind.Uint

-- the kind of an integer; a pointer or channel is as a uint
unfoldable pub kind_of : Ty → Kind
kind_of t = kind_at (out-Ty t)

-- what a verb but `%s` writes of an argument of a type, whose kind is promoted
abbrev pub written : PrintPiece → Ty → List ℕ → List ℕ
written print.Signed t ws = signed_decimal (value_of true (width_of (kind_of t)) (bits_of ws))
written print.Unsigned t ws = decimal (bits_of ws)
written print.Hexadecimal t ws = digits 16 false (bits_of ws)
written print.Character t ws = bits_of ws % 256 ∷ []
written _ t ws = []
