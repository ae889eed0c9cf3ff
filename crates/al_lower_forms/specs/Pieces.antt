-- Pieces of a format, and types of integers.
use Rattle.std.specs.Prelude.{ℕ, Bool, List, [], true, false, Option, Some, None}
use Rattle.al_typed.specs.declared.ty.Ty.{Ty, Integer}
use Rattle.al_typed.specs.declared.expression.PrintPiece.{PrintPiece}
use Rattle.al_typed.specs.declared.expression.PrintPiece.TheVariants as print
use Rattle.al_meaning.specs.Shown.{kind_of}
use Rattle.al_ir.specs.declared.ir.Operation.{Operation}
use Rattle.al_ir.specs.declared.op.Op.TheVariants.{PutCharacter, PutText}
use Rattle.al_lower_code.specs.Homes.{Spot, here}
use Rattle.al_lower_code.specs.Actions.{put_decimal, put_hex}

-- one that takes an argument, which is of a type and stands from `at` on
abbrev pub argument_code : Spot → PrintPiece → Ty → (at : ℕ) → List Operation
argument_code s print.Text t at = here s (PutText at)
argument_code s print.Signed t at = put_decimal s true (kind_of t) at
argument_code s print.Unsigned t at = put_decimal s false (kind_of t) at
argument_code s print.Hexadecimal t at = put_hex s (kind_of t) at
argument_code s print.Character t at = here s (PutCharacter at)
argument_code s print.Percent t at = []
argument_code s (print.Byte b) t at = []

-- the byte that a piece is which takes none
abbrev pub byte_of : PrintPiece → Option ℕ
byte_of (print.Byte b) = Some b
byte_of print.Percent = Some 37
byte_of print.Text = None
byte_of print.Signed = None
byte_of print.Unsigned = None
byte_of print.Hexadecimal = None
byte_of print.Character = None

abbrev pub is_integer : Ty → Bool
is_integer (Integer k) = true
is_integer _ = false
