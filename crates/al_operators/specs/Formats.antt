-- The format of a print: its bytes and verbs.
use Rattle.std.specs.Prelude.{ℕ, ◌==◌, if◌then◌else◌, List, [], ◌∷◌, Option, Some, None, option_map, option_and_then}
use Rattle.al_typed.specs.declared.expression.PrintPiece.{PrintPiece}
use Rattle.al_typed.specs.declared.expression.PrintPiece.TheVariants as print

-- what a byte behind `%` means: `d`, `u`, `x`, `c`, `s` or `%`
abbrev pub verb : ℕ → Option PrintPiece
verb b =
    if b == 100 then Some print.Signed else if b == 117 then Some print.Unsigned else if b == 120 then Some print.Hexadecimal
    else if b == 99 then Some print.Character else if b == 115 then Some print.Text else if b == 37 then Some print.Percent else None

-- with that piece before it
abbrev pub led : PrintPiece → Option (List PrintPiece) → Option (List PrintPiece)
led p None = None
led p (Some ps) = Some (p ∷ ps)

abbrev pub led_by : Option PrintPiece → Option (List PrintPiece) → Option (List PrintPiece)
led_by None rest = None
led_by (Some p) rest = led p rest

-- the pieces of a format, where each `%` is followed by a verb
unfoldable mutual
  pub pieces : List ℕ → Option (List PrintPiece)
  pieces [] = Some []
  pieces (b ∷ rest) = if b == 37 then pieces_behind rest else led (print.Byte b) (pieces rest)

  -- behind a `%`
  pub pieces_behind : List ℕ → Option (List PrintPiece)
  pieces_behind [] = None
  pieces_behind (b ∷ rest) = led_by (verb b) (pieces rest)
