-- What a verb that shows a number or a character does with the arguments of a print.
use Rattle.std.specs.Prelude.{ℕ, List, [], ◌∷◌, ⊤}
use Rattle.al_typed.specs.declared.expression.PrintPiece.{PrintPiece}
use Rattle.al_typed.specs.declared.expression.PrintPiece.TheVariants.{Byte, Percent, Text, Signed, Unsigned, Hexadecimal, Character}
use Rattle.al_meaning.specs.Evaluate.{composes}
use Rattle.al_meaning.specs.Here.{Here, Next, lost}
use Rattle.al_meaning.specs.Items.{Argument}
use Rattle.al_meaning.specs.Shown.{written}

-- such a verb
abbrev pub IsShown : PrintPiece → Type 0
IsShown (Byte b) = ⊥
IsShown Percent = ⊥
IsShown Text = ⊥
IsShown Signed = ⊤
IsShown Unsigned = ⊤
IsShown Hexadecimal = ⊤
IsShown Character = ⊤

abbrev pub shows : Here → PrintPiece → List PrintPiece → List Argument → List ℕ → Next
shows h verb pieces [] text = lost h
shows h verb pieces (a ∷ arguments) text = composes h pieces arguments text (written verb a.ty a.words)
