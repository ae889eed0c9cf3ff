-- Bodies as lists of statements.
use Rattle.std.specs.Prelude.{if◌then◌else◌, Bool, true, false, List, [], ◌∷◌}
use Rattle.std.specs.List.{flat_map}
use Rattle.al_typed.specs.declared.statement.TStmt.{TStmt, Case, Default, AltCase}
use Rattle.al_meaning.specs.Items.{Item}
use Rattle.al_meaning.specs.Parts.{to_do}

-- the label of a case
abbrev pub is_label : TStmt → Bool
is_label (Case _ _) = true
is_label Default = true
is_label (AltCase _) = true
is_label _ = false

-- a statement of a body; the label of a case is none
abbrev pub statement_in : TStmt → List Item
statement_in s = if is_label s then [] else to_do s ∷ []

abbrev pub statements_in : List TStmt → List Item
statements_in body = flat_map statement_in body
