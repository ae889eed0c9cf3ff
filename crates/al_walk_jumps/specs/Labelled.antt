-- Where labels stand in lists of statements, and what goes on from them.
use Rattle.std.specs.Prelude.{ℕ, ◌==◌, if◌then◌else◌, Bool, false, List, [], ◌∷◌, ◌++◌, Option, Some, None}
use Rattle.al_typed.specs.declared.statement.TStmt.{TStmt}
use Rattle.al_meaning.specs.Items.{Item}
use Rattle.al_meaning.specs.Parts.{first_of_two, going_on, to_do}
use Rattle.al_walk_loops.specs.BodyParts.{statements_in}
use Rattle.al_walk_jumps.specs.Holds.{holds}

-- whether the label or rescue of that number stands in the other statement of an if
abbrev pub other_holds : ℕ → Option TStmt → Bool
other_holds n None = false
other_holds n (Some s) = holds n s

-- the items that go on from there, where it stands in one of these statements that others follow
abbrev pub going_on_in : ℕ → List TStmt → List Item → Option (List Item)
going_on_in n [] rest = None
going_on_in n (s ∷ more) rest = first_of_two (going_on n s (statements_in more ++ rest)) (going_on_in n more rest)

-- those that go on in the other statement of an if
abbrev pub going_on_other : ℕ → Option TStmt → List Item → Option (List Item)
going_on_other n None rest = None
going_on_other n (Some s) rest = going_on n s rest

-- those that go on from a statement, where this is the label, else in the one behind it
abbrev pub labelled : (n label : ℕ) → (there body : TStmt) → List Item → Option (List Item)
labelled n label there body rest = if label == n then Some (to_do there ∷ rest) else going_on n body rest
