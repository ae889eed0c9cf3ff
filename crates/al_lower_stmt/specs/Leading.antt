-- Where jumps lead, as the code has it.
use Rattle.std.specs.Prelude.{ℕ, List, [], map, Option, None, slice_index_or, unwrap_or}
use Rattle.al_typed.specs.declared.statement.TStmt.{TStmt}
use Rattle.al_lower_code.specs.Homes as homes
use Rattle.al_lower_code.specs.Statements as statements
use Rattle.al_lower_code.specs.Statements.{place_of}
use Rattle.al_lower_stmt.specs.declared.jumps.Again.{Again}
use Rattle.al_lower_stmt.specs.declared.jumps.Again.TheVariants.{Turned, Onward}
use Rattle.al_lower_stmt.specs.declared.jumps.Leading.{Leading}

-- the place of a label or rescue in a table by their numbers; it has none behind the last
abbrev pub noted : List (Option ℕ) → (number : ℕ) → Option ℕ
noted places l = slice_index_or places l None

abbrev pub again_of : Again → statements.Again
again_of (Turned line place) = statements.Turned line place
again_of (Onward place) = statements.Onward place

-- what has no place has 0
abbrev pub targets_by : List (Option ℕ) → List ℕ → List Again → statements.Targets
targets_by labels behind again = record { label = λ l. unwrap_or (noted labels l) 0; behind = behind; again = map again_of again }

abbrev pub targets_in : Leading → statements.Targets
targets_in c = targets_by c.labels.now c.behind.now c.again.now

-- in the body of a function, whose first operation is the one of number pc
abbrev pub body_targets : homes.Spot → TStmt → (pc : ℕ) → statements.Targets
body_targets s body pc = record { label = λ l. unwrap_or (place_of s l body pc) 0; behind = []; again = [] }
