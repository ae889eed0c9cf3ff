-- Cases of switches and alts in lists of statements.
use Rattle.std.specs.Prelude.{◌≡◌, ℕ, ◌+◌, ◌==◌, if◌then◌else◌, Bool, true, false, List, [], ◌∷◌, ◌++◌, Option, Some, None, drop, slice_get, slice_index_or}
use Rattle.std.specs.List.{flat_map}
use Rattle.al_typed.specs.declared.statement.TCommunication.{TCommunication}
use Rattle.al_typed.specs.declared.statement.TStmt.{TStmt, AltCase, Case, Default}
use Rattle.al_meaning.specs.Parts.{Branching, first_of_two}
use Rattle.al_walk_loops.specs.BodyParts.{statements_in}

-- ---- cases of switches

-- the label of the case with these bits
abbrev pub has_bits : ℕ → TStmt → Bool
has_bits bits (Case _ label) = label == bits
has_bits bits _ = false

abbrev pub is_default : TStmt → Bool
is_default Default = true
is_default _ = false

-- what stands behind the first label of this kind
abbrev pub behind : (TStmt → Bool) → List TStmt → Option (List TStmt)
behind test [] = None
behind test (s ∷ rest) = if test s then Some rest else behind test rest

-- what is done of the body of a switch for a value with these bits
abbrev pub chosen : ℕ → List TStmt → Option (List TStmt)
chosen bits body = first_of_two (behind (has_bits bits) body) (behind is_default body)

-- ---- cases of alts

-- the communication of a case
abbrev pub communication_of : TStmt → List TCommunication
communication_of (AltCase c) = c ∷ []
communication_of _ = []

abbrev pub communications_in : List TStmt → List TCommunication
communications_in body = flat_map communication_of body

-- a case with the statements behind it
abbrev pub branching_of : TStmt → List TStmt → List Branching
branching_of (AltCase c) rest = record { communication = c; body = statements_in rest } ∷ []
branching_of _ rest = []

abbrev pub branchings_in : List TStmt → List Branching
branchings_in [] = []
branchings_in (s ∷ rest) = branching_of s rest ++ branchings_in rest

-- at this place stands the case of that number
abbrev pub IsPlaceOf : List TStmt → (number place : ℕ) → Type 0
IsPlaceOf cases number k =
    (s : TStmt) → s ≡ slice_index_or cases k s → slice_get (branchings_in cases) number ≡ slice_get (branching_of s (drop (k + 1) cases)) 0
