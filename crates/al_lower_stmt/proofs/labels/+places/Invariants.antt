use Rattle.std.proofs.Common.{◌≡◌, ℕ, ◌+◌, ◌*◌, max, drop}
use Rattle.al_typed.specs.declared.statement.TStmt.{size-TStmt}
use Rattle.al_meaning.specs.Parts.{first_of_two}
use Rattle.al_lower_base.specs.Spots.{spot_of}
use Rattle.al_lower_stmt.specs.Bodies.{place_from}
use Rattle.al_lower_stmt.specs.Leading.{noted}
use Rattle.al_lower_stmt.proofs.labels.+places.Given as goal

abbrev pub invariant-note_all-loop-a : goal.invariant-note_all-loop-a
invariant-note_all-loop-a l =
    (k : ℕ)
    → first_of_two (noted l.places k) (place_from (spot_of l.s) k (drop l.a-index l.body) l.at)
    ≡ first_of_two (noted l.fn.places k) (place_from (spot_of l.s) k l.body l.pc)

abbrev pub decreases-note_places : goal.decreases-note_places
decreases-note_places l = 8 * size-TStmt l.a.now

abbrev pub decreases-note_part : goal.decreases-note_part
decreases-note_part l = 8 * size-TStmt l.a.now + 1

abbrev pub decreases-note_behind : goal.decreases-note_behind
decreases-note_behind l = 8 * size-TStmt l.a.now + 2

abbrev pub decreases-note_other : goal.decreases-note_other
decreases-note_other l = 8 * goal.size-note_other l + 3

abbrev pub decreases-note_all : goal.decreases-note_all
decreases-note_all l = 8 * goal.size-note_all l + 1

abbrev pub decreases-note_items : goal.decreases-note_items
decreases-note_items l = 8 * goal.size-note_items l + 2

abbrev pub decreases-note_label : goal.decreases-note_label
decreases-note_label l = 8 * size-TStmt l.body.now + 2

abbrev pub decreases-note_if : goal.decreases-note_if
decreases-note_if l = 8 * max (goal.size-note_if l) (size-TStmt l.chosen.now) + 4

abbrev pub decreases-note_while : goal.decreases-note_while
decreases-note_while l = 8 * size-TStmt l.body.now + 2

abbrev pub decreases-note_for : goal.decreases-note_for
decreases-note_for l = 8 * size-TStmt l.body.now + 2

abbrev pub decreases-note_rescue : goal.decreases-note_rescue
decreases-note_rescue l = 8 * size-TStmt l.body.now + 3

abbrev pub decreases-note_switch : goal.decreases-note_switch
decreases-note_switch l = 8 * goal.size-note_switch l + 3

abbrev pub decreases-note_alt : goal.decreases-note_alt
decreases-note_alt l = 8 * goal.size-note_alt l + 3
