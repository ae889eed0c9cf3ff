use Rattle.std.proofs.Common.{◌≡◌, length, map}
use Rattle.al_meaning.specs.Parts.{behind_bodies}
use Rattle.al_control.specs.Models.{item_of}
use Rattle.al_walk_jumps.proofs.leads.behind_bodies.Given as goal

abbrev pub invariant-loop-left : goal.invariant-loop-left
invariant-loop-left l = behind_bodies l.left (map item_of l.items) ≡ behind_bodies l.levels (map item_of l.fn.items)

abbrev pub decreases-loop-left : goal.decreases-loop-left
decreases-loop-left l = length l.items
