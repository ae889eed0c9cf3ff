use Rattle.std.proofs.Common.{◌≡◌, length, map}
use Rattle.al_meaning.specs.Here.{with_work}
use Rattle.al_meaning.specs.Items.{Aim}
use Rattle.al_control.specs.Models.{here_of}
use Rattle.al_walk_places.proofs.targets.with_parts.Given as goal

abbrev pub invariant-loop-part : goal.invariant-loop-part
invariant-loop-part l = with_work (map Aim l.parts) (here_of l.fn.h) ≡ with_work (map Aim l.rest) (here_of l.h)

abbrev pub decreases-loop-part : goal.decreases-loop-part
decreases-loop-part l = length l.rest
