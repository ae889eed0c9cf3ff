use Rattle.std.proofs.Common.{◌≡◌, length, map}
use Rattle.al_meaning.specs.Here.{with_work}
use Rattle.al_control.specs.Models.{here_of, work_of}
use Rattle.al_walk_places.proofs.targets.with_works.Given as goal

abbrev pub invariant-loop-work : goal.invariant-loop-work
invariant-loop-work l = with_work (map work_of l.fn.works) (here_of l.fn.h) ≡ with_work (map work_of l.rest) (here_of l.h)

abbrev pub decreases-loop-work : goal.decreases-loop-work
decreases-loop-work l = length l.rest
