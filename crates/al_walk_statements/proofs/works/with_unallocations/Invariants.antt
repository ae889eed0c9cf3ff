use Rattle.std.proofs.Common.{◌≡◌, length}
use Rattle.std.specs.List.{flat_map}
use Rattle.al_meaning.specs.Execute.{unallocation_work}
use Rattle.al_meaning.specs.Here.{with_work}
use Rattle.al_control.specs.Models.{here_of}
use Rattle.al_walk_statements.proofs.works.with_unallocations.Given as goal

abbrev pub invariant-loop-e : goal.invariant-loop-e
invariant-loop-e l = with_work (flat_map unallocation_work l.values) (here_of l.fn.h) ≡ with_work (flat_map unallocation_work l.rest) (here_of l.h)

abbrev pub decreases-loop-e : goal.decreases-loop-e
decreases-loop-e l = length l.rest
