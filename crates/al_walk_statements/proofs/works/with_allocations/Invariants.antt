use Rattle.std.proofs.Common.{◌≡◌, length}
use Rattle.std.specs.List.{flat_map}
use Rattle.al_meaning.specs.Execute.{allocation_work}
use Rattle.al_meaning.specs.Here.{with_work}
use Rattle.al_control.specs.Models.{here_of}
use Rattle.al_walk_statements.proofs.works.with_allocations.Given as goal

abbrev pub invariant-loop-place : goal.invariant-loop-place
invariant-loop-place l = with_work (flat_map allocation_work l.places) (here_of l.fn.h) ≡ with_work (flat_map allocation_work l.rest) (here_of l.h)

abbrev pub decreases-loop-place : goal.decreases-loop-place
decreases-loop-place l = length l.rest
