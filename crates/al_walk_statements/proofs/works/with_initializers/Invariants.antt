use Rattle.std.proofs.Common.{◌≡◌, length}
use Rattle.std.specs.List.{flat_map}
use Rattle.al_meaning.specs.Execute.{initializer_work}
use Rattle.al_meaning.specs.Here.{with_work}
use Rattle.al_control.specs.Models.{here_of}
use Rattle.al_walk_statements.proofs.works.with_initializers.Given as goal

abbrev pub invariant-loop-initializer : goal.invariant-loop-initializer
invariant-loop-initializer l = with_work (flat_map initializer_work l.initializers) (here_of l.fn.h) ≡ with_work (flat_map initializer_work l.rest) (here_of l.h)

abbrev pub decreases-loop-initializer : goal.decreases-loop-initializer
decreases-loop-initializer l = length l.rest
