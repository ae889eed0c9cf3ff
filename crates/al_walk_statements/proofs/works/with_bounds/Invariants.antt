use Rattle.std.proofs.Common.{◌≡◌, length}
use Rattle.al_meaning.specs.Calls.{evaluated}
use Rattle.al_meaning.specs.Execute.{bounds_exprs}
use Rattle.al_meaning.specs.Here.{with_work}
use Rattle.al_control.specs.Models.{here_of}
use Rattle.al_walk_statements.proofs.works.with_bounds.Given as goal

abbrev pub invariant-loop-bounds : goal.invariant-loop-bounds
invariant-loop-bounds l = with_work (evaluated (bounds_exprs l.iterators)) (here_of l.fn.h) ≡ with_work (evaluated (bounds_exprs l.rest)) (here_of l.h)

abbrev pub decreases-loop-bounds : goal.decreases-loop-bounds
decreases-loop-bounds l = length l.rest
