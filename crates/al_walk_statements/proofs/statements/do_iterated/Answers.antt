use Rattle.std.proofs.Common.{[], ◌∷◌, length}
use Rattle.al_meaning.specs.Calls.{evaluated}
use Rattle.al_meaning.specs.Execute.{bounds_exprs}
use Rattle.al_meaning.specs.Items.{Bound}
use Rattle.al_walk_loops.proofs.Goings.{goes_both}
use Rattle.al_walk_statements.proofs.statements.do_iterated.Goals as goal

pub returns : goal.returns
returns c =
    goes_both c.moves.result (evaluated (bounds_exprs c.args.iterators.now)) (Bound (length c.args.iterators.now) c.args.value.now ∷ [])
    c.args.h c.in_ok-h.h c.in_ok-with_bounds.field-0 c.in_ok-h.ensures c.in_ok-with_bounds.ensures c.moves.ensures
