use Rattle.rv_long.proofs.Listing.{once_more, not_yet}
use Rattle.rv_long.proofs.routines.add_division.Goals as goal

pub loop-init : goal.loop-init
loop-init c = not_yet _ _

pub loop-preserved : goal.loop-preserved
loop-preserved c = once_more _ _ _ _ _ c.loop.invariant c.in_ok-add-2.ensures
