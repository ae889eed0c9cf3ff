use Rattle.al_world.proofs.Handing.{is_equal_at_both_ends}
use Rattle.al_world.proofs.laws.transfers_are_equal_at_both_ends.Goals as goal

pub returns : goal.returns
returns c = is_equal_at_both_ends
