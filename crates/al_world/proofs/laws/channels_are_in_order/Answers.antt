use Rattle.al_world.proofs.Queues.{is_in_order}
use Rattle.al_world.proofs.laws.channels_are_in_order.Goals as goal

pub returns : goal.returns
returns g c = is_in_order _
