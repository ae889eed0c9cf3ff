use Rattle.al_sound_flow.proofs.FlowIs.{bodies_have_targets}
use Rattle.al_sound_flow.proofs.laws.bodies_have_targets.Goals as goal

pub returns : goal.returns
returns c = bodies_have_targets
