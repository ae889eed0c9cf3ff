use Rattle.store_lock.proofs.Crossing.{crossing}
use Rattle.al_workers.proofs.several_workers.run.Goals as goal

pub for_each_mut-requires-send-T : goal.for_each_mut-requires-send-T
for_each_mut-requires-send-T g c κs within = search crossing depth 40
