use Rattle.store_lock.proofs.Crossing.{crossing}
use Rattle.lock_trial.proofs.tests.run.Goals as goal

pub for_each_mut-requires-send-T : goal.for_each_mut-requires-send-T
for_each_mut-requires-send-T g c κs within = search crossing depth 40
