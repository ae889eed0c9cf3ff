use Rattle.store_lock.proofs.Crossing.{crossing}
use Rattle.store_lock.proofs.sends.send_pass.Goals as goal

pub sent-requires-send-T : goal.sent-requires-send-T
sent-requires-send-T c κs = search crossing depth 20
