use Rattle.alef_run.proofs.AsRecorded.{as_recorded}
use Rattle.alef_run.proofs.law.replays_are_as_recorded.Goals as goal

pub returns : goal.returns
returns c = λ p job again recorded replayed over end region meant. as_recorded p job again recorded replayed over region meant end
