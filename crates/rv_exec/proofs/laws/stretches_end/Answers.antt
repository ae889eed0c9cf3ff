use Rattle.rv_exec.proofs.Ending.{never_comes_to_bound}
use Rattle.rv_exec.proofs.laws.stretches_end.Goals as goal

pub returns : goal.returns
returns c = never_comes_to_bound
