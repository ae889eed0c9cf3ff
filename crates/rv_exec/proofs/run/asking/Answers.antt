use Rattle.rv_exec.proofs.Answering.{ready_counted}
use Rattle.rv_exec.proofs.run.asking.Goals as goal

pub returns-clause-takes : goal.returns-clause-takes
returns-clause-takes c = (ready_counted c.args.state c.args.act 0 0 c.requires).goes_on
