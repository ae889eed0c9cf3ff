use Rattle.al_sample.specs.Sample.{worker_line}
use Rattle.al_sample.proofs.Joined.{one_more}
use Rattle.al_sample.proofs.push_workers.Goals as goal

pub loop-p-preserved : goal.loop-p-preserved
loop-p-preserved c =
    one_more (worker_line c.args.calls) _ _ _ _ c.loop-p.invariant c.in_ok-push_worker.ensures
