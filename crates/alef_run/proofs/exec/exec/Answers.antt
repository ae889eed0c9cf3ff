use Rattle.alef_run.proofs.Execs.{exec_end}
use Rattle.alef_run.proofs.exec.exec.Goals as goal

pub returns-clause-end : goal.returns-clause-end
returns-clause-end g c =
    exec_end c.args.job.now c.in-Ok.image _ c.as_str.result.now _ c.as_str.ensures c.in-Ok.ensures.read c.in-Ok.ensures.image
    (c.run_image.ensures.end (g.H.Host.content c.args.host.now) (g.H.Host.content c.load_image.new.host) (g.H.Host.faults c.args.host.now) (g.H.Host.faults c.load_image.new.host))
