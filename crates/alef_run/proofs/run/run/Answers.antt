use Rattle.std.proofs.Common.{refl}
use Rattle.alef_texts.proofs.Reports.{no_image}
use Rattle.alef_run.proofs.Runs.{run_lacks, run_ends}
use Rattle.alef_run.proofs.run.run.Goals as goal

pub returns-in-Err-clause-end : goal.returns-in-Err-clause-end
returns-in-Err-clause-end g c =
    let done = c.nothing.ensures in
    run_lacks c.args.job.now _ c.as_str.result.now _ _ c.as_str.ensures done.end c.in-Err.ensures.none
    (record { schedule = done.schedule; work = done.work; image = no_image _ done.image; got = refl; calm = refl })

pub returns-clause-end : goal.returns-clause-end
returns-clause-end g c =
    let compiled = c.in-Ok.ensures.image in
    run_ends c.args.job.now _ compiled.0 c.in-Ok.image c.as_str.result.now _ c.as_str.ensures compiled.1
    (c.run_image.ensures.end (g.H.Host.content c.args.host.now) (g.H.Host.content c.load_program.new.host) (g.H.Host.faults c.args.host.now) (g.H.Host.faults c.load_program.new.host))
