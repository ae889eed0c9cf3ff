use Rattle.std.proofs.Common.{refl, sym, subst, inl}
use Rattle.alef_texts.specs.Call.{Call, call_by}
use Rattle.alef_run.specs.ExecMode.{EndsImage}
use Rattle.alef_run.proofs.Execs.{image_ran}
use Rattle.alef_texts.proofs.Reports.{no_image}
use Rattle.alef_run.proofs.image.run_image.Goals as goal

pub returns-in-Err-clause-end : goal.returns-in-Err-clause-end
returns-in-Err-clause-end g c = λ told told_after faults faults_after.
    let done = c.nothing.ensures in
    inl (done.end, record { schedule = done.schedule; work = done.work; image = no_image _ done.image; got = refl; calm = refl })

pub returns-clause-end : goal.returns-clause-end
returns-clause-end g c = λ told told_after faults faults_after.
    let done = c.report_of.ensures in
    let ran = c.run_world-world.ensures in
    let call : Call =
    call_by told told_after faults faults_after (g.K.Sink.got c.args.out.now) (g.K.Sink.got c.run_world-world.new.out)
    (g.K.Sink.faults c.args.out.now) (g.K.Sink.faults c.run_world-world.new.out) c.report_of.result.0 in
    subst (EndsImage c.args.job.now c.args.image call) (sym done.end)
    (image_ran c.args.job.now c.args.image call c.run_world-world.result.1 c.in-Ok.world c.run_world-world.result.0 c.in-Ok.ensures
    ran.image ran.region ran.legal ran.ran done.schedule done.work done.image)
