use Rattle.std.proofs.Common.{Some, refl, sym, ap, ◌∙◌, subst, inl}
use Rattle.alef_texts.specs.Call.{Call, call_by}
use Rattle.alef_texts.proofs.Reports.{no_image}
use Rattle.alef_run.specs.ReplayMode.{EndsAlong}
use Rattle.al_core.specs.History.{History}
use Rattle.alef_run.proofs.Execs.{line_told}
use Rattle.alef_run.proofs.Replays.{image_went}
use Rattle.alef_run.proofs.image.replay_image.Goals as goal

pub returns-in-Err-clause-end : goal.returns-in-Err-clause-end
returns-in-Err-clause-end g c = λ told told_after faults faults_after.
    let done = c.nothing.ensures in
    inl (done.end, record { schedule = done.schedule; work = done.work; image = no_image _ done.image; got = refl; calm = refl })

pub returns-clause-end : goal.returns-clause-end
returns-clause-end g c = λ told told_after faults faults_after.
    let done = c.report_of.ensures in
    let ran = c.go_along-world.ensures in
    let call : Call =
    call_by told told_after faults faults_after (g.K.Sink.got c.args.out.now) (g.K.Sink.got c.go_along-world.new.out)
    (g.K.Sink.faults c.args.out.now) (g.K.Sink.faults c.go_along-world.new.out) c.report_of.result.0 in
    subst (EndsAlong c.args.job.now c.args.image c.args.schedule.now call) (sym done.end)
    (image_went c.args.job.now c.args.image c.args.schedule.now call c.go_along-world.result.1 c.in-Ok.world c.go_along-world.result.0 c.in-Ok.ensures
    ran.image ran.region ran.legal ran.went done.schedule done.work done.image)

pub returns-clause-line : goal.returns-clause-line
returns-clause-line g c = λ told told_after faults faults_after.
    let done = c.report_of.ensures in
    let ran = c.go_along-world.ensures in
    let image_is = ran.image ∙ ap (λ (h : History). h.image) c.in-Ok.ensures in
    let call : Call =
    call_by told told_after faults faults_after (g.K.Sink.got c.args.out.now) (g.K.Sink.got c.go_along-world.new.out)
    (g.K.Sink.faults c.args.out.now) (g.K.Sink.faults c.go_along-world.new.out) c.report_of.result.0 in
    line_told c.args.job.now c.args.image call c.report_of.result.0.end c.go_along-world.result.0 done.schedule image_is (ran.region ∙ ap (λ (h : History). h.region) c.in-Ok.ensures)
    c.report_of.result.1 _ done.line (done.image ∙ ap Some image_is)
