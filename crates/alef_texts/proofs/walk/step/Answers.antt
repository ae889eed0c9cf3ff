use Rattle.std.proofs.Common.{◌≡◌, ℕ, List, refl, sym, ◌∙◌, subst}
use Rattle.alef_texts.specs.Call.{call_by}
use Rattle.alef_texts.specs.StepMode.{EndsStep, IsFound}
use Rattle.alef_texts.specs.declared.report.Report.{Report}
use Rattle.alef_texts.proofs.Reports.{no_image}
use Rattle.alef_texts.proofs.Stepping.{found_has_room, no_bytes, text_found}
use Rattle.alef_texts.proofs.walk.step.Goals as goal

pub returns-in-Err-clause-end : goal.returns-in-Err-clause-end
returns-in-Err-clause-end g c =
    let done = c.nothing.ensures in
    no_bytes c.args.job.now _ c.as_str.result.now _ _ c.as_str.ensures done.end c.in-Err.ensures.none
    (record { schedule = done.schedule; work = done.work; image = no_image _ done.image; got = refl; calm = refl })

pub returns-clause-end : goal.returns-clause-end
returns-clause-end g c =
    let name : c.as_str.result.now ≡ c.args.job.now.file = c.as_str.ensures in
    let F : List ℕ → Type 0 = λ file. IsFound file c.front-found.result (g.H.Host.content c.args.host.now) (g.H.Host.content c.load_text.new.host) (g.H.Host.faults c.args.host.now) (g.H.Host.faults c.load_text.new.host) in
    let found : F c.args.job.now.file =
    subst F name
    (text_found c.as_str.result.now (g.H.Host.content c.args.host.now) (g.H.Host.content c.load_text.new.host) (g.H.Host.faults c.args.host.now) (g.H.Host.faults c.load_text.new.host)
    c.in-Ok.ensures.read c.as_slice.result.now (λ text is. c.as_slice.ensures.value ∙ c.in-Ok.ensures.text text is)
    c.front-found.result c.in-Ok.ensures.same c.front-found.ensures.program c.front-found.ensures.refused) in
    let R : Report → Type 0 = λ report.
    EndsStep c.args.job.now
    (call_by (g.H.Host.content c.args.host.now) (g.H.Host.content c.step_found-report.new.host) (g.H.Host.faults c.args.host.now) (g.H.Host.faults c.step_found-report.new.host)
    (g.K.Sink.got c.args.out.now) (g.K.Sink.got c.step_found-report.new.out) (g.K.Sink.faults c.args.out.now) (g.K.Sink.faults c.step_found-report.new.out) report) report.end in
    subst R (sym c.kept.ensures) (c.step_found-report.ensures.end (g.H.Host.content c.args.host.now) (g.H.Host.faults c.args.host.now) found)

pub step_found-report-requires-clause-room : goal.step_found-report-requires-clause-room
step_found-report-requires-clause-room g c = found_has_room c.as_slice.result.now c.front-found.result c.front-found.ensures.program
