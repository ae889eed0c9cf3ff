use Rattle.std.proofs.Common.{◌≡◌, List, length, take, refl, sym, ap, ◌∙◌, arith}
use Rattle.al_event.specs.declared.entry.Entry.{Entry}
use Rattle.alef_texts.specs.StepMode.{made_of}
use Rattle.alef_texts.proofs.Reports.{no_image}
use Rattle.alef_texts.proofs.Stepping.{no_schedule, was_shown}
use Rattle.alef_texts.proofs.walk.step_along.Goals as goal

pub returns-in-Err-clause-end : goal.returns-in-Err-clause-end
returns-in-Err-clause-end g c = λ told faults read.
    let done = c.nothing.ensures in
    no_schedule c.args.job.now _ c.args.program.now c.args.job.now.file c.as_str.result.now _ _ refl c.as_str.ensures read
    _ _ done.end c.in-Err.ensures.none
    (record { schedule = done.schedule; work = done.work; image = no_image _ done.image; got = refl; calm = refl })

pub returns-clause-end : goal.returns-clause-end
returns-clause-end g c = λ told faults read.
    let done = c.report_of.ensures in
    let value : c.as_slice.result.now ≡ c.truncate.new.self = c.as_slice.ensures.value in
    let size = c.len.ensures in
    let few = c.if-len-job.false in
    was_shown c.args.job.now _ c.args.program.now c.args.job.now.file c.as_str.result.now _ _ refl c.as_str.ensures read
    _ c.in-Ok.ensures.read (omega (arith, size, few)) c.as_slice.result.now (value ∙ c.truncate.ensures ∙ ap (take c.args.job.now.number) c.from_vec-entries.ensures)
    (record { work = done.work; image = no_image _ done.image })
    _ c.show-end.result c.region_of.result done.end c.region_of.ensures.bytes
    (done.schedule ∙ ap (λ (l : List Entry). take (made_of c.show-end.result (length l)) l) (sym value))
    c.show-end.ensures
