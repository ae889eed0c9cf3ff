use Rattle.std.proofs.Common.{refl, ◌∙◌}
use Rattle.alef_texts.proofs.Reports.{no_image}
use Rattle.alef_texts.proofs.Checks.{unread, was_checked}
use Rattle.alef_texts.proofs.checking.check.Goals as goal

pub returns-in-Err-clause-end : goal.returns-in-Err-clause-end
returns-in-Err-clause-end g c = λ got faults.
    let done = c.nothing.ensures in
    unread c.args.file.now _
    (record { schedule = done.schedule; work = done.work; image = no_image _ done.image; got = refl; calm = refl })
    _ _ done.end c.in-Err.ensures.none

pub returns-clause-end : goal.returns-clause-end
returns-clause-end g c = λ got faults.
    let done = c.nothing-2.ensures in
    was_checked c.args.file.now _
    (record { schedule = done.schedule; work = done.work; image = no_image _ done.image; got = refl; calm = refl })
    c.in-Ok.ensures.read c.as_slice.result.now (λ text is. c.as_slice.ensures.value ∙ c.in-Ok.ensures.text text is) _ _ done.end c.checked-end.ensures
