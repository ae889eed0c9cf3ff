use Rattle.std.proofs.Common.{Option, subst, sym, ◌∙◌}
use Rattle.al_words.specs.declared.job.Job.{Job}
use Rattle.al_words.specs.Job.{IsReadOf}
use Rattle.al_words.proofs.Reading.{simple, free, job_found, no_job}
use Rattle.al_words.proofs.read.read_job.Goals as goal

pub returns-in-Ok : goal.returns-in-Ok
returns-in-Ok c =
    let is = c.in_ok-line.ensures in
    let found = job_found _ _ _ is (c.in-Ok.ensures.kinds (free _ is)) (c.in-Ok.ensures.matches (simple _ is)).0 in
    subst (λ (o : Option Job). IsReadOf o c.job_given_by.result) (sym found) c.job_given_by.ensures

pub returns : goal.returns
returns c =
    let is = c.in_ok-line.ensures in
    no_job _ _ c.in-Err.error is (c.in-Err.ensures.kinds (free _ is)) (λ e. c.in_default.not-OutOfMemory (c.kind.ensures ∙ e))
