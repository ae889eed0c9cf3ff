use Rattle.std.proofs.Common.{ℕ, ◌∙◌, subst, inl}
use Rattle.al_host.specs.Outside.{Faulted}
use Rattle.alef_texts.specs.declared.report.ScheduleFault.TheVariants as bad
use Rattle.alef_texts.proofs.Schedules.{schedule_read, badly_read}
use Rattle.alef_texts.proofs.load.load_schedule.Goals as goal

pub returns-in-Ok-read-clause-read : goal.returns-in-Ok-read-clause-read
returns-in-Ok-read-clause-read g c =
    schedule_read _ _ _ _ _ _ _ c.in-Ok.ensures.found c.in-Ok.ensures.count.ok c.in-Ok-read.ensures.faults c.in-Ok-read.entries c.in-Ok-read.ensures.exact c.in-Ok-read.ensures.only c.in-Ok-read.ensures.end

pub returns-in-Err-ReadFault-clause-none : goal.returns-in-Err-ReadFault-clause-none
returns-in-Err-ReadFault-clause-none g c =
    let fault = rw c.in-Err-ReadFault.field-0-is at c.in-Err-ReadFault.ensures.faults in
    let P : ℕ → Type 0 = λ n. Faulted n (g.H.Host.faults c.read.new.host) in
    inl (subst P c.in-Ok.ensures.count.ok fault.1)

pub returns-in-Err-BadLine-clause-none : goal.returns-in-Err-BadLine-clause-none
returns-in-Err-BadLine-clause-none g c =
    badly_read _ _ _ _ _ _ _ c.in-Ok.ensures.found c.in-Ok.ensures.count.ok (rw c.in-Err-BadLine.field-0-is at c.in-Err-BadLine.ensures.faults)
    (bad.Line c.in-Err-BadLine.line) (rw c.in-Err-BadLine.field-0-is at c.in-Err-BadLine.ensures.exact)

pub returns-in-Err-TooLong-clause-none : goal.returns-in-Err-TooLong-clause-none
returns-in-Err-TooLong-clause-none g c =
    badly_read _ _ _ _ _ _ _ c.in-Ok.ensures.found c.in-Ok.ensures.count.ok (rw c.in-Err-TooLong.field-0-is at c.in-Err-TooLong.ensures.faults)
    bad.TooLong (rw c.in-Err-TooLong.field-0-is at c.in-Err-TooLong.ensures.exact)

pub returns-in-Err-NoMemory-clause-none : goal.returns-in-Err-NoMemory-clause-none
returns-in-Err-NoMemory-clause-none g c = (rw c.in-Err-NoMemory.field-0-is at c.in-Err-NoMemory.ensures.faults) ∙ c.in-Ok.ensures.count.ok
