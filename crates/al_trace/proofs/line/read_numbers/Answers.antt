use Rattle.std.proofs.Common.{◌∙◌, Some, ap}
use Rattle.std.specs.Prelude.{decimal, Option}
use Rattle.al_event.specs.declared.entry.Entry.{Entry}
use Rattle.al_trace.proofs.Digits.{line_parts, proc_has_no, pick_has_no, worker_has_no, behind_proc, behind_pick, same_entry}
use Rattle.al_trace.proofs.line.read_numbers.Goals as goal

pub returns-in_err-proc-clause-only : goal.returns-in_err-proc-clause-only
returns-in_err-proc-clause-only c = λ e is eq. absurd (c.in_err-proc.ensures (decimal e.proc) (behind_proc e) (proc_has_no e is) (eq ∙ line_parts e))

pub returns-in_err-pick-clause-only : goal.returns-in_err-pick-clause-only
returns-in_err-pick-clause-only c = λ e is eq.
    let first = c.in_ok-proc.ensures (decimal e.proc) (behind_proc e) (proc_has_no e is) (eq ∙ line_parts e) in
    absurd (c.in_err-pick.ensures (decimal e.pick) (behind_pick e) (pick_has_no e is) first.1)

pub returns-in_err-worker-clause-only : goal.returns-in_err-worker-clause-only
returns-in_err-worker-clause-only c = λ e is eq.
    let first = c.in_ok-proc.ensures (decimal e.proc) (behind_proc e) (proc_has_no e is) (eq ∙ line_parts e) in
    let second = c.in_ok-pick.ensures (decimal e.pick) (behind_pick e) (pick_has_no e is) first.1 in
    absurd (c.in_err-worker.ensures (decimal e.worker) _ (worker_has_no e is) second.1)

pub returns-in_err-number_of-clause-only : goal.returns-in_err-number_of-clause-only
returns-in_err-number_of-clause-only c = λ e is eq.
    let first = c.in_ok-proc.ensures (decimal e.proc) (behind_proc e) (proc_has_no e is) (eq ∙ line_parts e) in
    absurd (let found = c.in_err-number_of.ensures.only e.proc is.proc first.0 in cc)

pub returns-in_err-number_of-2-clause-only : goal.returns-in_err-number_of-2-clause-only
returns-in_err-number_of-2-clause-only c = λ e is eq.
    let first = c.in_ok-proc.ensures (decimal e.proc) (behind_proc e) (proc_has_no e is) (eq ∙ line_parts e) in
    let second = c.in_ok-pick.ensures (decimal e.pick) (behind_pick e) (pick_has_no e is) first.1 in
    absurd (let found = c.in_err-number_of-2.ensures.only e.pick is.pick second.0 in cc)

pub returns-in_err-number_of-3-clause-only : goal.returns-in_err-number_of-3-clause-only
returns-in_err-number_of-3-clause-only c = λ e is eq.
    let first = c.in_ok-proc.ensures (decimal e.proc) (behind_proc e) (proc_has_no e is) (eq ∙ line_parts e) in
    let second = c.in_ok-pick.ensures (decimal e.pick) (behind_pick e) (pick_has_no e is) first.1 in
    let third = c.in_ok-worker.ensures (decimal e.worker) _ (worker_has_no e is) second.1 in
    absurd (let found = c.in_err-number_of-3.ensures.only e.worker is.worker third.0 in cc)

pub returns-clause-only : goal.returns-clause-only
returns-clause-only c = λ e is eq.
    let first = c.in_ok-proc.ensures (decimal e.proc) (behind_proc e) (proc_has_no e is) (eq ∙ line_parts e) in
    let second = c.in_ok-pick.ensures (decimal e.pick) (behind_pick e) (pick_has_no e is) first.1 in
    let third = c.in_ok-worker.ensures (decimal e.worker) _ (worker_has_no e is) second.1 in
    ap (λ (x : Entry). let o : Option Entry = Some x in o)
    (same_entry e c.in_ok-number_of.field-0 c.in_ok-number_of-2.field-0 c.in_ok-number_of-3.field-0
    (c.in_ok-number_of.ensures.only e.proc is.proc first.0) (c.in_ok-number_of-2.ensures.only e.pick is.pick second.0) (c.in_ok-number_of-3.ensures.only e.worker is.worker third.0))
