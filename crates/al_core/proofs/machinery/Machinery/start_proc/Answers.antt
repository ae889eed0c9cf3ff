use Rattle.std.proofs.Common.{◌<◌, ◌+◌, ◌^◌, length, None, Err, sym, ap, refl, subst, arith}
use Rattle.task_book.specs.Table.{Table}
use Rattle.task_book.specs.Starting.{StartsProc}
use Rattle.al_core.proofs.Requiring.{own_takes, room_left, only_tasks, procs_count}
use Rattle.al_core.proofs.Outcomes.{proc_done}
use Rattle.al_core.proofs.machinery.Machinery.start_proc.Goals as goal

pub answer-requires : goal.answer-requires
answer-requires c = own_takes (rw (← c.self.view_is) at c.requires.posed.1.posed) _ tt refl

pub start_proc-requires-clause-few : goal.start_proc-requires-clause-few
start_proc-requires-clause-few c =
    let P = rw (← c.self.view_is) at c.requires.posed.1.posed in
    let n = procs_count P in
    let f = P.few_procs in
    subst (λ (t : Table). length t.procs + 1 < 2 ^ 32) (sym c.answer.ensures.table) (omega (arith, n, f))

pub returns : goal.returns
returns c = λ image start. rw (← c.self.view_is) (λ P is. proc_done P c.answer.new.self _ c.args.begun (rw (← c.self.view_is) at c.requires.room) c.answer.ensures is (subst (λ k. StartsProc None c.args.begun.hart c.args.begun.privates k c.answer.new.self c.start_proc.new.self) c.in-Ok.ensures.number c.in-Ok.ensures.started))

pub unreachable-requires : goal.unreachable-requires
unreachable-requires c = room_left (rw (← c.self.view_is) at c.requires.posed.1.posed) _ _ c.answer.ensures (rw (← c.self.view_is) at c.requires.room) (c.in-Err.ensures.full.0 (ap Err (only_tasks c.in-Err.field-0)))
