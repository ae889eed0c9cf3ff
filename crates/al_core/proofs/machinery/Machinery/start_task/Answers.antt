use Rattle.std.proofs.Common.{◌≡◌, ◌<◌, Err, sym, ap, refl, subst}
use Rattle.task_book.specs.Table.{Table, live_of, home_of}
use Rattle.task_book.specs.Starting.{StartsTask}
use Rattle.al_core.proofs.Requiring.{own_takes, room_left, only_tasks}
use Rattle.al_core.proofs.Outcomes.{task_done}
use Rattle.al_core.proofs.machinery.Machinery.start_task.Goals as goal

pub answer-requires : goal.answer-requires
answer-requires c = own_takes (rw (← c.self.view_is) at c.requires.posed.1.posed) _ tt refl

pub start_task-requires : goal.start_task-requires
start_task-requires c =
    let P = rw (← c.self.view_is) at c.requires.posed.1.posed in
    let h : home_of c.self.inside.tasks c.args.slot ≡ c.args.proc = rw (← c.self.view_is) at c.requires.home in
    subst (λ (t : Table). 0 < live_of t c.args.proc) (sym c.answer.ensures.table) (subst (λ p. 0 < live_of c.self.inside.tasks p) h P.alive)

pub returns : goal.returns
returns c =
    λ image start. rw (← c.self.view_is) (λ P is. let h : home_of c.self.inside.tasks c.args.slot ≡ c.args.proc = rw (← c.self.view_is) at c.requires.home in task_done P c.answer.new.self _ c.in-Ok.field-0 c.args.hart (rw (← c.self.view_is) at c.requires.room) c.answer.ensures is (subst (λ p. StartsTask p c.args.hart c.in-Ok.field-0 c.answer.new.self c.start_task.new.self) (sym h) c.in-Ok.ensures.started))

pub unreachable-requires : goal.unreachable-requires
unreachable-requires c = room_left (rw (← c.self.view_is) at c.requires.posed.1.posed) _ _ c.answer.ensures (rw (← c.self.view_is) at c.requires.room) (c.in-Err.ensures.full.0 (ap Err (only_tasks c.in-Err.field-0)))
