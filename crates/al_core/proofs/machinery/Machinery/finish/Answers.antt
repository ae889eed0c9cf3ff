use Rattle.std.proofs.Common.{length, None, refl, sym, ap, subst, ◌∙◌}
use Rattle.al_event.specs.declared.act.Act.TheVariants.{Talk, Task, Proc, Par, End}
use Rattle.al_world.specs.Procs.{is_full}
use Rattle.task_book.specs.Table.{Table, home_of}
use Rattle.al_core.specs.Acting.{IsDone}
use Rattle.al_core.specs.Preparing.{Finishes}
use Rattle.al_core.proofs.Finishes.{answer_ready, finish_answer, finish_stop, same_parts, move, move_posed, goes_usable, waits_usable}
use Rattle.al_core.proofs.Parting.{same_count}
use Rattle.al_core.proofs.machinery.Machinery.finish.Goals as goal

pub answer-requires : goal.answer-requires
answer-requires c = answer_ready c.requires.left.posed c.args.pick c.args.self.now c.requires.left.table c.in-Answer.word (subst (λ w. Finishes c.requires.left.image c.args.slot c.args.act c.requires.left.before c.requires.left.posed c.args.pick w c.args.self.now) c.in-Answer.is c.requires.left.left)

pub returns-in-Answer : goal.returns-in-Answer
returns-in-Answer c =
    λ image m P e f. subst (λ a. IsDone image c.args.slot c.args.act m P c.args.pick None a) (sym c.answer.ensures.rest) (finish_answer P c.args.pick c.args.self.now e c.in-Answer.word c.answer.new.self.table (subst (λ w. Finishes image c.args.slot c.args.act m P c.args.pick w c.args.self.now) c.in-Answer.is f) c.answer.ensures.takes)

pub returns-in-Stop : goal.returns-in-Stop
returns-in-Stop c = λ image m P e f. finish_stop P c.args.pick c.args.self.now e c.in-Stop.stop (subst (λ w. Finishes image c.args.slot c.args.act m P c.args.pick w c.args.self.now) c.in-Stop.is f)

pub go-requires-clause-posed : goal.go-requires-clause-posed
go-requires-clause-posed c = record { image = c.requires.left.image; posed = move_posed c.requires.left.image c.args.slot c.requires.left.before c.args.self.now c.args.act (Talk c.in-Talk.branches) (same_parts c.requires.left.before c.args.self.now (subst (λ w. Finishes c.requires.left.image c.args.slot c.args.act c.requires.left.before c.requires.left.posed c.args.pick w c.args.self.now) c.in-Goes.is c.requires.left.left).0 c.requires.left.table) c.in-Talk.is c.requires.left.posed }

pub go-requires-clause-usable : goal.go-requires-clause-usable
go-requires-clause-usable c = (goes_usable c.requires.left.before c.args.self.now c.args.pick c.args.act c.in-Talk.branches (same_parts c.requires.left.before c.args.self.now (subst (λ w. Finishes c.requires.left.image c.args.slot c.args.act c.requires.left.before c.requires.left.posed c.args.pick w c.args.self.now) c.in-Goes.is c.requires.left.left).0 c.requires.left.table) c.in-Talk.is (subst (λ w. Finishes c.requires.left.image c.args.slot c.args.act c.requires.left.before c.requires.left.posed c.args.pick w c.args.self.now) c.in-Goes.is c.requires.left.left).1).0

pub go-requires-clause-pick : goal.go-requires-clause-pick
go-requires-clause-pick c = (goes_usable c.requires.left.before c.args.self.now c.args.pick c.args.act c.in-Talk.branches (same_parts c.requires.left.before c.args.self.now (subst (λ w. Finishes c.requires.left.image c.args.slot c.args.act c.requires.left.before c.requires.left.posed c.args.pick w c.args.self.now) c.in-Goes.is c.requires.left.left).0 c.requires.left.table) c.in-Talk.is (subst (λ w. Finishes c.requires.left.image c.args.slot c.args.act c.requires.left.before c.requires.left.posed c.args.pick w c.args.self.now) c.in-Goes.is c.requires.left.left).1).1

pub returns-in-Talk : goal.returns-in-Talk
returns-in-Talk c =
    λ image m P e f. let g = (subst (λ w. Finishes image c.args.slot c.args.act m P c.args.pick w c.args.self.now) c.in-Goes.is f) in move image c.args.slot m c.args.self.now c.args.act (Talk c.in-Talk.branches) c.args.pick c.args.pick _ (same_parts m c.args.self.now g.0 e) c.in-Talk.is refl (c.go.ensures image) P

pub wait-requires-clause-posed : goal.wait-requires-clause-posed
wait-requires-clause-posed c = record { image = c.requires.left.image; posed = move_posed c.requires.left.image c.args.slot c.requires.left.before c.args.self.now c.args.act (Talk c.in-Talk-act.branches) (same_parts c.requires.left.before c.args.self.now (subst (λ w. Finishes c.requires.left.image c.args.slot c.args.act c.requires.left.before c.requires.left.posed c.args.pick w c.args.self.now) c.in-Waits.is c.requires.left.left).0 c.requires.left.table) c.in-Talk-act.is c.requires.left.posed }

pub wait-requires-clause-usable : goal.wait-requires-clause-usable
wait-requires-clause-usable c = (waits_usable c.requires.left.before c.args.self.now c.args.act c.in-Talk-act.branches (same_parts c.requires.left.before c.args.self.now (subst (λ w. Finishes c.requires.left.image c.args.slot c.args.act c.requires.left.before c.requires.left.posed c.args.pick w c.args.self.now) c.in-Waits.is c.requires.left.left).0 c.requires.left.table) c.in-Talk-act.is (subst (λ w. Finishes c.requires.left.image c.args.slot c.args.act c.requires.left.before c.requires.left.posed c.args.pick w c.args.self.now) c.in-Waits.is c.requires.left.left).2).0

pub wait-requires-clause-none : goal.wait-requires-clause-none
wait-requires-clause-none c = (waits_usable c.requires.left.before c.args.self.now c.args.act c.in-Talk-act.branches (same_parts c.requires.left.before c.args.self.now (subst (λ w. Finishes c.requires.left.image c.args.slot c.args.act c.requires.left.before c.requires.left.posed c.args.pick w c.args.self.now) c.in-Waits.is c.requires.left.left).0 c.requires.left.table) c.in-Talk-act.is (subst (λ w. Finishes c.requires.left.image c.args.slot c.args.act c.requires.left.before c.requires.left.posed c.args.pick w c.args.self.now) c.in-Waits.is c.requires.left.left).2).1

pub returns-in-Talk-act : goal.returns-in-Talk-act
returns-in-Talk-act c =
    λ image m P e f. let g = (subst (λ w. Finishes image c.args.slot c.args.act m P c.args.pick w c.args.self.now) c.in-Waits.is f) in move image c.args.slot m c.args.self.now c.args.act (Talk c.in-Talk-act.branches) c.args.pick 0 _ (same_parts m c.args.self.now g.0 e) c.in-Talk-act.is g.1 (c.wait.ensures image) P

pub start_task-requires-clause-posed : goal.start_task-requires-clause-posed
start_task-requires-clause-posed c = let g = (subst (λ w. Finishes c.requires.left.image c.args.slot c.args.act c.requires.left.before c.requires.left.posed c.args.pick w c.args.self.now) c.in-Task.is c.requires.left.left) in (g.2.start, record { image = c.requires.left.image; posed = move_posed c.requires.left.image c.args.slot c.requires.left.before c.args.self.now c.args.act (Task g.2.start) (same_parts c.requires.left.before c.args.self.now (subst (λ w. Finishes c.requires.left.image c.args.slot c.args.act c.requires.left.before c.requires.left.posed c.args.pick w c.args.self.now) c.in-Task.is c.requires.left.left).0 c.requires.left.table) g.2.is c.requires.left.posed })

pub start_task-requires-clause-room : goal.start_task-requires-clause-room
start_task-requires-clause-room c = ap (λ (t : Table). is_full t.procs 1) c.requires.left.table ∙ (subst (λ w. Finishes c.requires.left.image c.args.slot c.args.act c.requires.left.before c.requires.left.posed c.args.pick w c.args.self.now) c.in-Task.is c.requires.left.left).2.room

pub returns-in-Task : goal.returns-in-Task
returns-in-Task c =
    λ image m P e f. let g = (subst (λ w. Finishes image c.args.slot c.args.act m P c.args.pick w c.args.self.now) c.in-Task.is f) in move image c.args.slot m c.args.self.now c.args.act (Task g.2.start) c.args.pick 0 _ (same_parts m c.args.self.now g.0 e) g.2.is g.1 (λ Q. c.start_task.ensures image g.2.start Q g.2.started) P

pub start_proc-requires-clause-posed : goal.start_proc-requires-clause-posed
start_proc-requires-clause-posed c = let g = (subst (λ w. Finishes c.requires.left.image c.args.slot c.args.act c.requires.left.before c.requires.left.posed c.args.pick w c.args.self.now) c.in-Proc.is c.requires.left.left) in (g.2.start, record { image = c.requires.left.image; posed = move_posed c.requires.left.image c.args.slot c.requires.left.before c.args.self.now c.args.act (Proc g.2.start) (same_parts c.requires.left.before c.args.self.now (subst (λ w. Finishes c.requires.left.image c.args.slot c.args.act c.requires.left.before c.requires.left.posed c.args.pick w c.args.self.now) c.in-Proc.is c.requires.left.left).0 c.requires.left.table) g.2.is c.requires.left.posed })

pub start_proc-requires-clause-room : goal.start_proc-requires-clause-room
start_proc-requires-clause-room c = ap (λ (t : Table). is_full t.procs 1) c.requires.left.table ∙ (subst (λ w. Finishes c.requires.left.image c.args.slot c.args.act c.requires.left.before c.requires.left.posed c.args.pick w c.args.self.now) c.in-Proc.is c.requires.left.left).2.room

pub returns-in-Proc : goal.returns-in-Proc
returns-in-Proc c =
    λ image m P e f. let g = (subst (λ w. Finishes image c.args.slot c.args.act m P c.args.pick w c.args.self.now) c.in-Proc.is f) in move image c.args.slot m c.args.self.now c.args.act (Proc g.2.start) c.args.pick 0 _ (same_parts m c.args.self.now g.0 e) g.2.is g.1 (λ Q. c.start_proc.ensures image g.2.start Q g.2.begins) P

pub start_task-requires-clause-home : goal.start_task-requires-clause-home
start_task-requires-clause-home c = ap (λ (t : Table). home_of t c.args.slot) c.requires.left.table ∙ c.requires.left.home

pub start_par-requires-clause-posed : goal.start_par-requires-clause-posed
start_par-requires-clause-posed c = let g = (subst (λ w. Finishes c.requires.left.image c.args.slot c.args.act c.requires.left.before c.requires.left.posed c.args.pick w c.args.self.now) c.in-Par.is c.requires.left.left) in (g.2.starts, record { image = c.requires.left.image; posed = move_posed c.requires.left.image c.args.slot c.requires.left.before c.args.self.now c.args.act (Par g.2.starts) (same_parts c.requires.left.before c.args.self.now (subst (λ w. Finishes c.requires.left.image c.args.slot c.args.act c.requires.left.before c.requires.left.posed c.args.pick w c.args.self.now) c.in-Par.is c.requires.left.left).0 c.requires.left.table) g.2.is c.requires.left.posed }, same_count c.requires.left.image g.2.starts c.in-Par.all.items g.2.begin)

pub start_par-requires-clause-room : goal.start_par-requires-clause-room
start_par-requires-clause-room c = let g = (subst (λ w. Finishes c.requires.left.image c.args.slot c.args.act c.requires.left.before c.requires.left.posed c.args.pick w c.args.self.now) c.in-Par.is c.requires.left.left) in ap (λ (t : Table). is_full t.procs (length c.in-Par.all.items)) c.requires.left.table ∙ sym (ap (is_full c.requires.left.before.table.procs) (same_count c.requires.left.image g.2.starts c.in-Par.all.items g.2.begin)) ∙ g.2.room

pub returns-in-Par : goal.returns-in-Par
returns-in-Par c =
    λ image m P e f. let g = (subst (λ w. Finishes image c.args.slot c.args.act m P c.args.pick w c.args.self.now) c.in-Par.is f) in move image c.args.slot m c.args.self.now c.args.act (Par g.2.starts) c.args.pick 0 _ (same_parts m c.args.self.now g.0 e) g.2.is g.1 (λ Q. c.start_par.ensures image g.2.starts Q g.2.begin) P

pub finish_task-requires : goal.finish_task-requires
finish_task-requires c = let g = (subst (λ w. Finishes c.requires.left.image c.args.slot c.args.act c.requires.left.before c.requires.left.posed c.args.pick w c.args.self.now) c.in-End.is c.requires.left.left) in record { image = c.requires.left.image; posed = move_posed c.requires.left.image c.args.slot c.requires.left.before c.args.self.now c.args.act (End) (same_parts c.requires.left.before c.args.self.now (subst (λ w. Finishes c.requires.left.image c.args.slot c.args.act c.requires.left.before c.requires.left.posed c.args.pick w c.args.self.now) c.in-End.is c.requires.left.left).0 c.requires.left.table) g.2 c.requires.left.posed }

pub returns-in-End : goal.returns-in-End
returns-in-End c =
    λ image m P e f. let g = (subst (λ w. Finishes image c.args.slot c.args.act m P c.args.pick w c.args.self.now) c.in-End.is f) in move image c.args.slot m c.args.self.now c.args.act End c.args.pick 0 _ (same_parts m c.args.self.now g.0 e) g.2 g.1 (c.finish_task.ensures image) P
