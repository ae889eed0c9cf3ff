use Rattle.std.specs.Prelude.{All, false}
use Rattle.std.proofs.Common.{◌≡◌, ℕ}
use Rattle.std.proofs.lemmas.Option.{IfSome_then}
use Rattle.task_book.specs.Procs.{runs}
use Rattle.task_book.specs.Table.{can_run}
use Rattle.task_book.proofs.Seen.{seen}
use Rattle.task_book.proofs.Turns.{runs_can, none_can, if_none_then}
use Rattle.task_book.proofs.tasks.Tasks.ready_proc.Goals as goal

pub returns-in-Some-clause-some : goal.returns-in-Some-clause-some
returns-in-Some-clause-some c =
    let s = c.self.inside in
    rw (← c.self.view_is) (runs_can s.links.items s.procs.items s.tasks.items s.free.items s.made s.ready c.self.invariant.kept c.in-Some.number (rw c.deref.ensures.value at c.in-Some.ensures))

pub returns-in-None-clause-some : goal.returns-in-None-clause-some
returns-in-None-clause-some c =
    let s = c.self.inside in
    rw (← c.self.view_is) (IfSome_then c.first_that_runs.result (rw c.deref-in-None.ensures.value at c.first_that_runs.ensures.some) (λ p h. runs_can s.links.items s.procs.items s.tasks.items s.free.items s.made s.ready c.self.invariant.kept p h))

pub returns-in-None-clause-none : goal.returns-in-None-clause-none
returns-in-None-clause-none c =
    let s = c.self.inside in
    rw (← c.self.view_is) (if_none_then c.first_that_runs.result (All (λ r. runs r ≡ false) s.procs.items) ((p : ℕ) → can_run (seen s.links.items s.procs.items s.tasks.items s.made) p ≡ false) (rw c.deref-in-None.ensures.value at c.first_that_runs.ensures.none) (λ h. none_can s.links.items s.procs.items s.tasks.items s.free.items s.made s.ready c.self.invariant.kept h))
