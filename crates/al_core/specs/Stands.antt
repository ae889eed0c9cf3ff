-- A world of the program stands for a run: there is a world to which the image runs along the entries, and the fields hold what
-- it has. Tasks are called by slots; a naming says which task a slot stands for.
use Rattle.std.specs.Prelude.{◌≡◌, ◌≢◌, ℕ, ◌+◌, ◌*◌, ◌^◌, ◌≤◌, ◌<◌, ◌==◌, true, List, length, drop, slice_get, Option, Some, None}
use Rattle.std.specs.List.{AllByRecursion}
use Rattle.al_base.specs.declared.over.Over.{Over}
use Rattle.al_event.specs.declared.entry.Entry.{Entry}
use Rattle.al_event.specs.declared.entry.Loan.{Loan}
use Rattle.al_store.specs.Memory.{Contents as StoreContents}
use Rattle.rv_isa.specs.declared.image.Contents.{Contents}
use Rattle.rv_isa.specs.Image.{IsWithin}
use Rattle.al_world.specs.Channels.{Book, Offer}
use Rattle.al_world.specs.Procs.{ProcState, first_ready, most_tasks}
use Rattle.al_world.specs.Control.{Kind}
use Rattle.al_world.specs.World.{TaskName, TalkName, same_task, Held, Absent, Goes, Waits, World}
use Rattle.al_world.specs.Renamed.{renamed_book, renamed_procs}
use Rattle.rv_exec.specs.declared.run.Hart.{Hart as HartFields}
use Rattle.rv_exec.specs.declared.run.Privates.{Privates as PrivatesFields}
use Rattle.rv_exec.specs.Hart.{Hart}
use Rattle.rv_exec.specs.Calls.{Privates}
use Rattle.rv_exec.specs.Shown.{hart_of as machine_of, privates_of, bytes_of, WaitsFor}
use Rattle.rv_exec.specs.Answers.{HasAnswer}
use Rattle.rv_exec.specs.Machine.{machine}
use Rattle.task_book.specs.Table.{Table, at, lives, home_of, hart_of, is_away as is_away_in}
use Rattle.chan_book.specs.Book.{Bounded}
use Rattle.al_core.specs.History.{History, run_of, asked_by, loan_of, away, is_away}

-- what a world of the program holds beside its history
pub record Parts : Type 0 where
  pub store : StoreContents
  pub book : Bounded
  pub table : Table
  pub output : List ℕ
  pub over : Option Over
  pub line : ℕ
  pub work : ℕ

-- ---- slots and names

-- the task that a slot stands for
abbrev pub task_at : (ℕ → TalkName) → ℕ → TaskName
task_at name slot = (name slot).task

-- channels, waiting list and ready lists are those of the world under these names; a slot with a task stands for a task of
-- the same proc that was started, and two such slots for two tasks; and no list names a slot without a task
pub record IsNamed (talks : Book TalkName) (procs : List (ProcState TaskName)) (started : ℕ → ℕ) (name : ℕ → TalkName) (book : Book ℕ) (table : Table) : Type 0 where
  pub book_is : renamed_book name book ≡ talks
  pub procs_is : renamed_procs (task_at name) table.procs ≡ procs
  pub apart : (t u : ℕ) → lives table t ≡ true → lives table u ≡ true → same_task (task_at name t) (task_at name u) ≡ (t == u)
  pub homes : (t : ℕ) → lives table t ≡ true → (task_at name t).proc ≡ home_of table t
  pub were_started : (t : ℕ) → lives table t ≡ true → (task_at name t).number < started (home_of table t)
  pub ready : (p : ℕ) (q : ProcState ℕ) → slice_get table.procs p ≡ Some q → AllByRecursion (λ t. lives table t ≡ true) q.ready
  pub parents : (p : ℕ) (q : ProcState ℕ) (u : ℕ) → slice_get table.procs p ≡ Some q → q.parent ≡ Some u → lives table u ≡ true
  pub waiting : AllByRecursion (λ (o : Offer ℕ). lives table o.by ≡ true) book.waiting
  -- the one hart that is not here is that of the first ready task of a proc that is away
  pub here : (t : ℕ) → lives table t ≡ true → hart_of table t ≡ None → (is_away_in table (home_of table t) ≡ true) × (first_ready table.procs (home_of table t) ≡ Some t)

-- ---- harts

-- a task has this hart; where it waits, the hart can go on with each answer to its action
abbrev pub HasHart : Held Hart → HartFields → Type 0
HasHart Absent hart = ⊥
HasHart (Goes c) hart = machine_of hart ≡ c
HasHart (Waits act c) hart = (machine_of hart ≡ c) × (HasAnswer act → WaitsFor hart act)

-- the harts and private globals that are here are these
pub record AreHere (image : Contents) (tasks : TaskName → Held Hart) (privates : ℕ → Privates) (name : ℕ → TalkName) (table : Table) : Type 0 where
  pub harts : (t : ℕ) (hart : HartFields) → hart_of table t ≡ Some hart → HasHart (tasks (task_at name t)) hart
  pub privates_are : (p : ℕ) (v : PrivatesFields) → at table.privates p ≡ Some v → privates_of v ≡ privates p
  pub bytes : (p : ℕ) (v : PrivatesFields) → at table.privates p ≡ Some v → bytes_of v ≡ image.privates

-- In proc p the tasks and private globals are those of the world, except that the first ready task may be further on in its
-- stretch: then it asks the same next. (A stretch that lacked memory stops on its way.)
pub record IsOnItsWay (K : Kind) (w : World K) (tasks : TaskName → Held K.Control) (privates : ℕ → K.Privates) (p : ℕ) : Type 0 where
  pub others : (n : TaskName) → n.proc ≡ p → first_ready w.shared.procs p ≢ Some n → tasks n ≡ w.tasks n
  pub rest : first_ready w.shared.procs p ≡ None → privates p ≡ w.privates p
  pub first : (n : TaskName) → first_ready w.shared.procs p ≡ Some n → asked_by K (tasks n) (privates p) ≡ asked_by K (w.tasks n) (w.privates p)

-- The tasks of a world are those of the table, under some naming.
pub record AreTasks (image : Contents) (w : World (machine image)) (book : Book ℕ) (table : Table) : Type 0 where
  pub name : ℕ → TalkName
  pub named : IsNamed w.shared.book w.shared.procs w.shared.started name book table
  pub tasks : TaskName → Held Hart
  pub privates : ℕ → Privates
  pub here : AreHere image tasks privates name table
  pub on_way : (p : ℕ) → IsOnItsWay (machine image) w tasks privates p

-- ---- loans

-- the procs that are away are those of the loans, one for each; after a loan was made no entry is of its proc
pub record AreLoans (h : History) (table : Table) : Type 0 where
  pub lent : (p : ℕ) → is_away_in table p ≡ is_away h p
  pub one : (j k : ℕ) (a b : Loan) → loan_of h j ≡ Some a → loan_of h k ≡ Some b → a.proc ≡ b.proc → j ≡ k
  pub since : (k : ℕ) (loan : Loan) → loan_of h k ≡ Some loan → loan.since ≤ length h.entries
  pub still : (k : ℕ) (loan : Loan) → loan_of h k ≡ Some loan → AllByRecursion (λ (e : Entry). loan.proc ≢ e.proc) (drop loan.since h.entries)

-- ---- the whole

-- the limits and counts of a history
pub record IsLimited (h : History) : Type 0 where
  pub image : IsWithin h.image
  pub some_region : 1 ≤ h.region
  pub region : h.region ≤ 256
  pub limit : h.limit ≤ 2 ^ 26
  pub quota : h.quota ≤ h.limit
  pub entries : length h.entries + away h ≤ h.quota
  pub workers : length h.loans ≡ 64

-- the parts hold what a world has
pub record AreParts (h : History) (w : World (machine h.image)) (x : Parts) : Type 0 where
  pub store : x.store ≡ record { region = w.shared.region; blocks = w.shared.store }
  pub output : x.output ≡ drop h.dropped w.shared.output
  pub dropped : h.dropped ≤ length w.shared.output
  pub over : x.over ≡ w.shared.over
  pub line : x.line ≡ w.shared.line
  pub work : x.work ≡ w.work
  pub little_work : x.work ≤ length h.entries * 2 ^ 64
  pub book_room : x.book.room ≡ most_tasks
  pub tasks_room : length x.table.tasks ≡ most_tasks
  pub procs_room : length x.table.privates ≡ length x.table.procs

-- Once the world is over its tasks are no part of this.
pub record Stands (h : History) (x : Parts) : Type 0 where
  pub limited : IsLimited h
  pub world : World (machine h.image)
  pub runs : run_of h ≡ Some world
  pub parts : AreParts h world x
  pub loans : AreLoans h x.table
  pub tasks : world.shared.over ≡ None → AreTasks h.image world x.book.book x.table
