-- A task that asked, and what its action does to the parts of a world.
use Rattle.std.specs.Prelude.{◌≡◌, ℕ, ◌+◌, ◌++◌, ◌^◌, ◌<◌, ◌≤◌, ◌==◌, if◌then◌else◌, false, List, [], ◌∷◌, length, Option, Some, None}
use Rattle.std.specs.List.{AllByRecursion, list_any}
use Rattle.al_base.specs.declared.over.Over.{Over}
use Rattle.al_base.specs.declared.over.Over.TheVariants.{Done, Blocked}
use Rattle.al_event.specs.declared.act.Act.{Act}
use Rattle.al_store.specs.Memory.{Contents as StoreContents}
use Rattle.rv_isa.specs.declared.image.Contents.{Contents}
use Rattle.al_world.specs.Procs.{ProcState, first_ready, has_ready, live_tasks, most_tasks}
use Rattle.al_world.specs.World.{TaskName, TalkName, Shared, Held, Waits, Effect, at_task, told}
use Rattle.al_world.specs.Actions.{performs}
use Rattle.al_world.specs.Answers.{IsFit}
use Rattle.al_world.specs.Laws.{IsGoing}
use Rattle.al_world.specs.Sound.{Sound}
use Rattle.rv_exec.specs.Hart.{Hart}
use Rattle.rv_exec.specs.Calls.{Privates}
use Rattle.rv_exec.specs.declared.run.Hart.{Hart as HartFields}
use Rattle.rv_exec.specs.declared.run.Privates.{Privates as PrivatesFields}
use Rattle.rv_exec.specs.Shown.{hart_of as machine_of, privates_of, bytes_of}
use Rattle.rv_exec.specs.Machine.{machine, started}
use Rattle.al_event.specs.declared.act.Start.{Start}
use Rattle.task_book.specs.Starting.{StartsProc}
use Rattle.al_core.specs.Asks.{IsAskable}
use Rattle.task_book.specs.Table.{Table, home_of, live_of, is_away}
use Rattle.chan_book.specs.Book.{Bounded}
use Rattle.al_core.specs.Stands.{task_at, IsNamed, AreHere}

-- what an action may change
pub record Machinery : Type 0 where
  pub store : StoreContents
  pub book : Bounded
  pub table : Table
  pub output : List ℕ

-- The task in a slot waits for the answer to this action, in a world that is not over: what all can see of it, each task and
-- the private globals before it asked, and the control that waits.
pub record Posed (image : Contents) (slot : ℕ) (act : Act) (m : Machinery) : Type 0 where
  pub shared : Shared
  pub tasks : TaskName → Held Hart
  pub privates : ℕ → Privates
  pub control : Hart
  pub name : ℕ → TalkName
  pub not_over : shared.over ≡ None
  pub named : IsNamed shared.book shared.procs shared.started name m.book.book m.table
  pub here : AreHere image (at_task (task_at name slot) (Waits act control) tasks) privates name m.table
  pub sound : Sound shared.procs shared.book.waiting shared.started tasks
  pub going : IsGoing (tasks (task_at name slot))
  pub first : first_ready m.table.procs (home_of m.table slot) ≡ Some slot
  pub home : is_away m.table (home_of m.table slot) ≡ false
  pub alive : 0 < live_of m.table (home_of m.table slot)
  pub askable : IsAskable image act
  pub fits : (pick : ℕ) (e : Effect) → performs shared (task_at name slot) act pick ≡ Some e → AllByRecursion (IsFit (at_task (task_at name slot) (Waits act control) tasks)) e.told
  pub fresh : (q : ℕ) → length shared.procs ≤ q → privates q ≡ (machine image).fresh
  pub few_procs : length shared.procs + 64 < 2 ^ 32
  pub few_channels : length shared.book.channels + 1 < 2 ^ 32
  pub few_tasks : live_tasks shared.procs ≤ most_tasks
  pub store_is : m.store ≡ record { region = shared.region; blocks = shared.store }
  pub book_room : m.book.room ≡ most_tasks
  pub tasks_room : length m.table.tasks ≡ most_tasks
  pub procs_room : length m.table.privates ≡ length m.table.procs

-- The action was done under this pick, and this is what came of it. `shown` is what was put out.
pub record IsDone (image : Contents) (slot : ℕ) (act : Act) (m : Machinery) (P : Posed image slot act m) (pick : ℕ) (over : Option Over) (after : Machinery) : Type 0 where
  pub effect : Effect
  pub performs_so : performs P.shared (task_at P.name slot) act pick ≡ Some effect
  pub over_is : over ≡ effect.shared.over
  pub name : ℕ → TalkName
  pub named : IsNamed effect.shared.book effect.shared.procs effect.shared.started name after.book.book after.table
  pub here : AreHere image (told (machine image) effect.told (at_task (task_at P.name slot) (Waits act P.control) P.tasks)) P.privates name after.table
  pub away : (q : ℕ) → is_away after.table q ≡ is_away m.table q
  pub store_is : after.store ≡ record { region = effect.shared.region; blocks = effect.shared.store }
  pub shown : List ℕ
  pub output : after.output ≡ m.output ++ shown
  pub output_is : effect.shared.output ≡ P.shared.output ++ shown
  pub book_room : after.book.room ≡ most_tasks
  pub tasks_room : length after.table.tasks ≡ most_tasks
  pub procs_room : length after.table.privates ≡ length after.table.procs

-- ---- what a par starts

-- a proc began that the task in a slot waits for
pub record BeginsBranch (image : Contents) (slot : ℕ) (start : Start) (s after : Table) : Type 0 where
  pub hart : HartFields
  pub privates : PrivatesFields
  pub hart_is : machine_of hart ≡ started image start.code start.words
  pub bytes_are : bytes_of privates ≡ image.privates
  pub zeros : (n : ℕ) → privates_of privates n ≡ 0
  pub begins : StartsProc (Some slot) hart privates (length s.procs) s after

-- one after another
abbrev pub BeginBranches : Contents → (slot : ℕ) → List Start → Table → Table → Type 0
BeginBranches image slot [] s after = after ≡ s
BeginBranches image slot (start ∷ starts) s after =
    (between : Table) × BeginsBranch image slot start s between × BeginBranches image slot starts between after

-- ---- the end

-- how a world is over, by its lists, whose action did not end it
abbrev pub end_of : {Task : Type 0} → List (ProcState Task) → Option Over
end_of procs =
    if list_any has_ready procs then None
    else (if live_tasks procs == 0 then Some Done else Some Blocked)
