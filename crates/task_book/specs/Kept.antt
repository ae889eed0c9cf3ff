-- How a table is kept.
use Rattle.std.specs.Prelude.{◌≡◌, ℕ, zero, suc, ◌+◌, ◌<◌, ◌≤◌, ◌^◌, Bool, true, nat_eq, List, [], ◌∷◌, length, map, sum_by, count_by, slice_get, Option, Some, None, option_map, option_and_then, IsSome, vec_capacity}
use Rattle.std.specs.List.{AllByRecursion}
use Rattle.al_world.specs.Procs.{ProcState, live_tasks, is_parent}
use Rattle.rv_exec.specs.declared.run.Privates.{Privates}
use Rattle.task_book.specs.declared.proc.Proc.{Proc}
use Rattle.task_book.specs.declared.proc.Task.{Task}
use Rattle.task_book.specs.declared.tasks.Tasks.TheInside.{Inside}
use Rattle.task_book.specs.Queues.{slots_of, are_different, IsQueue}
use Rattle.task_book.specs.Procs.{proc_at, IsRising, IsUnder}
use Rattle.task_book.specs.Homes.{homes_of, home_at, is_of}
use Rattle.task_book.specs.Table.{Table, TaskState}

-- f 0, f 1, and so on
abbrev pub listed : {X : Type 0} → (ℕ → X) → ℕ → List X
listed f zero = []
listed f (suc n) = f 0 ∷ listed (λ m. f (suc m)) n

-- ---- what is seen

abbrev pub state_of : List ℕ → Option Proc → ProcState ℕ
state_of links None = record { ready = []; live = 0; parent = None }
state_of links (Some r) = record { ready = slots_of links r.ready; live = r.live; parent = r.parent }

abbrev pub privates_of : Option Proc → Option Privates
privates_of o = option_and_then (λ (r : Proc). r.privates) o

abbrev pub task_of : Option Task → Option TaskState
task_of o = option_map (λ (x : Task). record { home = x.proc; hart = x.hart }) o

abbrev pub procs_of : List ℕ → List Proc → ℕ → List (ProcState ℕ)
procs_of links procs made = listed (λ n. state_of links (proc_at n procs)) made

abbrev pub table_of : Inside → Table
table_of s = record {
  procs = procs_of s.links.items s.procs.items s.made;
  tasks = map task_of s.tasks.items;
  privates = listed (λ n. privates_of (proc_at n s.procs.items)) s.made;
}

-- ---- what holds

-- the procs that a task waits for
abbrev pub waits_on : ℕ → ProcState ℕ → Bool
waits_on t q = is_parent nat_eq (λ u. 0) t q.parent

-- a proc whose ready tasks are different ones of its live tasks
pub record IsGood (links : List ℕ) (homes : List (Option ℕ)) (r : Proc) : Type 0 where
  pub queue : IsQueue links r.ready
  pub here : AllByRecursion (λ t. home_at homes t ≡ Some r.number) (slots_of links r.ready)
  pub live : r.live ≡ count_by (is_of r.number) homes
  pub some : 0 < r.live
  pub parent : (u : ℕ) → r.parent ≡ Some u → IsSome (home_at homes u)
  pub away : r.privates ≡ None → 0 < r.ready.len

-- the hart of a task that is lent with its proc
pub record IsLent (t : ℕ) (r : Proc) : Type 0 where
  pub away : r.privates ≡ None
  pub some : 0 < r.ready.len
  pub first : r.ready.head ≡ t

pub record IsKept (links : List ℕ) (procs : List Proc) (tasks : List (Option Task)) (free : List ℕ) (made ready : ℕ) : Type 0 where
  pub rising : IsRising 0 procs
  pub under : IsUnder made procs
  pub size : length links ≡ length tasks
  pub small : length tasks < 2 ^ 32
  pub good : (p : ℕ) (r : Proc) → proc_at p procs ≡ Some r → IsGood links (homes_of tasks) r
  pub known : (t p : ℕ) → home_at (homes_of tasks) t ≡ Some p → IsSome (proc_at p procs)
  pub harts : (t : ℕ) (x : Task) → slice_get tasks t ≡ Some (Some x) → x.hart ≡ None → (r : Proc) → proc_at x.proc procs ≡ Some r → IsLent t r
  pub branches : (t : ℕ) (x : Task) → slice_get tasks t ≡ Some (Some x) → x.branches ≡ count_by (waits_on t) (procs_of links procs made)
  pub used : sum_by (λ (r : Proc). r.live) procs + length free ≡ length tasks
  pub total : live_tasks (procs_of links procs made) + length free ≡ length tasks
  pub sum : sum_by (λ (q : ProcState ℕ). length q.ready) (procs_of links procs made) ≡ ready
  pub unused : AllByRecursion (λ t. slice_get tasks t ≡ Some None) free
  pub different : are_different free ≡ true

-- with room for all later calls
pub record HasRoom (s : Inside) : Type 0 where
  pub kept : IsKept s.links.items s.procs.items s.tasks.items s.free.items s.made s.ready
  pub procs_room : length s.tasks.items ≤ vec_capacity s.procs
  pub free_room : length s.tasks.items ≤ vec_capacity s.free
