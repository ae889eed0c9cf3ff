-- What starts in a table.
use Rattle.std.specs.Prelude.{◌≡◌, ℕ, ◌+◌, ◌-◌, List, [], ◌∷◌, ◌++◌, slice_get, slice_set, replicate, Option, Some, None, option_map}
use Rattle.al_world.specs.Channels.{changed_at}
use Rattle.al_world.specs.Procs.{new_proc, starts_in_proc}
use Rattle.rv_exec.specs.declared.run.Hart.{Hart}
use Rattle.rv_exec.specs.declared.run.Privates.{Privates}
use Rattle.task_book.specs.declared.proc.Task.{Task}
use Rattle.task_book.specs.Table.{Table}

abbrev pub empty : ℕ → Table
empty most = record { procs = []; tasks = replicate most None; privates = [] }

-- a task began in a proc, at a slot that had none
pub record StartsTask (p : ℕ) (hart : Hart) (slot : ℕ) (s after : Table) : Type 0 where
  pub unused : slice_get s.tasks slot ≡ Some None
  pub table : after ≡ record s { procs = starts_in_proc p slot s.procs; tasks = slice_set s.tasks slot (Some (record { home = p; hart = Some hart })) }

-- a proc with the next number began, with one task at a slot that had none
pub record StartsProc (parent : Option ℕ) (hart : Hart) (privates : Privates) (number : ℕ) (s after : Table) : Type 0 where
  pub slot : ℕ
  pub unused : slice_get s.tasks slot ≡ Some None
  pub table : after ≡ record {
    procs = s.procs ++ new_proc parent slot ∷ [];
    tasks = slice_set s.tasks slot (Some (record { home = number; hart = Some hart }));
    privates = s.privates ++ Some privates ∷ [];
  }

-- ---- as it is kept

abbrev pub with_branch : ℕ → List (Option Task) → List (Option Task)
with_branch t tasks = changed_at t (λ o. option_map (λ (x : Task). record x { branches = x.branches + 1 }) o) tasks

-- the same for a parent, if there is one
abbrev pub with_branch_of : Option ℕ → List (Option Task) → List (Option Task)
with_branch_of None tasks = tasks
with_branch_of (Some t) tasks = with_branch t tasks

abbrev pub without_branch : ℕ → List (Option Task) → List (Option Task)
without_branch t tasks = changed_at t (λ o. option_map (λ (x : Task). record x { branches = x.branches - 1 }) o) tasks

abbrev pub without_branch_of : Option ℕ → List (Option Task) → List (Option Task)
without_branch_of None tasks = tasks
without_branch_of (Some t) tasks = without_branch t tasks
