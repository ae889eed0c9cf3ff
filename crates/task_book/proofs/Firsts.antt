-- First ready tasks live in their proc.
use Rattle.std.proofs.Common.{◌≡◌, ℕ, List, refl, sym, ap, ◌∙◌, Option, Some, None}
use Rattle.std.specs.Prelude.{is_some, IsSome, IfSome}
use Rattle.al_world.specs.Procs.{first_ready}
use Rattle.task_book.specs.declared.proc.Proc.{Proc}
use Rattle.task_book.specs.declared.proc.Task.{Task}
use Rattle.task_book.specs.Procs.{proc_at}
use Rattle.task_book.specs.Homes.{homes_of, home_at}
use Rattle.task_book.specs.Table.{home_of}
use Rattle.task_book.specs.Kept.{IsKept, procs_of}
use Rattle.task_book.proofs.Views.{at_number, first_view, first_none}
use Rattle.task_book.proofs.Seen.{seen, first_some}
use Rattle.task_book.proofs.Harts.{head_home}
use Rattle.task_book.proofs.Branches.{from_if_some}

module _ (links : List ℕ) (rs : List Proc) (tasks : List (Option Task)) (free : List ℕ) (made ready : ℕ) (kept : IsKept links rs tasks free made ready) where
  pub first_home : (p t : ℕ) → first_ready (procs_of links rs made) p ≡ Some t → home_at (homes_of tasks) t ≡ Some p
  first_home p t first = on (proc_at p rs) refl
    where
      on : (o : Option Proc) → proc_at p rs ≡ o → home_at (homes_of tasks) t ≡ Some p
      on None e = absurd (let f = sym (first_none links rs made p e) ∙ first in cc)
      on (Some r) e =
          let f = first_some r.ready t (first_view links rs made p r kept.under e ∙ first) in
          ap (home_at (homes_of tasks)) (sym f.1) ∙ head_home links rs tasks free made ready kept p r e f.0 ∙ ap Some (at_number rs p r e)

  pub parent_lives : (o : Option ℕ) → IfSome o (λ u. first_ready (procs_of links rs made) (home_of (seen links rs tasks made) u) ≡ Some u) → (u : ℕ) → o ≡ Some u → IsSome (home_at (homes_of tasks) u)
  parent_lives o h u e =
      ap is_some (first_home (home_of (seen links rs tasks made) u) u (from_if_some (λ u. first_ready (procs_of links rs made) (home_of (seen links rs tasks made) u) ≡ Some u) o h u e))
