-- The live tasks of one proc among all.
use Rattle.std.proofs.Common.{ℕ, zero, suc, ◌+◌, ◌≡◌, ◌≤◌, List, [], ◌∷◌, slice_get, Some, arith}
use Rattle.std.proofs.lemmas.List.Sums.{sum_by-cons}
use Rattle.al_world.specs.Procs.{ProcState, live_tasks}

module _ {Task : Type 0} where
  pub live_tasks_more : (q : ProcState Task) (procs : List (ProcState Task)) → live_tasks (q ∷ procs) ≡ q.live + live_tasks procs
  live_tasks_more q procs = sum_by-cons (λ (p : ProcState Task). p.live) q procs

  pub live_within : (procs : List (ProcState Task)) (k : ℕ) (q : ProcState Task) → slice_get procs k ≡ Some q → q.live ≤ live_tasks procs
  live_within [] k q e = cc
  live_within (p ∷ ps) zero q e = let same : p ≡ q = cc in rw (← same) (omega (arith, live_tasks_more p ps))
  live_within (p ∷ ps) (suc k) q e = omega (arith, live_tasks_more p ps, live_within ps k q e)
