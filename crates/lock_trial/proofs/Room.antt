-- From passes to workers and back.
use Rattle.std.proofs.Common.{◌≡◌, ℕ, ◌<◌, ◌≤◌, List, map, length, slice_index_or, sym, subst, arith}
use Rattle.std.proofs.lemmas.List.{get_or-map, length-map}
use Rattle.store_lock.specs.declared.pass.Pass.{Pass}
use Rattle.store_lock.specs.Locks.{lock_seats}
use Rattle.store_lock.specs.Passes.{IsMember, AreNew, AreAllAtRest}
use Rattle.store_lock.proofs.Closing.{all_at_rest, new_members}
use Rattle.lock_trial.specs.declared.crew.Worker.{Worker}
use Rattle.lock_trial.specs.Crew.{hired, pass_of}
use Rattle.lock_trial.specs.DeskValue.{desk_entries}
use Rattle.lock_trial.specs.DeskMemo.{desk_memo}
use Rattle.lock_trial.specs.Working.{DeskLock, IsWorkersPass, AreWorkers, AreStill}

module _ (lock : DeskLock) (ps : List Pass) (new : AreNew desk_memo desk_entries lock ps) (few : lock_seats lock ≤ 64) where
  -- the worker at each place has the pass of that number
  hired_at : (k : ℕ) (d : Worker) → k < length (map hired ps) → IsWorkersPass lock k (slice_index_or (map hired ps) k d).pass
  hired_at k d inside =
      let long : length (map hired ps) ≡ length ps = length-map ps hired in
      let place : k < length ps = omega arith in
      let count = new.count in
      let p : Pass = d.pass in
      let is : slice_index_or (map hired ps) k d ≡ hired (slice_index_or ps k p) = get_or-map hired ps k p d place in
      record { member = subst (λ (w : Worker). IsMember desk_memo lock k w.pass) (sym is) (new_members desk_memo lock desk_entries ps new k p place); small = omega arith }

  pub are_workers : AreWorkers lock (map hired ps)
  are_workers k d inside =
      let w = hired_at k d inside in
      subst (λ (n : ℕ). IsWorkersPass lock n (slice_index_or (map hired ps) k d).pass) (sym w.member.number_is) w

  pub all_back : (ws : List Worker) → length ws ≡ length (map hired ps) → AreStill lock (map hired ps) ws → AreAllAtRest desk_memo lock (map pass_of ws)
  all_back ws same still =
      let long = length-map ps hired in
      let back = length-map ws pass_of in
      let count : length (map pass_of ws) ≡ lock_seats lock = omega (arith, new.count) in
      all_at_rest desk_memo lock (map pass_of ws) count
      (λ k d inside.
      let here : k < length ws = omega arith in
      let before : k < length (map hired ps) = omega arith in
      let w : Worker = hired d in
      let is : slice_index_or (map pass_of ws) k d ≡ pass_of (slice_index_or ws k w) = get_or-map pass_of ws k w d here in
      let number = (hired_at k w before).member.number_is in
      let now : IsMember desk_memo lock k (slice_index_or ws k w).pass = subst (λ (n : ℕ). IsMember desk_memo lock n (slice_index_or ws k w).pass) number (still k w before).member in
      subst (IsMember desk_memo lock k) (sym is) now)
