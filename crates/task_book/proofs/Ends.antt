-- What ends with a task, by how many tasks of its proc live.
use Rattle.std.proofs.Common.{◌≡◌, ◌≢◌, ap₂, set, [], ◌∷◌, ◌⊎◌, inl, inr, ℕ, ◌-◌, ◌<◌, Bool, true, false, ◌==◌, not, List, refl, sym, ap, ◌∙◌, arith, Option, Some, None, slice_get, option_map}
use Rattle.std.specs.Prelude.{nat_eq, drop, option_and_then, is_some}
use Rattle.std.proofs.lemmas.Bool.Decides.{eqb_tells}
use Rattle.std.proofs.lemmas.Option.{same_Some}
use Rattle.al_world.proofs.Lists.{or_false}
use Rattle.rv_exec.specs.declared.run.Privates.{Privates}
use Rattle.task_book.specs.Queues.{has}
use Rattle.task_book.specs.Table.{Table, TaskState, IsBlocked, at, lives, home_of, ready_of}
use Rattle.task_book.proofs.Starts.{get_set_other}
use Rattle.std.specs.Option.{option_map_or}
use Rattle.al_world.specs.Procs.{ProcState, first_of, first_ready, ends, ends_proc, joins, loses_first, without_parent}
use Rattle.al_world.proofs.Maps.{get-changed-same, get-changed-other}
use Rattle.task_book.proofs.Queueing.{eqb_not, eqb_same}

module _ (home : ℕ → ℕ) (procs : List (ProcState ℕ)) (p : ℕ) where
  live : ℕ
  live = option_map_or (λ (q : ProcState ℕ). q.live) (slice_get procs p) 0

  pub ends_one : 1 < option_map_or (λ (q : ProcState ℕ). q.live) (slice_get procs p) 0 → ends nat_eq home procs p ≡ record { procs = loses_first p procs; proc_ended = false; woke = None }
  ends_one lt = ap (ends_proc nat_eq home (loses_first p procs) p) (get-changed-same p (λ q. record q { ready = drop 1 q.ready; live = q.live - 1 }) procs) ∙ on (slice_get procs p) lt
    where
      on : (o : Option (ProcState ℕ)) → 1 < option_map_or (λ (q : ProcState ℕ). q.live) o 0 → ends_proc nat_eq home (loses_first p procs) p (option_map (λ (q : ProcState ℕ). record q { ready = drop 1 q.ready; live = q.live - 1 }) o) ≡ record { procs = loses_first p procs; proc_ended = false; woke = None }
      on None lt = refl
      on (Some q) lt = rw (eqb_not (q.live - 1) 0 (λ e. absurd (omega arith))) refl

  pub ends_last : (parent : Option ℕ) → option_map_or (λ (q : ProcState ℕ). q.live) (slice_get procs p) 0 ≡ 1 → option_and_then (λ (q : ProcState ℕ). q.parent) (slice_get procs p) ≡ parent → ends nat_eq home procs p ≡ joins nat_eq home (without_parent p (loses_first p procs)) parent
  ends_last parent e f = ap (ends_proc nat_eq home (loses_first p procs) p) (get-changed-same p (λ q. record q { ready = drop 1 q.ready; live = q.live - 1 }) procs) ∙ on (slice_get procs p) e f
    where
      on : (o : Option (ProcState ℕ)) → option_map_or (λ (q : ProcState ℕ). q.live) o 0 ≡ 1 → option_and_then (λ (q : ProcState ℕ). q.parent) o ≡ parent → ends_proc nat_eq home (loses_first p procs) p (option_map (λ (q : ProcState ℕ). record q { ready = drop 1 q.ready; live = q.live - 1 }) o) ≡ joins nat_eq home (without_parent p (loses_first p procs)) parent
      on None e f = absurd (omega arith)
      on (Some q) e f = rw (e, f) refl

-- ---- a table whose proc p ended with its task t

has_drop : (u : ℕ) (xs : List ℕ) → has u xs ≡ false → has u (drop 1 xs) ≡ false
has_drop u [] h = h
has_drop u (x ∷ xs) h = (or_false (x == u) (has u xs) h).1

abbrev pub after_end : Table → ℕ → ℕ → List (Option Privates) → Table
after_end s p t privates = record { procs = without_parent p (loses_first p s.procs); tasks = set s.tasks t None; privates = privates }

module _ (s : Table) (p t : ℕ) (privates : List (Option Privates)) (first : first_ready s.procs p ≡ Some t) (home : home_of s t ≡ p) (u : ℕ) (blocked : IsBlocked s u) where
  other : u ≢ t
  other e =
      let in_ready : has t (ready_of s p) ≡ true = found (slice_get s.procs p) first in
      let out : has t (ready_of s p) ≡ false = sym (ap₂ (λ v q. has v (ready_of s q)) e (ap (home_of s) e ∙ home)) ∙ blocked.out in
      absurd (cc)
    where
      found : (o : Option (ProcState ℕ)) → option_and_then (λ (q : ProcState ℕ). first_of q.ready) o ≡ Some t → has t (option_map_or (λ (q : ProcState ℕ). q.ready) o []) ≡ true
      found None f = absurd (cc)
      found (Some q) f = on q.ready f
        where
          on : (xs : List ℕ) → first_of xs ≡ Some t → has t xs ≡ true
          on [] f = absurd (cc)
          on (x ∷ xs) f = rw (same_Some x t f, eqb_same) refl

  pub same_task : at (set s.tasks t None) u ≡ at s.tasks u
  same_task = ap (option_and_then (λ o. o)) (get_set_other s.tasks t u None other)

  pub lives_after : lives (after_end s p t privates) u ≡ true
  lives_after = ap is_some same_task ∙ blocked.lives

  pub home_after : home_of (after_end s p t privates) u ≡ home_of s u
  home_after = ap (λ o. option_map_or (λ (x : TaskState). x.home) o 0) same_task

  pub out_after : has u (ready_of (after_end s p t privates) (home_of (after_end s p t privates) u)) ≡ false
  out_after = ap (λ q. has u (ready_of (after_end s p t privates) q)) home_after ∙ on (eqb_tells (home_of s u) p)
    where
      dropped : (o : Option (ProcState ℕ)) → has u (option_map_or (λ (q : ProcState ℕ). q.ready) o []) ≡ false → has u (option_map_or (λ (q : ProcState ℕ). q.ready) (option_map (λ (q : ProcState ℕ). record q { parent = None }) (option_map (λ (q : ProcState ℕ). record q { ready = drop 1 q.ready; live = q.live - 1 }) o)) []) ≡ false
      dropped None h = h
      dropped (Some q) h = has_drop u q.ready h

      on : (((home_of s u == p) ≡ true) × (home_of s u ≡ p)) ⊎ (((home_of s u == p) ≡ false) × (home_of s u ≢ p)) → has u (ready_of (after_end s p t privates) (home_of s u)) ≡ false
      on (inl k) =
          rw k.1 (ap (λ o. has u (option_map_or (λ (q : ProcState ℕ). q.ready) o [])) (get-changed-same p (λ q. record q { parent = None }) (loses_first p s.procs) ∙ ap (option_map (λ (q : ProcState ℕ). record q { parent = None })) (get-changed-same p (λ q. record q { ready = drop 1 q.ready; live = q.live - 1 }) s.procs)) ∙ dropped (slice_get s.procs p) (ap (λ q. has u (ready_of s q)) (sym k.1) ∙ blocked.out))
      on (inr k) =
          ap (λ o. has u (option_map_or (λ (q : ProcState ℕ). q.ready) o [])) (get-changed-other p (home_of s u) (λ q. record q { parent = None }) (loses_first p s.procs) k.1 ∙ get-changed-other p (home_of s u) (λ q. record q { ready = drop 1 q.ready; live = q.live - 1 }) s.procs k.1) ∙ blocked.out

pub none_from : (o : Option ℕ) → ((x : ℕ) → o ≡ Some x → ⊥) → o ≡ None
none_from None h = refl
none_from (Some x) h = absurd (h x refl)

pub not_false : (b : Bool) → not b ≡ false → b ≡ true
not_false true h = refl
not_false false h = absurd (cc)

pub not_is : (b : Bool) → not b ≡ true → b ≡ false
not_is false h = refl
not_is true h = absurd (cc)
