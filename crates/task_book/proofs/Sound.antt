-- What callers know of each table.
use Rattle.std.proofs.Common.{◌≡◌, ℕ, ◌<◌, ◌≤◌, ◌^◌, true, false, ◌&&◌, List, [], map, refl, sym, ap, ◌∙◌, subst, arith, ◌⊎◌, inl, inr, Option, Some, None, slice_get, option_map}
use Rattle.std.specs.Prelude.{is_some, IsSome, nat_lt, option_and_then}
use Rattle.std.specs.Option.{option_map_or}
use Rattle.std.proofs.lemmas.List.{length-map}
use Rattle.std.proofs.lemmas.Option.{slice_get_past}
use Rattle.std.proofs.lemmas.Bool.Decides.{nat_tests}
use Rattle.std.proofs.lemmas.Bool.{cases_lt}
use Rattle.al_world.specs.Procs.{ProcState, first_ready}
use Rattle.rv_exec.specs.declared.run.Hart.{Hart}
use Rattle.task_book.specs.declared.proc.Proc.{Proc}
use Rattle.task_book.specs.declared.proc.Task.{Task}
use Rattle.task_book.specs.Queues.{slots_of, has, are_different}
use Rattle.task_book.specs.Procs.{proc_at}
use Rattle.task_book.specs.Homes.{homes_of, home_at}
use Rattle.task_book.specs.Table.{TaskState, LivesIn, at, lives, home_of, hart_of, ready_of, live_of, parent_of, is_away}
use Rattle.task_book.specs.Kept.{IsKept, IsLent, procs_of, state_of, privates_of, task_of}
use Rattle.task_book.specs.Sound.{IsSound}
use Rattle.task_book.proofs.Queueing.{all_has}
use Rattle.task_book.proofs.Tables.{get-listed, length-listed}
use Rattle.task_book.proofs.Views.{at_number, get_proc, home_view, home_seen}
use Rattle.task_book.proofs.Seen.{seen, privates_seen, get_privates, ready_seen, live_seen, not_away}
use Rattle.task_book.proofs.Harts.{home_task, hart_at, hart_seen, away_known, away_none, first_is}

some_of : {X : Type 0} (o : Option X) → IsSome o → (x : X) × (o ≡ Some x)
some_of None h = absurd (cc)
some_of (Some x) h = (x, refl)

module _ (links : List ℕ) (rs : List Proc) (tasks : List (Option Task)) (free : List ℕ) (made ready : ℕ) (kept : IsKept links rs tasks free made ready) where
  -- ---- of a number without a proc nothing is seen

  no_state : (p : ℕ) → proc_at p rs ≡ None → (slice_get (procs_of links rs made) p ≡ Some (state_of links None)) ⊎ (slice_get (procs_of links rs made) p ≡ None)
  no_state p e = on (cases_lt p made)
    where
      on : (p < made) ⊎ (made ≤ p) → (slice_get (procs_of links rs made) p ≡ Some (state_of links None)) ⊎ (slice_get (procs_of links rs made) p ≡ None)
      on (inl lt) = inl (get-listed (λ n. state_of links (proc_at n rs)) made p lt ∙ ap (λ o. Some (state_of links o)) e)
      on (inr le) = inr (slice_get_past (procs_of links rs made) p (rw (length-listed (λ n. state_of links (proc_at n rs)) made) le))

  none_ready : (p : ℕ) → proc_at p rs ≡ None → ready_of (seen links rs tasks made) p ≡ []
  none_ready p e = elim (no_state p e) [ inl f ↦ ap (λ o. option_map_or (λ (q : ProcState ℕ). q.ready) o []) f | inr f ↦ ap (λ o. option_map_or (λ (q : ProcState ℕ). q.ready) o []) f ]

  none_parent : (p : ℕ) → proc_at p rs ≡ None → parent_of (seen links rs tasks made) p ≡ None
  none_parent p e = elim (no_state p e) [ inl f ↦ ap (option_and_then (λ (q : ProcState ℕ). q.parent)) f | inr f ↦ ap (option_and_then (λ (q : ProcState ℕ). q.parent)) f ]

  pub none_privates : (p : ℕ) → proc_at p rs ≡ None → at (privates_seen rs made) p ≡ None
  none_privates p e = on (cases_lt p made)
    where
      on : (p < made) ⊎ (made ≤ p) → at (privates_seen rs made) p ≡ None
      on (inl lt) = ap (option_and_then (λ o. o)) (get-listed (λ n. privates_of (proc_at n rs)) made p lt) ∙ ap privates_of e
      on (inr le) = ap (option_and_then (λ o. o)) (slice_get_past (privates_seen rs made) p (rw (length-listed (λ n. privates_of (proc_at n rs)) made) le))

  -- ---- tasks

  here : (t p : ℕ) → home_at (homes_of tasks) t ≡ Some p → (lives (seen links rs tasks made) t ≡ true) × (home_of (seen links rs tasks made) t ≡ p)
  here t p e = on (at (map task_of tasks) t) (home_view tasks t ∙ e)
    where
      on : (o : Option TaskState) → option_map (λ (x : TaskState). x.home) o ≡ Some p → (is_some o ≡ true) × (option_map_or (λ (x : TaskState). x.home) o 0 ≡ p)
      on None f = absurd (cc)
      on (Some x) f = (refl, ap (λ (m : Option ℕ). option_map_or (λ (n : ℕ). n) m 0) f)

  -- the proc of a task whose hart is not here
  is_lent : (t p : ℕ) (r : Proc) → home_at (homes_of tasks) t ≡ Some p → proc_at p rs ≡ Some r → hart_of (seen links rs tasks made) t ≡ None → IsLent t r
  is_lent t p r e f none =
      let x = home_task tasks t p e in
      kept.harts t x.0 x.1 (sym (hart_at tasks t x.0 x.1) ∙ sym (hart_seen tasks t) ∙ none) r (ap (λ n. proc_at n rs) x.2 ∙ f)

  pub lives_in : (t p : ℕ) → home_at (homes_of tasks) t ≡ Some p → LivesIn (seen links rs tasks made) p t
  lives_in t p e = let h = here t p e in record { lives = h.0; home = h.1; hart = λ not_out. on not_out (hart_of (seen links rs tasks made) t) refl }
    where
      on : is_away (seen links rs tasks made) p ≡ false → (o : Option Hart) → hart_of (seen links rs tasks made) t ≡ o → IsSome o
      on not_out (Some h) f = refl
      on not_out None f = let r = some_of (proc_at p rs) (kept.known t p e) in absurd (not_away links rs tasks free made ready kept p r.0 r.1 not_out (is_lent t p r.0 e r.1 f).away)

  ready_in : (p t : ℕ) → has t (ready_of (seen links rs tasks made) p) ≡ true → LivesIn (seen links rs tasks made) p t
  ready_in p t h = on (proc_at p rs) refl
    where
      on : (o : Option Proc) → proc_at p rs ≡ o → LivesIn (seen links rs tasks made) p t
      on None e = absurd (let f = ap (has t) (sym (none_ready p e)) ∙ h in cc)
      on (Some r) e =
          lives_in t p (all_has (λ u. home_at (homes_of tasks) u ≡ Some r.number) (slots_of links r.ready) t (kept.good p r e).here (ap (has t) (sym (ready_seen links rs tasks free made ready kept p r e)) ∙ h) ∙ ap Some (at_number rs p r e))

  different : (p : ℕ) → are_different (ready_of (seen links rs tasks made) p) ≡ true
  different p = on (proc_at p rs) refl
    where
      on : (o : Option Proc) → proc_at p rs ≡ o → are_different (ready_of (seen links rs tasks made) p) ≡ true
      on None e = ap are_different (none_ready p e)
      on (Some r) e = ap are_different (ready_seen links rs tasks free made ready kept p r e) ∙ (kept.good p r e).queue.different

  homes : (t : ℕ) → lives (seen links rs tasks made) t ≡ true → 0 < live_of (seen links rs tasks made) (home_of (seen links rs tasks made) t)
  homes t h =
      let p : ℕ = home_of (seen links rs tasks made) t in
      let r = some_of (proc_at p rs) (kept.known t p (home_seen tasks t h)) in
      rw (live_seen links rs tasks free made ready kept p r.0 r.1) (kept.good p r.0 r.1).some

  -- ---- procs that are away

  seen_away : (p : ℕ) (r : Proc) → proc_at p rs ≡ Some r → r.privates ≡ None → is_away (seen links rs tasks made) p ≡ true
  seen_away p r e none = rw (live_seen links rs tasks free made ready kept p r e, get_privates links rs tasks free made ready kept p r e, none) (some_live r.live (kept.good p r e).some)
    where
      some_live : (n : ℕ) → 0 < n → (nat_lt 0 n && true) ≡ true
      some_live n lt = grind (arith, nat_tests)

  harts : (t : ℕ) → lives (seen links rs tasks made) t ≡ true → hart_of (seen links rs tasks made) t ≡ None → is_away (seen links rs tasks made) (home_of (seen links rs tasks made) t) ≡ true
  harts t h none =
      let p : ℕ = home_of (seen links rs tasks made) t in
      let r = some_of (proc_at p rs) (kept.known t p (home_seen tasks t h)) in
      seen_away p r.0 r.1 (is_lent t p r.0 (home_seen tasks t h) r.1 none).away

  lent : (t : ℕ) → lives (seen links rs tasks made) t ≡ true → hart_of (seen links rs tasks made) t ≡ None → first_ready (procs_of links rs made) (home_of (seen links rs tasks made) t) ≡ Some t
  lent t h none =
      let p : ℕ = home_of (seen links rs tasks made) t in
      let r = some_of (proc_at p rs) (kept.known t p (home_seen tasks t h)) in
      let l = is_lent t p r.0 (home_seen tasks t h) r.1 none in
      first_is links rs tasks free made ready kept p r.0 r.1 l.some ∙ ap Some l.first

  away : (p : ℕ) → is_away (seen links rs tasks made) p ≡ true → IsSome (first_ready (procs_of links rs made) p)
  away p h =
      let r = some_of (proc_at p rs) (away_known links rs tasks free made ready kept p h) in
      ap is_some (first_is links rs tasks free made ready kept p r.0 r.1 ((kept.good p r.0 r.1).away (away_none links rs tasks free made ready kept p r.0 r.1 h)))

  owned : (p : ℕ) → IsSome (at (privates_seen rs made) p) → 0 < live_of (seen links rs tasks made) p
  owned p h = on (proc_at p rs) refl
    where
      on : (o : Option Proc) → proc_at p rs ≡ o → 0 < live_of (seen links rs tasks made) p
      on None e = absurd (let f = sym (ap is_some (none_privates p e)) ∙ h in cc)
      on (Some r) e = rw (live_seen links rs tasks free made ready kept p r e) (kept.good p r e).some

  parents : (p u : ℕ) → parent_of (seen links rs tasks made) p ≡ Some u → lives (seen links rs tasks made) u ≡ true
  parents p u f = on (proc_at p rs) refl
    where
      on : (o : Option Proc) → proc_at p rs ≡ o → lives (seen links rs tasks made) u ≡ true
      on None e = absurd (let g = sym (none_parent p e) ∙ f in cc)
      on (Some r) e =
          let parent : r.parent ≡ Some u = sym (ap (option_and_then (λ (q : ProcState ℕ). q.parent)) (get_proc links rs made p r kept.under e)) ∙ f in
          let home = some_of (home_at (homes_of tasks) u) ((kept.good p r e).parent u parent) in
          (here u home.0 home.1).0

  pub is_sound : IsSound (seen links rs tasks made)
  is_sound = record {
    small = subst (λ n. n < 2 ^ 32) (sym (length-map tasks task_of)) kept.small;
    places = length-listed (λ n. privates_of (proc_at n rs)) made ∙ sym (length-listed (λ n. state_of links (proc_at n rs)) made);
    ready = ready_in;
    different = different;
    homes = homes;
    harts = harts;
    lent = lent;
    away = away;
    owned = owned;
    parents = parents;
  }
