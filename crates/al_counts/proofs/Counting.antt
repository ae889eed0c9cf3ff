-- The counts of each world that a run comes to, and that they have room.
use Rattle.std.proofs.Common.{◌≡◌, ℕ, ◌+◌, ◌≤◌, ◌<◌, ◌^◌, List, [], ◌∷◌, length, Option, Some, None, refl, sym, subst, arith}
use Rattle.std.proofs.lemmas.Option.{same_Some}
use Rattle.al_event.specs.declared.act.Act.{Act}
use Rattle.al_event.specs.declared.act.Start.{Start}
use Rattle.al_event.specs.declared.entry.Entry.{Entry}
use Rattle.al_event.specs.Store.{Live}
use Rattle.al_world.specs.Procs.{live_tasks, most_tasks, new_proc}
use Rattle.al_world.specs.Control.{Kind}
use Rattle.al_world.specs.World.{TaskName, Shared, World, Effect, at_proc}
use Rattle.al_world.specs.Actions.{performs, first_task}
use Rattle.al_world.specs.Step.{step, run, opening, opening_with, with_globals}
use Rattle.al_world.proofs.Cases.{got_some}
use Rattle.al_world.proofs.Maps.{at_proc_cases}
use Rattle.al_world.proofs.Runs.{run_none}
use Rattle.al_world.proofs.Local.{step_by}
use Rattle.al_counts.specs.Counts.{IsCounted, AreCounted, most_entries, HasRoom, HaveRoom}
use Rattle.al_counts.proofs.Procs.{live_cons}
use Rattle.al_counts.proofs.Grows.{Grows, grows_performs}

module _ (K : Kind) where
  counted_step : (n : ℕ) (w v : World K) (e : Entry) → IsCounted n w.shared → step K w e ≡ Some v → IsCounted (n + 1) v.shared
  counted_step n w v e k h =
      let x = step_by K w v e h in
      let g = got_some (Grows w.shared) _ x.effect (grows_performs w.shared x.task (K.ask x.control (w.privates x.task.proc)).act e.pick) x.comes in
      let same = g.entries in
      let were = k.entries in
      let kept = g.procs.kept in
      let procs = k.procs in
      let channels = g.channels in
      let had = k.channels in
      subst (λ (v : World K). IsCounted (n + 1) v.shared) x.is (record {
        entries = omega (arith, same, were);
        own_entries = λ p. own p x.effect.shared.entries_of x.task.proc g.own_entries;
        live = g.procs.few k.live;
        procs = omega (arith, kept, procs);
        tasks = λ p. let now = g.tasks p in let before = k.tasks p in omega (arith, now, before);
        channels = omega (arith, channels, had);
      })
    where
      own : (p : ℕ) (f : ℕ → ℕ) (q : ℕ) → f ≡ w.shared.entries_of → at_proc q (f q + 1) f p ≤ n + 1
      own p f q same =
          let at : (i : ℕ) → f i ≤ n = λ i. subst (λ (f : ℕ → ℕ). f i ≤ n) (sym same) (k.own_entries i) in
          at_proc_cases (λ m. m ≤ n + 1) q p (f q + 1) f (λ _. let b = at q in omega (arith, b)) (λ _. let b = at p in omega (arith, b))

  counted_opening : (region : ℕ) (globals : List (List ℕ)) (start : Start) → IsCounted 0 (opening K region globals start).shared
  counted_opening region globals start = on (with_globals region globals [])
    where
      one : live_tasks (new_proc None (first_task 0) ∷ []) ≡ 1
      one = live_cons (new_proc None (first_task 0)) []

      started : (p : ℕ) → at_proc 0 1 (λ _. 0) p ≤ 1
      started p = at_proc_cases (λ n. n ≤ 1) 0 p 1 (λ _. 0) (λ _. omega arith) (λ _. omega arith)

      on : (o : Option (List Live)) → IsCounted 0 (opening_with region o)
      on None = record { entries = refl; own_entries = λ p. omega arith; live = omega (arith, one); procs = omega (arith, one); tasks = started; channels = omega arith }
      on (Some store) = record { entries = refl; own_entries = λ p. omega arith; live = omega (arith, one); procs = omega (arith, one); tasks = started; channels = omega arith }

  counted_from : (h : List Entry) (n : ℕ) (w v : World K) → IsCounted n w.shared → run K h (Some w) ≡ Some v → IsCounted (n + length h) v.shared
  counted_from [] n w v k r = subst (λ (w : World K). IsCounted (n + 0) w.shared) (same_Some w v r) (subst (λ m. IsCounted m w.shared) (omega arith) k)
  counted_from (e ∷ es) n w v k r = on (step K w e) refl r (λ u. counted_from es (n + 1) u v)
    where
      on : (o : Option (World K)) → step K w e ≡ o → run K es o ≡ Some v → ((u : World K) → IsCounted (n + 1) u.shared → run K es (Some u) ≡ Some v → IsCounted (n + 1 + length es) v.shared) → IsCounted (n + length (e ∷ es)) v.shared
      on None h r later = absurd (let none = run_none K es in cc)
      on (Some u) h r later = subst (λ m. IsCounted m v.shared) (omega arith) (later u (counted_step n w u e k h) r)

  pub are_counted : AreCounted K
  are_counted region globals start h w r = subst (λ n. IsCounted n w.shared) (omega arith) (counted_from h 0 _ w (counted_opening region globals start) r)

-- ---- room

pub has_room : (n : ℕ) (s : Shared) → n ≤ most_entries → IsCounted n s → HasRoom s
has_room n s small k = record {
  fits = λ t act few. record {
    entries = let count = k.entries in omega (arith, small, count);
    own_entries = let own = k.own_entries t.proc in omega (arith, small, own);
    tasks = let tasks = k.tasks t.proc in omega (arith, small, tasks);
    procs = omega (arith, procs);
    channels = let channels = k.channels in omega (arith, small, channels);
    branches = few;
  };
  procs = omega (arith, procs);
  procs_after = λ t act pick e h. after t act pick e (got_some (Grows s) (performs s t act pick) e (grows_performs s t act pick) h);
}
  where
    procs : length s.procs ≤ most_entries + most_tasks
    procs = let all = k.procs in let live = k.live in omega (arith, small, all, live)

    after : (t : TaskName) (act : Act) (pick : ℕ) (e : Effect) → Grows s e → length e.shared.procs < 2 ^ 32
    after t act pick e g = let all = k.procs in let live = g.procs.few k.live in let kept = g.procs.kept in omega (arith, small, all, live, kept)

pub have_room : (K : Kind) → HaveRoom K
have_room K region globals start h w small r = has_room (length h) w.shared small (are_counted K region globals start h w r)
