-- Which entries are permitted.
use Rattle.std.proofs.Common.{◌∙◌, ◌≡◌, ◌≢◌, ℕ, zero, suc, ◌<◌, List, [], ◌∷◌, Bool, true, false, cond, ◌==◌, ◌↔◌, ℤ, length, Option, Some, None, IsSome, Result, Ok, Err, option_map, option_and_then, refl, sym, subst, arith, take, drop, ◌++◌}
use Rattle.std.specs.Prelude.{slice_get, nat_lt}
use Rattle.std.specs.List.{list_any}
use Rattle.std.proofs.lemmas.List.{take-append-drop}
use Rattle.std.proofs.lemmas.Option.{same_Some, slice_get_within}
use Rattle.al_base.specs.declared.trap.Trap.{Trap}
use Rattle.al_base.specs.declared.trap.Trap.TheVariants.{Chan}
use Rattle.al_base.specs.declared.over.Over.{Over}
use Rattle.al_base.specs.declared.over.Over.TheVariants.{Done, Stopped, Blocked, Spent}
use Rattle.al_event.specs.Store.{Live}
use Rattle.al_event.specs.declared.act.Branch.{Branch}
use Rattle.al_event.specs.declared.act.Act.{Act}
use Rattle.al_event.specs.declared.act.Act.TheVariants.{Talk, Terminate, Trap as Traps, End}
use Rattle.al_event.specs.declared.entry.Entry.{Entry}
use Rattle.al_world.specs.Channels.{Channel, Offer, Book, Pair, channel, is_open, has_bad, ready, is_some_ready}
use Rattle.al_world.specs.Talks.{Fired, receives, by_buffer, goes_with, fires}
use Rattle.al_world.specs.Procs.{has_ready, live_tasks}
use Rattle.al_world.specs.Control.{Kind}
use Rattle.al_world.specs.World.{TaskName, TalkName, same_talker, Shared, World, Effect}
use Rattle.al_world.specs.Actions.{acts, performs, at_zero, trapped, goes, goes_or_waits, talk_of, ended_by, or_trap}
use Rattle.al_world.specs.Step.{task_of, after, step_held, step, counted, over_or, end_by_lists, opening_with, with_globals, run, opening}
use Rattle.al_world.specs.Permitted.{IsDoneInRange, IsPermitted, StepsWherePermitted, RunsGoOn, GoesThrough, RunsGoThrough, IsNeverSpent}
use Rattle.al_world.specs.Laws.{IsStillLent}
use Rattle.al_world.proofs.Roles.{is_local_along}
use Rattle.al_world.proofs.Lists.{all_at}
use Rattle.al_world.proofs.Cases.{got_some, IfSome', performs_cases}
use Rattle.al_world.proofs.Runs.{along, run_none}
use Rattle.al_world.proofs.Local.{step_by}
use Rattle.al_world.specs.Sound.{Offers}
use Rattle.al_world.proofs.Fires.{IsPair, pairs_are}
use Rattle.al_world.proofs.Fires as Pairs

-- ---- a pair that is ready goes

some_map : {X Y : Type 0} (f : X → Y) (o : Option X) → IsSome o → IsSome (option_map f o)
some_map f None h = absurd (let x = h in cc)
some_map f (Some x) h = refl

module _ (book : Book TalkName) (t : TalkName) (branches : List Branch) where
  receives_some : (i c : ℕ) (full : Bool) (held : List (List ℕ)) (os : Offers) → nat_lt 0 (length held) ≡ true → IsSome (receives same_talker book t i c full held os)
  receives_some i c full [] os h = absurd (let x : false ≡ true = h in cc)
  receives_some i c true (words ∷ rest) (o ∷ os) h = refl
  receives_some i c true (words ∷ rest) [] h = refl
  receives_some i c false (words ∷ rest) os h = refl

  buffer_some : (i : ℕ) (b : Branch) (send : Option (List ℕ)) (o : Option Channel) (ch : Channel) → o ≡ Some ch → is_open ch send ≡ true → IsSome (by_buffer same_talker book t i b send o)
  buffer_some i b send None ch e h = absurd (cc)
  buffer_some i b (Some words) (Some c) ch e h = refl
  buffer_some i b None (Some c) ch e h = receives_some i b.chan _ c.held _ (subst (λ (c : Channel). is_open c None ≡ true) (sym (same_Some c ch e)) h)

  goes_some : (i : ℕ) (b : Branch) (ch : Channel) (o : Option (Offer TalkName)) → channel book.channels b.chan ≡ Some ch → Pairs.Goes book branches ch b o → IsSome (goes_with same_talker book t i b o)
  goes_some i b ch (Some o) e g = refl
  goes_some i b ch None e g = buffer_some i b b.send (channel book.channels b.chan) ch e g.1

  fires_some : (pick : ℕ) → pick < length (ready book branches) → IsSome (fires same_talker book t branches pick)
  fires_some pick lt = on (slice_get (ready book branches) pick) refl
    where
      on : (o : Option (Pair TalkName)) → slice_get (ready book branches) pick ≡ o → IsSome (option_and_then (λ (p : Pair TalkName). goes_with same_talker book t p.number p.branch p.partner) o)
      on None e = absurd (ne_none (ready book branches) pick lt e)
        where
          ne_none : (ps : List (Pair TalkName)) (k : ℕ) → k < length ps → slice_get ps k ≡ None → ⊥
          ne_none [] k lt e = absurd (omega arith)
          ne_none (p ∷ ps) zero lt e = cc
          ne_none (p ∷ ps) (suc k) lt e = ne_none ps k (omega arith) e
      on (Some p) e =
          let is : IsPair book branches p = all_at (IsPair book branches) (ready book branches) p (pairs_are book branches) (record { at = pick; is = e }) in
          goes_some p.number p.branch is.channel p.partner is.branch.on is.goes

  fires_within : (pick : ℕ) → IsSome (fires same_talker book t branches pick) → pick < length (ready book branches)
  fires_within pick h = on (slice_get (ready book branches) pick) refl h
    where
      on : (o : Option (Pair TalkName)) → slice_get (ready book branches) pick ≡ o → IsSome (option_and_then (λ (p : Pair TalkName). goes_with same_talker book t p.number p.branch p.partner) o) → pick < length (ready book branches)
      on None e h = absurd (let x = h in cc)
      on (Some p) e h = slice_get_within (ready book branches) pick p e

-- ---- each action

zero_some : (pick : ℕ) (e : Effect) → IsSome (at_zero pick e) ↔ (pick < 1)
zero_some zero e = (λ _. omega arith, λ _. refl)
zero_some (suc k) e = (λ h. absurd (let x = h in cc), λ lt. absurd (omega arith))

pub done_in_range : IsDoneInRange
done_in_range s t (Talk bs) pick = on (has_bad s.book bs) (is_some_ready (ready s.book bs))
  where
    on : (u v : Bool) → IsSome (cond u (at_zero pick (trapped s t Chan)) (goes_or_waits s t bs pick v)) ↔ (pick < cond u 1 (cond v (length (ready s.book bs)) 1))
    on true v = zero_some pick _
    on false true = (λ h. fires_within s.book (talk_of s t) bs pick (was_some (fires same_talker s.book (talk_of s t) bs pick) h), λ lt. some_map (goes s t) _ (fires_some s.book (talk_of s t) bs pick lt))
      where
        was_some : (o : Option (Fired TalkName)) → IsSome (option_map (goes s t) o) → IsSome o
        was_some None h = absurd (let x = h in cc)
        was_some (Some f) h = refl
    on false false = zero_some pick _
done_in_range s t act pick = zero_some pick _

-- ---- each entry

-- ---- no world is spent

record IsUnspent (e : Effect) : Type 0 where
  unspent : e.shared.over ≢ Some Spent

module _ (s : Shared) (t : TaskName) (o : s.over ≡ None) where
  unspent_or_trap : {X : Type 0} (r : Result X Trap) (f : X → Effect) → ((x : X) → IsUnspent (f x)) → IsUnspent (or_trap s t r f)
  unspent_or_trap (Ok x) f h = h x
  unspent_or_trap (Err trap) f h = record { unspent = λ e. cc }

  unspent_if : (b : Bool) (x y : Effect) → IsUnspent x → IsUnspent y → IsUnspent (cond b x y)
  unspent_if true x y h k = h
  unspent_if false x y h k = k

  unspent_trapped : (trap : Trap) → IsUnspent (trapped s t trap)
  unspent_trapped trap = record { unspent = λ e. cc }

  unspent_stopped : (status : ℤ) → IsUnspent (ended_by s (Stopped status))
  unspent_stopped status = record { unspent = λ e. cc }

  unspent_same : (e : Effect) → s.over ≡ e.shared.over → IsUnspent e
  unspent_same e h = record { unspent = λ x. cc }

  unspent_acts : (act : Act) → IsUnspent (acts s t act)
  unspent_acts End = unspent_same _ refl
  unspent_acts (Talk bs) = unspent_same _ refl
  unspent_acts (Traps trap) = unspent_trapped trap
  unspent_acts (Terminate status) = unspent_stopped status
  unspent_acts act = search (unspent_if, unspent_or_trap, unspent_trapped, unspent_same)

  unspent_performs : (act : Act) (pick : ℕ) → IfSome' IsUnspent (performs s t act pick)
  unspent_performs act pick = performs_cases IsUnspent s t (unspent_trapped Chan) (λ bs k f fine e. unspent_same _ refl) act pick (unspent_acts act)

unspent_counted : (p line : ℕ) (s : Shared) → s.over ≢ Some Spent → (counted p line s).over ≢ Some Spent
unspent_counted p line s h = on s.over h
  where
    by_lists : (a b : Bool) → cond a None (cond b (Some Done) (Some Blocked)) ≢ Some Spent
    by_lists true b e = cc
    by_lists false true e = cc
    by_lists false false e = cc

    on : (o : Option Over) → o ≢ Some Spent → over_or o (end_by_lists s.procs) ≢ Some Spent
    on None h = by_lists (list_any has_ready s.procs) (live_tasks s.procs == 0)
    on (Some x) h = h

module _ (K : Kind) where
  permitted : (w : World K) (e : Entry) (o : Option (World K)) → step K w e ≡ o → IsSome o → IsPermitted K w e
  permitted w e None h i = absurd (let x = i in cc)
  permitted w e (Some v) h i = let x = step_by K w v e h in record {
    not_over = x.over;
    task = x.task;
    first = x.first;
    control = x.control;
    goes = x.goes_on;
    in_range = (done_in_range w.shared x.task _ e.pick).0 (subst IsSome (sym x.comes) refl);
  }

  steps : (w : World K) (e : Entry) → IsPermitted K w e → IsSome (step K w e)
  steps w e p =
      let done : IsSome (performs w.shared p.task (K.ask p.control (w.privates p.task.proc)).act e.pick) = (done_in_range w.shared p.task (K.ask p.control (w.privates p.task.proc)).act e.pick).1 p.in_range in
      let turn : task_of w.shared w.shared.over e.proc ≡ Some p.task = subst (λ o. task_of w.shared o e.proc ≡ Some p.task) (sym p.not_over) p.first in
      let held : IsSome (step_held K w p.task e.pick (w.tasks p.task)) = subst (λ h. IsSome (step_held K w p.task e.pick h)) (sym p.goes) (some_map (after K w p.task (K.ask p.control (w.privates p.task.proc))) (performs w.shared p.task (K.ask p.control (w.privates p.task.proc)).act e.pick) done) in
      subst (λ o. IsSome (option_and_then (λ (t : TaskName). step_held K w t e.pick (w.tasks t)) o)) (sym turn) held

  pub steps_where_permitted : StepsWherePermitted K
  steps_where_permitted w e = (permitted w e (step K w e) refl, steps w e)

  pub runs_go_on : RunsGoOn K
  runs_go_on [] more o = refl
  runs_go_on (e ∷ es) more o = runs_go_on es more (option_and_then (λ w. step K w e) o)

  pub runs_go_through : RunsGoThrough K
  runs_go_through h more w v r = on (run K h (Some w)) refl (sym (runs_go_on h more (Some w)) ∙ r)
    where
      on : (o : Option (World K)) → run K h (Some w) ≡ o → run K more o ≡ Some v → GoesThrough K h more w v
      on None e g = absurd (let x = run_none K more in cc)
      on (Some u) e g = record { between = u; before = e; rest = g }

  -- what was lent after the first s entries is still so
  pub is_still_lent : IsStillLent K
  is_still_lent region globals start h s w v p t r g ne f =
      let joined : run K (take s h ++ drop s h) (Some (opening K region globals start)) ≡ Some v = subst (λ l. run K l (Some (opening K region globals start)) ≡ Some v) (sym (take-append-drop s h)) g in
      let x = runs_go_through (take s h) (drop s h) (opening K region globals start) v joined in
      let same : x.between ≡ w = same_Some x.between w (sym x.before ∙ r) in
      is_local_along K region globals start (take s h) (drop s h) w v p t r (subst (λ u. run K (drop s h) (Some u) ≡ Some v) same x.rest) ne f

  abbrev NotSpent : World K → Type 0
  NotSpent w = w.shared.over ≢ Some Spent

  unspent_step : (w v : World K) (e : Entry) → NotSpent w → step K w e ≡ Some v → NotSpent v
  unspent_step w v e n h =
      let x = step_by K w v e h in
      let k = got_some IsUnspent _ x.effect (unspent_performs w.shared x.task x.over _ e.pick) x.comes in
      subst NotSpent x.is (unspent_counted x.task.proc (K.ask x.control (w.privates x.task.proc)).line x.effect.shared k.unspent)

  pub is_never_spent : IsNeverSpent K
  is_never_spent region globals start h w r = along K NotSpent unspent_step h _ w (at_start (with_globals region globals [])) r
    where
      at_start : (o : Option (List Live)) → (opening_with region o).over ≢ Some Spent
      at_start None e = cc
      at_start (Some store) e = cc
