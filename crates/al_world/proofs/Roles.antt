-- Each entry keeps the world sound: ready tasks go on, blocked ones wait for their talks and parents for their pars.
use Rattle.std.proofs.Common.{◌≡◌, ◌≢◌, ℕ, zero, suc, ◌+◌, List, [], ◌∷◌, ◌++◌, Bool, true, false, cond, not, ◌==◌, length, filter, drop, Option, Some, None, Result, Ok, Err, option_and_then, refl, sym, ap, ◌∙◌, subst, subst₂, ◌⊎◌, inl, inr, arith, append_assoc, append-nil, length-append, le_refl}
use Rattle.std.specs.Prelude.{slice_get}
use Rattle.std.specs.List.{AllByRecursion}
use Rattle.std.proofs.lemmas.Option.{same_Some}
use Rattle.al_base.specs.declared.trap.Trap.{Trap}
use Rattle.al_base.specs.declared.over.Over.{Over}
use Rattle.al_event.specs.declared.act.Branch.{Branch}
use Rattle.al_event.specs.declared.act.Start.{Start}
use Rattle.al_event.specs.declared.act.Act.{Act}
use Rattle.al_event.specs.declared.act.Act.TheVariants.{FreeChan, Talk, Proc, Task, Par, End}
use Rattle.al_event.specs.declared.entry.Entry.{Entry}
use Rattle.al_event.specs.Store.{Live}
use Rattle.al_base.specs.declared.trap.Trap.TheVariants.{Chan, Busy}
use Rattle.al_world.specs.Channels.{Channel, Offer, Book, channel, gives_up, gives_up_one, is_waited_for, changed_at, with_channel, without_values}
use Rattle.al_world.specs.Talks.{Woken, Fired, meets, fires, offers_from}
use Rattle.al_world.specs.Procs.{ProcState, Ended, first_ready, first_of, new_proc, is_parent, has_branches, joins, ends_proc, loses_first, without_parent, joins_ready}
use Rattle.al_world.specs.Control.{Kind, fitted}
use Rattle.al_world.specs.World.{TaskName, TalkName, same_task, same_talker, Shared, Held, Absent, Goes, Waits, World, Answered, Begins, Effect, told, told_one, at_task, at_proc}
use Rattle.al_world.specs.Actions.{answer, with_went, with_book, lost, ended_by, or_trap, goes, wakes, wake_told, waits_for, talk_of, acts, performs, first_task, next_task, begins_from, procs_from, counts_from, starts_proc, starts_one_task, starts_par, join_told, ends_task}
use Rattle.al_world.specs.Step.{counted, over_or, end_by_lists, step, run, opening, opening_with, with_globals}
use Rattle.al_world.specs.Laws.{IsKept, IsLocalEverywhere, IsLocalAlong, IsReadyToGo}
use Rattle.al_world.proofs.Cases.{got_some, IfSome', at_zero_cases, talks_cases}
use Rattle.al_world.proofs.Maps.{same_task_tells}
use Rattle.al_world.proofs.Runs.{along, run_none}
use Rattle.al_world.specs.Transfers.{IsIn}
use Rattle.al_world.proofs.Lists.{get_seam, same_ok, all_append, all_filter, all_at, or_false}
use Rattle.al_world.proofs.Local.{Procs, step_by, step_local}
use Rattle.al_world.proofs.Fires.{fires_ways, Ways, IsPartner}
use Rattle.al_world.specs.Sound.{Offers, IsTalking, IsJoining, IsReady, Sound}
use Rattle.al_world.proofs.Sound.{Changed, changed_here, kept, goes_again, leaves_list, wakes_up, one_more_proc, one_more_task, orphaned, length-changed}

pub set_changed : {C : Type 0} (T : TaskName → Held C) (t : TaskName) (h : Held C) → Changed T (at_task t h T) t h
set_changed T t h = record { at = λ v. on v (same_task v t) (same_task_tells v t) }
  where
    on : (v : TaskName) (b : Bool) → ((b ≡ true) × (v ≡ t)) ⊎ ((b ≡ false) × (v ≢ t)) → ((v ≡ t) × (cond b h (T v) ≡ h)) ⊎ ((v ≢ t) × (cond b h (T v) ≡ T v))
    on v true (inl e) = inl (e.1, refl)
    on v false (inr e) = inr (e.1, refl)
    on v true (inr e) = absurd (let a = e.0 in cc)
    on v false (inl e) = absurd (let a = e.0 in cc)

two_changed : {C : Type 0} (T T' T2 : TaskName → Held C) (t : TaskName) (h k : Held C) → Changed T T' t h → Changed T' T2 t k → Changed T T2 t k
two_changed T T' T2 t h k c d = record { at = λ v. on v (d.at v) (c.at v) }
  where
    on : (v : TaskName) → ((v ≡ t) × (T2 v ≡ k)) ⊎ ((v ≢ t) × (T2 v ≡ T' v)) → ((v ≡ t) × (T' v ≡ h)) ⊎ ((v ≢ t) × (T' v ≡ T v)) → ((v ≡ t) × (T2 v ≡ k)) ⊎ ((v ≢ t) × (T2 v ≡ T v))
    on v (inl e) f = inl e
    on v (inr e) (inl f) = absurd (e.0 f.0)
    on v (inr e) (inr f) = inr (e.0, e.1 ∙ f.1)

-- the branches of a task that waits for a talk
talking_all : {C : Type 0} (T : TaskName → Held C) (n : TalkName) (bs : List Branch) (d : C) → T n.task ≡ Waits (Talk bs) d → (rest pre : List Branch) → pre ++ rest ≡ bs → AllByRecursion (λ (o : Offer TalkName). IsTalking o (T o.by.task)) (offers_from n (length pre) rest)
talking_all T n bs d was [] pre e = tt
talking_all T n bs d was (b ∷ rest) pre e =
    let m : length (pre ++ b ∷ []) ≡ length pre + 1 = omega (arith, length-append pre (b ∷ [])) in (
      record { branches = bs; control = d; is = was; at = subst (λ l. slice_get l (length pre) ≡ Some b) e (get_seam pre b rest) },
      subst (λ k. AllByRecursion (λ (o : Offer TalkName). IsTalking o (T o.by.task)) (offers_from n k rest)) m (talking_all T n bs d was rest (pre ++ b ∷ []) (append_assoc pre (b ∷ []) rest ∙ e)),
    )

-- the branches that stay where those of a task are withdrawn
abbrev pub Without : TalkName → Offers → Offers
Without u ws = filter (λ (o : Offer TalkName). not (same_talker o.by u)) ws

pub without_others : (u : TalkName) (ws : Offers) → AllByRecursion (λ (o : Offer TalkName). o.by.task ≢ u.task) (Without u ws)
without_others u [] = tt
without_others u (o ∷ os) = on (same_task o.by.task u.task) (same_task_tells o.by.task u.task) (without_others u os)
  where
    on : (b : Bool) → ((b ≡ true) × (o.by.task ≡ u.task)) ⊎ ((b ≡ false) × (o.by.task ≢ u.task)) → AllByRecursion (λ (o : Offer TalkName). o.by.task ≢ u.task) (Without u os) → AllByRecursion (λ (o : Offer TalkName). o.by.task ≢ u.task) (cond (not b) (o ∷ Without u os) (Without u os))
    on true e rest = rest
    on false (inr e) rest = (e.1, rest)
    on false (inl e) rest = absurd (let a = e.0 in cc)

not_itself : (u : TaskName) → same_task u u ≡ false → ⊥
not_itself u b = on (same_task_tells u u)
  where
    on : ((same_task u u ≡ true) × (u ≡ u)) ⊎ ((same_task u u ≡ false) × (u ≢ u)) → ⊥
    on (inl x) = let y = x.0 in absurd (cc)
    on (inr x) = x.1 refl

-- no proc has u as its parent
no_children : (u : TaskName) (procs : Procs) → has_branches same_task (λ (u : TaskName). u.proc) u procs ≡ false → (p : ℕ) (q : ProcState TaskName) → slice_get procs p ≡ Some q → q.parent ≢ Some u
no_children u [] h p q g e = absurd (cc)
no_children u (r ∷ rs) h zero q g e =
    let a : r.parent ≡ Some u = ap (λ (q : ProcState TaskName). q.parent) (same_Some r q g) ∙ e in
    not_itself u (subst (λ o. is_parent same_task (λ (u : TaskName). u.proc) u o ≡ false) a (or_false _ _ h).0)
no_children u (r ∷ rs) h (suc p) q g e = no_children u rs (or_false _ _ h).1 p q g e

-- what a talk that goes leaves of the waiting list: all where it woke no other, and else all but the other's branches
abbrev pub Withdrawn : Offers → Option (Woken TalkName) → Offers → Type 0
Withdrawn before None now = now ≡ before
Withdrawn before (Some w) now = (o : Offer TalkName) × IsIn before o × (w.by ≡ o.by) × (now ≡ Without o.by before)

pub record IsWithdrawal (before : Offers) (f : Fired TalkName) : Type 0 where
  pub withdrawn : Withdrawn before f.woke f.book.waiting

pub fired_withdrawal : (book : Book TalkName) (branches : List Branch) (t : TalkName) (f : Fired TalkName) (pick : ℕ) → fires same_talker book t branches pick ≡ Some f → IsWithdrawal book.waiting f
fired_withdrawal book branches t f =
    fires_ways book branches same_talker t (IsWithdrawal book.waiting) ways f
  where
    with_partner : (b : Branch) (o : Offer TalkName) (f : Fired TalkName) (words : List ℕ) → IsPartner book.waiting b o → f.woke ≡ Some (record { by = o.by; branch = o.number; words = words }) → f.book.waiting ≡ Without o.by book.waiting → IsWithdrawal book.waiting f
    with_partner b o f words p e w = record { withdrawn = subst (λ x. Withdrawn book.waiting x f.book.waiting) (sym e) (o, p.waits, refl, w) }

    meets_way : (i : ℕ) (b : Branch) (o : Offer TalkName) (send : Option (List ℕ)) → IsPartner book.waiting b o → IsWithdrawal book.waiting (meets same_talker book t i b.chan send o)
    meets_way i b o None p = with_partner b o _ _ p refl refl
    meets_way i b o (Some words) p = with_partner b o _ _ p refl refl

    ways : Ways book branches same_talker t (IsWithdrawal book.waiting)
    ways = record {
      q_meets = λ i b ch o at z p. meets_way i b o b.send p;
      q_hands_over = λ i b ch words o at z s h p. with_partner b o _ _ p refl refl;
      q_puts_in = λ i b ch words at z s. record { withdrawn = refl };
      q_takes_out = λ i b ch words rest at z s h. record { withdrawn = refl };
      q_lets_in = λ i b ch words rest o at z s h p. with_partner b o _ _ p refl refl;
    }

module _ (K : Kind) where
  abbrev Tasks : Type 0
  Tasks = TaskName → Held K.Control

  told_changed : (T : Tasks) (u : TaskName) (words : List ℕ) (act : Act) (d : K.Control) → T u ≡ Waits act d → Changed T (at_task u (told_one K (Answered words) (T u)) T) u (Goes (K.resume d (fitted act words)))
  told_changed T u words act d was =
      let e : told_one K (Answered words) (T u) ≡ Goes (K.resume d (fitted act words)) = rw was refl in
      subst (Changed T (at_task u (told_one K (Answered words) (T u)) T) u) e (set_changed T u _)

  begun_changed : (T : Tasks) (u : TaskName) (start : Start) → T u ≡ Absent → Changed T (at_task u (told_one K (Begins start) (T u)) T) u (Goes (K.start start))
  begun_changed T u start none =
      let e : told_one K (Begins start) (T u) ≡ Goes (K.start start) = rw none refl in
      subst (Changed T (at_task u (told_one K (Begins start) (T u)) T) u) e (set_changed T u _)

  -- procs that begin, with this parent
  more_procs : (parent : Option TaskName) (starts : List Start) (procs : Procs) (ws : Offers) (started : ℕ → ℕ) (T : Tasks) → Sound procs ws started T → ((u : TaskName) → parent ≡ Some u → IsJoining (T u)) → Sound (procs ++ procs_from parent (length procs) starts) ws (counts_from (length procs) starts started) (told K (begins_from (length procs) starts) T)
  more_procs parent [] procs ws started T s joins = subst (λ l. Sound l ws started T) (sym (append-nil procs)) s
  more_procs parent (x ∷ xs) procs ws started T s joins =
      let t : TaskName = first_task (length procs) in
      let none : T t ≡ Absent = s.absent t (let u = s.unstarted (length procs) (le_refl _) in omega arith) in
      let c = begun_changed T t x none in
      let T2 : Tasks = at_task t (told_one K (Begins x) (T t)) T in
      let s2 = one_more_proc procs ws started T T2 s parent (K.start x) c joins in
      let n : length (procs ++ new_proc parent t ∷ []) ≡ length procs + 1 = omega (arith, length-append procs (new_proc parent t ∷ [])) in
      let r = more_procs parent xs (procs ++ new_proc parent t ∷ []) ws (at_proc (length procs) 1 started) T2 s2 (λ u e. kept IsJoining T T2 t u _ c (λ j. let a = j.is in cc) (joins u e)) in
      let r' : Sound ((procs ++ new_proc parent t ∷ []) ++ procs_from parent (length procs + 1) xs) ws (counts_from (length procs + 1) xs (at_proc (length procs) 1 started)) (told K (begins_from (length procs + 1) xs) T2) = subst (λ k. Sound ((procs ++ new_proc parent t ∷ []) ++ procs_from parent k xs) ws (counts_from k xs (at_proc (length procs) 1 started)) (told K (begins_from k xs) T2)) n r in
      subst (λ l. Sound l ws (counts_from (length procs + 1) xs (at_proc (length procs) 1 started)) (told K (begins_from (length procs + 1) xs) T2)) (append_assoc procs (new_proc parent t ∷ []) _) r'

  module _ (s : Shared) (T : Tasks) (t : TaskName) (act : Act) (c d : K.Control) (sound : Sound s.procs s.book.waiting s.started T) (q : ProcState TaskName) (rest : List TaskName) (at : slice_get s.procs t.proc ≡ Some q) (is : q.ready ≡ t ∷ rest) (going : T t ≡ Goes c) where
    abbrev T' : Tasks
    T' = at_task t (Waits act d) T

    waits : T' t ≡ Waits act d
    waits = changed_here T T' t _ (set_changed T t (Waits act d))

    record Good (e : Effect) : Type 0 where
      good : e.shared.over ≡ None → Sound e.shared.procs e.shared.book.waiting e.shared.started (told K e.told T')

    -- the task after its answer
    answered : (words : List ℕ) → Sound s.procs s.book.waiting s.started (at_task t (told_one K (Answered words) (T' t)) T')
    answered words =
        let T2 : Tasks = at_task t (told_one K (Answered words) (T' t)) T' in
        goes_again s.procs s.book.waiting s.started T T2 sound t c (K.resume d (fitted act words)) (two_changed T T' T2 t _ _ (set_changed T t (Waits act d)) (told_changed T' t words act d waits)) going

    good_answer : (x : Shared) (words : List ℕ) → s.procs ≡ x.procs → s.book.waiting ≡ x.book.waiting → s.started ≡ x.started → Good (record { shared = x; told = (t, Answered words) ∷ [] })
    good_answer x words p w n = record {
      good = λ o. subst (λ l. Sound x.procs x.book.waiting l (at_task t (told_one K (Answered words) (T' t)) T')) n (subst₂ (λ a b. Sound a b s.started (at_task t (told_one K (Answered words) (T' t)) T')) p w (answered words));
    }

    good_trapped : (o : Over) → Good (ended_by s o)
    good_trapped o = record { good = λ e. absurd (cc) }

    good_if : (b : Bool) (x y : Effect) → Good x → Good y → Good (cond b x y)
    good_if true x y h k = h
    good_if false x y h k = k

    good_or_trap : {X : Type 0} (r : Result X Trap) (f : X → Effect) → ((x : X) → r ≡ Ok x → Good (f x)) → Good (or_trap s t r f)
    good_or_trap (Ok x) f h = h x refl
    good_or_trap (Err trap) f h = good_trapped _

    -- a talk goes, and the other task with it
    good_goes : (f : Fired TalkName) → IsWithdrawal s.book.waiting f → Good (goes s t f)
    good_goes f w = record { good = λ e. on f.woke f.book.waiting w.withdrawn }
      where
        T2 : Tasks
        T2 = at_task t (told_one K (Answered (f.branch ∷ f.words)) (T' t)) T'

        c2 : Changed T T2 t (Goes (K.resume d (fitted act (f.branch ∷ f.words))))
        c2 = two_changed T T' T2 t _ _ (set_changed T t (Waits act d)) (told_changed T' t _ act d waits)

        on : (o : Option (Woken TalkName)) (now : Offers) → Withdrawn s.book.waiting o now → Sound (wakes o s.procs) now s.started (told K ((t, Answered (f.branch ∷ f.words)) ∷ wake_told o) T')
        on None now e = subst (λ l. Sound s.procs l s.started T2) (sym e) (answered (f.branch ∷ f.words))
        on (Some w) now h =
            let o = h.0 in
            let sound2 = answered (f.branch ∷ f.words) in
            let talks : IsTalking o (T o.by.task) = all_at (λ (o : Offer TalkName). IsTalking o (T o.by.task)) s.book.waiting o sound.waiting h.1 in
            let talks2 : IsTalking o (T2 o.by.task) = kept (IsTalking o) T T2 t o.by.task _ c2 (λ j. let a = j.is in cc) talks in
            let woken : Sound (joins_ready o.by.task.proc o.by.task s.procs) (Without o.by s.book.waiting) s.started (at_task o.by.task (told_one K (Answered (w.branch ∷ w.words)) (T2 o.by.task)) T2) =
            wakes_up s.procs s.book.waiting s.started T2 _ sound2 o.by.task (Talk talks2.branches) talks2.control _ (Without o.by s.book.waiting) talks2.is (told_changed T2 o.by.task (w.branch ∷ w.words) (Talk talks2.branches) talks2.control talks2.is) (λ p q g e. let j = (sound2.procs p q g).parent o.by.task e in let a = j.is in let b = talks2.is in cc) (all_filter _ _ s.book.waiting sound2.waiting) (without_others o.by s.book.waiting) in
            let here : Sound (joins_ready w.by.task.proc w.by.task s.procs) (Without o.by s.book.waiting) s.started (at_task w.by.task (told_one K (Answered (w.branch ∷ w.words)) (T2 w.by.task)) T2) =
            subst (λ (u : TalkName). Sound (joins_ready u.task.proc u.task s.procs) (Without o.by s.book.waiting) s.started (at_task u.task (told_one K (Answered (w.branch ∷ w.words)) (T2 u.task)) T2)) (sym h.2) woken in
            subst (λ l. Sound (joins_ready w.by.task.proc w.by.task s.procs) l s.started (at_task w.by.task (told_one K (Answered (w.branch ∷ w.words)) (T2 w.by.task)) T2)) (sym h.3) here

    -- it leaves its ready list and waits
    left : (f : ProcState TaskName → ProcState TaskName) → ((q : ProcState TaskName) → (f q).parent ≡ q.parent) → ((q : ProcState TaskName) → (f q).ready ≡ drop 1 q.ready) → Sound (changed_at t.proc f s.procs) s.book.waiting s.started T'
    left f p r = leaves_list s.procs s.book.waiting s.started T T' sound t.proc t rest q act d f at is (set_changed T t (Waits act d)) p r

    good_waits_for : (bs : List Branch) → act ≡ Talk bs → Good (waits_for s t bs)
    good_waits_for bs e = record {
      good = λ o. let x = left (λ q. record q { ready = drop 1 q.ready }) (λ q. refl) (λ q. refl) in record {
        procs = x.procs;
        waiting = all_append _ s.book.waiting _ x.waiting (talking_all T' (talk_of s t) bs d (waits ∙ ap (λ a. Waits a d) e) bs [] refl);
        absent = x.absent;
        unstarted = x.unstarted;
      };
    }

    good_proc : (start : Start) → Good (starts_proc s t start)
    good_proc start = record { good = λ o. more_procs None (start ∷ []) s.procs s.book.waiting s.started _ (answered []) (λ u e. absurd (cc)) }

    good_task : (start : Start) → Good (starts_one_task s t start)
    good_task start = record {
      good = λ o.
          let sound2 = answered [] in
          let T2 : Tasks = at_task t (told_one K (Answered []) (T' t)) T' in
          let none : T2 (next_task s t.proc) ≡ Absent = sound2.absent (next_task s t.proc) (le_refl _) in
          one_more_task s.procs s.book.waiting s.started T2 _ sound2 t.proc q (K.start start) at (begun_changed T2 (next_task s t.proc) start none);
    }

    good_par : (starts : List Start) → act ≡ Par starts → Good (starts_par s t starts)
    good_par starts e = record { good = λ o. on (length s.procs) (sym (length-changed t.proc _ s.procs)) }
      where
        procs1 : Procs
        procs1 = changed_at t.proc (λ (q : ProcState TaskName). record q { ready = drop 1 q.ready }) s.procs

        joins1 : (u : TaskName) → Some t ≡ Some u → IsJoining (T' u)
        joins1 u y = subst (λ v. IsJoining (T' v)) (same_Some t u y) (record { starts = starts; control = d; is = waits ∙ ap (λ a. Waits a d) e })

        on : (n : ℕ) → n ≡ length procs1 → Sound (procs1 ++ procs_from (Some t) (length procs1) starts) s.book.waiting (counts_from (length procs1) starts s.started) (told K (begins_from n starts) T')
        on n e = subst (λ n. Sound (procs1 ++ procs_from (Some t) (length procs1) starts) s.book.waiting (counts_from (length procs1) starts s.started) (told K (begins_from n starts) T')) (sym e) (more_procs (Some t) starts procs1 s.book.waiting s.started T' (left (λ q. record q { ready = drop 1 q.ready }) (λ q. refl) (λ q. refl)) joins1)

    -- where the world is sound with this task waiting, and a proc ended that u waited for
    abbrev AfterEnd : Ended TaskName → Type 0
    AfterEnd e = Sound e.procs s.book.waiting s.started (told K (join_told e.woke) T')

    end_if : (b : Bool) (x y : Ended TaskName) → (b ≡ true → AfterEnd x) → (b ≡ false → AfterEnd y) → AfterEnd (cond b x y)
    end_if true x y h k = h refl
    end_if false x y h k = k refl

    good_joins : (procs : Procs) → Sound procs s.book.waiting s.started T' → (o : Option TaskName) → ((u : TaskName) → o ≡ Some u → IsJoining (T' u)) → AfterEnd (joins same_task (λ (u : TaskName). u.proc) procs o)
    good_joins procs sx None j = sx
    good_joins procs sx (Some u) j =
        end_if (has_branches same_task (λ (u : TaskName). u.proc) u procs) (record { procs = procs; proc_ended = true; woke = None }) (record { procs = joins_ready u.proc u procs; proc_ended = true; woke = Some u }) (λ _. sx) joined
      where
        joining : IsJoining (T' u)
        joining = j u refl

        others : (ws : Offers) → AllByRecursion (λ (o : Offer TalkName). IsTalking o (T' o.by.task)) ws → AllByRecursion (λ (o : Offer TalkName). o.by.task ≢ u) ws
        others [] h = tt
        others (o ∷ os) h = ((λ e. let a = h.0.is in let b = joining.is in let y = ap T' e in cc), others os h.1)

        joined : has_branches same_task (λ (u : TaskName). u.proc) u procs ≡ false → Sound (joins_ready u.proc u procs) s.book.waiting s.started (told K ((u, Answered []) ∷ []) T')
        joined h =
            wakes_up procs s.book.waiting s.started T' _ sx u (Par joining.starts) joining.control _ s.book.waiting joining.is (told_changed T' u [] (Par joining.starts) joining.control joining.is) (no_children u procs h) sx.waiting (others s.book.waiting sx.waiting)

    good_ends_proc : (procs : Procs) → Sound procs s.book.waiting s.started T' → (o : Option (ProcState TaskName)) → slice_get procs t.proc ≡ o → AfterEnd (ends_proc same_task (λ (u : TaskName). u.proc) procs t.proc o)
    good_ends_proc procs sx None e = sx
    good_ends_proc procs sx (Some r) e =
        end_if (r.live == 0) (joins same_task (λ (u : TaskName). u.proc) (without_parent t.proc procs) r.parent) (record { procs = procs; proc_ended = false; woke = None }) (λ _. good_joins (without_parent t.proc procs) (orphaned procs s.book.waiting s.started T' sx t.proc) r.parent (sx.procs t.proc r e).parent) (λ _. sx)

    good_end : Good (ends_task s t)
    good_end = record { good = λ o. good_ends_proc (loses_first t.proc s.procs) (left _ (λ q. refl) (λ q. refl)) _ refl }

    -- giving a channel up leaves the waiting list
    gives_up_waiting : (b : Book TalkName) (k : ℕ) (o : Option Channel) (x : Book TalkName) → gives_up_one b k o ≡ Ok x → b.waiting ≡ x.waiting
    gives_up_waiting b k None x e = ap (λ (b : Book TalkName). b.waiting) (same_ok _ _ e)
    gives_up_waiting b k (Some ch) x e = on ch.given_up (is_waited_for b k) e
      where
        on : (u v : Bool) → cond u (Err Chan) (cond v (Err Busy) (Ok (record b { channels = with_channel k without_values b.channels }))) ≡ Ok x → b.waiting ≡ x.waiting
        on true v e = absurd (cc)
        on false true e = absurd (cc)
        on false false e = ap (λ (b : Book TalkName). b.waiting) (same_ok _ _ e)

    good_gives_up : (k : ℕ) (r : Result (Book TalkName) Trap) → ((x : Book TalkName) → r ≡ Ok x → s.book.waiting ≡ x.waiting) → Good (or_trap s t r (λ book. answer (with_went (lost s k) (with_book book s)) t []))
    good_gives_up k (Ok x) h = good_answer _ [] refl (h x refl) refl
    good_gives_up k (Err trap) h = good_trapped _

    good_acts : (a : Act) → act ≡ a → Good (acts s t a)
    good_acts (FreeChan k) e = good_gives_up k (gives_up s.book k) (gives_up_waiting s.book k (channel s.book.channels k))
    good_acts End e = good_end
    good_acts (Proc start) e = search (good_if, good_trapped, good_proc)
    good_acts (Task start) e = search (good_if, good_trapped, good_task)
    good_acts (Par starts) e = search (good_if, good_trapped, good_par)
    good_acts (Talk bs) e = good_waits_for bs e
    good_acts a e = search (good_or_trap, good_if, good_trapped, good_answer)

    good_performs : (a : Act) (pick : ℕ) → act ≡ a → IfSome' Good (performs s t a pick)
    good_performs (Talk bs) pick e =
        talks_cases Good s t bs pick (good_trapped _) (λ _. good_waits_for bs e) (λ f nb g. good_goes f (fired_withdrawal s.book bs (talk_of s t) f pick g))
    good_performs a pick e = at_zero_cases Good s t pick _ (good_acts a e)

  -- ---- steps and runs

  abbrev pub SoundWorld : World K → Type 0
  SoundWorld w = w.shared.over ≡ None → Sound w.shared.procs w.shared.book.waiting w.shared.started w.tasks

  not_over : (p line : ℕ) (s : Shared) → (counted p line s).over ≡ None → s.over ≡ None
  not_over p line s h = on s.over h
    where
      on : (o : Option Over) → over_or o (end_by_lists s.procs) ≡ None → o ≡ None
      on None h = refl
      on (Some x) h = h

  -- the first ready task of a proc, with the proc
  pub record IsFirst (w : World K) (p : ℕ) (t : TaskName) : Type 0 where
    pub proc : ProcState TaskName
    pub rest : List TaskName
    pub at : slice_get w.shared.procs p ≡ Some proc
    pub is : proc.ready ≡ t ∷ rest

  pub is_first : (w : World K) (p : ℕ) (t : TaskName) → first_ready w.shared.procs p ≡ Some t → IsFirst w p t
  is_first w p t f = on (slice_get w.shared.procs p) refl f
    where
      of : (q : ProcState TaskName) → slice_get w.shared.procs p ≡ Some q → (l : List TaskName) → q.ready ≡ l → first_of l ≡ Some t → IsFirst w p t
      of q at [] is h = absurd (cc)
      of q at (u ∷ rest) is h = record { proc = q; rest = rest; at = at; is = is ∙ ap (λ u. u ∷ rest) (same_Some u t h) }

      on : (x : Option (ProcState TaskName)) → slice_get w.shared.procs p ≡ x → option_and_then (λ (q : ProcState TaskName). first_of q.ready) x ≡ Some t → IsFirst w p t
      on None at h = absurd (cc)
      on (Some q) at h = of q at q.ready refl h

  -- the first ready task of a sound world is one of its proc, and goes on
  pub first_is_ready : (w : World K) (p : ℕ) (t : TaskName) → SoundWorld w → w.shared.over ≡ None → first_ready w.shared.procs p ≡ Some t → IsReady w.tasks p t
  first_is_ready w p t s o f = let x = is_first w p t f in (subst (AllByRecursion (IsReady w.tasks p)) x.is ((s o).procs p x.proc x.at).ready).0

  pub sound_step : (w v : World K) (e : Entry) → SoundWorld w → step K w e ≡ Some v → SoundWorld v
  sound_step w v e s h =
      let x = step_by K w v e h in
      let r = first_is_ready w e.proc x.task s x.over x.first in
      let a = K.ask x.control (w.privates x.task.proc) in
      let f = subst (λ p. IsFirst w p x.task) (sym r.home) (is_first w e.proc x.task x.first) in
      let g = got_some (Good w.shared w.tasks x.task a.act x.control a.control (s x.over) f.proc f.rest f.at f.is x.goes_on) _ x.effect (good_performs w.shared w.tasks x.task a.act x.control a.control (s x.over) f.proc f.rest f.at f.is x.goes_on a.act e.pick refl) x.comes in
      subst SoundWorld x.is (λ n. g.good (not_over x.task.proc a.line x.effect.shared n))

  pub sound_opening : (region : ℕ) (globals : List (List ℕ)) (start : Start) → SoundWorld (opening K region globals start)
  sound_opening region globals start = on (with_globals region globals [])
    where
      sound : Sound ([] ++ procs_from None 0 (start ∷ [])) [] (counts_from 0 (start ∷ []) (λ _. 0)) (told K (begins_from 0 (start ∷ [])) (λ _. Absent))
      sound = more_procs None (start ∷ []) [] [] (λ _. 0) (λ _. Absent) (record { procs = λ p q g. absurd (cc); waiting = tt; absent = λ t le. refl; unstarted = λ p le. refl }) (λ u e. absurd (cc))

      on : (o : Option (List Live)) → (opening_with region o).over ≡ None → Sound (opening_with region o).procs (opening_with region o).book.waiting (opening_with region o).started (at_task (first_task 0) (Goes (K.start start)) (λ _. Absent))
      on None h = absurd (cc)
      on (Some store) h = sound

  pub sound_run : (region : ℕ) (globals : List (List ℕ)) (start : Start) (h : List Entry) (w : World K) → run K h (Some (opening K region globals start)) ≡ Some w → SoundWorld w
  sound_run region globals start h w r = along K SoundWorld sound_step h _ w (sound_opening region globals start) r

  pub is_ready_to_go : IsReadyToGo K
  is_ready_to_go region globals start h w p t r o f = let x = first_is_ready w p t (sound_run region globals start h w r) o f in (x.home, x.going)

  step_keeps : (w v : World K) (e : Entry) (p : ℕ) (t : TaskName) → SoundWorld w → step K w e ≡ Some v → p ≢ e.proc → first_ready w.shared.procs p ≡ Some t → IsKept K w v p t
  step_keeps w v e p t s st ne f =
      let x = step_by K w v e st in
      let mine = first_is_ready w e.proc x.task s x.over x.first in
      let other = first_is_ready w p t s x.over f in
      let l = step_local K w v e x in
      let apart : p ≢ x.task.proc = λ y. ne (y ∙ mine.home) in record {
        first = l.first p t apart f;
        control = l.control t other.going.control (λ y. apart (sym other.home ∙ ap (λ (u : TaskName). u.proc) y)) other.going.is ∙ sym other.going.is;
        privates = l.privates p apart;
      }

  pub is_local_everywhere : IsLocalEverywhere K
  is_local_everywhere region globals start h w v e p t r st ne f = step_keeps w v e p t (sound_run region globals start h w r) st ne f

  keeps_along : (h : List Entry) (w v : World K) (p : ℕ) (t : TaskName) → SoundWorld w → run K h (Some w) ≡ Some v → AllByRecursion (λ (e : Entry). p ≢ e.proc) h → first_ready w.shared.procs p ≡ Some t → IsKept K w v p t
  keeps_along [] w v p t s r ne f = let same : w ≡ v = same_Some w v r in subst (λ v. IsKept K w v p t) same (record { first = f; control = refl; privates = refl })
  keeps_along (e ∷ es) w v p t s r ne f = on (step K w e) refl r (λ x. keeps_along es x v p t)
    where
      on : (o : Option (World K)) → step K w e ≡ o → run K es o ≡ Some v → ((x : World K) → SoundWorld x → run K es (Some x) ≡ Some v → AllByRecursion (λ (e : Entry). p ≢ e.proc) es → first_ready x.shared.procs p ≡ Some t → IsKept K x v p t) → IsKept K w v p t
      on None st r later = absurd (let x = run_none K es in cc)
      on (Some x) st r later =
          let k = step_keeps w x e p t s st ne.0 f in
          let l = later x (sound_step w x e s st) r ne.1 k.first in
          record { first = l.first; control = l.control ∙ k.control; privates = l.privates ∙ k.privates }

  pub is_local_along : IsLocalAlong K
  is_local_along region globals start h more w v p t r st ne f = keeps_along more w v p t (sound_run region globals start h w r) st ne f
