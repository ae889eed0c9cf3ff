-- What holds of each world that a run comes to: each ready task goes on, each blocked one waits for a talk, each parent
-- for its par, and a task that was not started is absent.
use Rattle.std.proofs.Common.{◌≡◌, ◌≢◌, ℕ, zero, suc, ◌+◌, ◌<◌, ◌≤◌, List, [], ◌∷◌, ◌++◌, length, drop, Option, Some, None, true, false, ◌==◌, option_map, refl, sym, ap, ◌∙◌, subst, ◌⊎◌, inl, inr, arith, le_refl, length-append}
use Rattle.std.specs.Prelude.{slice_get}
use Rattle.std.specs.List.{AllByRecursion}
use Rattle.std.proofs.lemmas.Option.{same_Some, slice_get_within}
use Rattle.std.proofs.lemmas.Bool.Decides.{eqb_tells}
use Rattle.al_event.specs.declared.act.Branch.{Branch}
use Rattle.al_event.specs.declared.act.Start.{Start}
use Rattle.al_event.specs.declared.act.Act.{Act}
use Rattle.al_event.specs.declared.act.Act.TheVariants.{Talk, Par}
use Rattle.al_world.specs.Channels.{Offer, changed_at}
use Rattle.al_world.specs.Procs.{ProcState, new_proc}
use Rattle.al_world.specs.World.{TaskName, TalkName, Held, Absent, Goes, Waits, at_proc}
use Rattle.al_world.specs.Actions.{first_task}
use Rattle.al_world.specs.Laws.{IsGoing}
use Rattle.al_world.specs.Sound.{Offers, NoDup, IsTalking, IsJoining, IsReady, ProcOk, Sound}
use Rattle.al_world.proofs.Local.{Procs}
use Rattle.al_world.proofs.Lists.{all_to, all_append}
use Rattle.al_world.proofs.Maps.{get-changed-same, get-changed-other, at_proc_cases}

NoDup-append : (xs : List TaskName) (t : TaskName) → AllByRecursion (λ (u : TaskName). u ≢ t) xs → NoDup xs → NoDup (xs ++ t ∷ [])
NoDup-append [] t h d = (tt, tt)
NoDup-append (x ∷ xs) t h d = (all_append (λ (u : TaskName). x ≢ u) xs (t ∷ []) d.0 (h.0, tt), NoDup-append xs t h.1 d.1)

-- a change of one proc
at_changed : (P : ℕ → ProcState TaskName → Type 0) (procs : Procs) (k : ℕ) (f : ProcState TaskName → ProcState TaskName) → ((p : ℕ) (q : ProcState TaskName) → slice_get procs p ≡ Some q → p ≢ k → P p q) → ((q : ProcState TaskName) → slice_get procs k ≡ Some q → P k (f q)) → (p : ℕ) (q : ProcState TaskName) → slice_get (changed_at k f procs) p ≡ Some q → P p q
at_changed P procs k f other same p q g = on (eqb_tells p k)
  where
    of : (o : Option (ProcState TaskName)) → slice_get procs k ≡ o → option_map f o ≡ Some q → P k q
    of None e h = absurd (cc)
    of (Some r) e h = subst (P k) (same_Some _ _ h) (same r e)

    on : ((p == k ≡ true) × (p ≡ k)) ⊎ ((p == k ≡ false) × (p ≢ k)) → P p q
    on (inr e) = other p q (sym (get-changed-other k p f procs e.1) ∙ g) e.1
    on (inl e) = subst (λ p. P p q) (sym e.1) (of (slice_get procs k) refl (sym (get-changed-same k f procs) ∙ subst (λ p. slice_get (changed_at k f procs) p ≡ Some q) e.1 g))

pub length-changed : {X : Type 0} (k : ℕ) (f : X → X) (xs : List X) → length (changed_at k f xs) ≡ length xs
length-changed k f [] = refl
length-changed zero f (x ∷ xs) = refl
length-changed (suc k) f (x ∷ xs) = ap suc (length-changed k f xs)

get_append_one : {X : Type 0} (xs : List X) (x y : X) (k : ℕ) → slice_get (xs ++ x ∷ []) k ≡ Some y → (slice_get xs k ≡ Some y) ⊎ ((k ≡ length xs) × (x ≡ y))
get_append_one [] x y zero g = inr (refl, same_Some x y g)
get_append_one [] x y (suc k) g = absurd (cc)
get_append_one (z ∷ zs) x y zero g = inl g
get_append_one (z ∷ zs) x y (suc k) g = on (get_append_one zs x y k g)
  where
    on : (slice_get zs k ≡ Some y) ⊎ ((k ≡ length zs) × (x ≡ y)) → (slice_get zs k ≡ Some y) ⊎ ((suc k ≡ suc (length zs)) × (x ≡ y))
    on (inl e) = inl e
    on (inr e) = inr (ap suc e.0, e.1)

module _ {C : Type 0} where
  -- the two maps differ at one task at most, at which the second has h
  pub record Changed (T T' : TaskName → Held C) (t : TaskName) (h : Held C) : Type 0 where
    pub at : (v : TaskName) → ((v ≡ t) × (T' v ≡ h)) ⊎ ((v ≢ t) × (T' v ≡ T v))

  -- a fact on what a task holds that excludes what stood at the task that changes
  pub kept : (P : Held C → Type 0) (T T' : TaskName → Held C) (t v : TaskName) (h : Held C) → Changed T T' t h → (P (T t) → ⊥) → P (T v) → P (T' v)
  kept P T T' t v h c not_there k = on (c.at v)
    where
      on : ((v ≡ t) × (T' v ≡ h)) ⊎ ((v ≢ t) × (T' v ≡ T v)) → P (T' v)
      on (inl e) = absurd (not_there (subst (λ u. P (T u)) e.0 k))
      on (inr e) = subst P (sym e.1) k

  -- or that what stands there then has
  kept_or : (P : Held C → Type 0) (T T' : TaskName → Held C) (t v : TaskName) (h : Held C) → Changed T T' t h → P h → P (T v) → P (T' v)
  kept_or P T T' t v h c now k = on (c.at v)
    where
      on : ((v ≡ t) × (T' v ≡ h)) ⊎ ((v ≢ t) × (T' v ≡ T v)) → P (T' v)
      on (inl e) = subst P (sym e.1) now
      on (inr e) = subst P (sym e.1) k

  -- or at another task
  kept_other : (P : Held C → Type 0) (T T' : TaskName → Held C) (t v : TaskName) (h : Held C) → Changed T T' t h → v ≢ t → P (T v) → P (T' v)
  kept_other P T T' t v h c ne k = on (c.at v)
    where
      on : ((v ≡ t) × (T' v ≡ h)) ⊎ ((v ≢ t) × (T' v ≡ T v)) → P (T' v)
      on (inl e) = absurd (ne e.0)
      on (inr e) = subst P (sym e.1) k

  pub changed_here : (T T' : TaskName → Held C) (t : TaskName) (h : Held C) → Changed T T' t h → T' t ≡ h
  changed_here T T' t h c = on (c.at t)
    where
      on : ((t ≡ t) × (T' t ≡ h)) ⊎ ((t ≢ t) × (T' t ≡ T t)) → T' t ≡ h
      on (inl e) = e.1
      on (inr e) = absurd (e.0 refl)

  -- a task that becomes or stays one that goes on leaves the other ready tasks so
  ready_kept : (T T' : TaskName → Held C) (t : TaskName) (e : C) → Changed T T' t (Goes e) → (p : ℕ) (ts : List TaskName) → AllByRecursion (IsReady T p) ts → AllByRecursion (IsReady T' p) ts
  ready_kept T T' t e c p ts h =
      all_to _ _ (λ (u : TaskName) x. record { home = x.home; going = kept_or IsGoing T T' t u _ c (record { control = e; is = refl }) x.going }) ts h

  module _ (procs : Procs) (waiting : Offers) (started : ℕ → ℕ) (T T' : TaskName → Held C) (s : Sound procs waiting started T) where
    -- a task that went goes on again
    pub goes_again : (t : TaskName) (d e : C) → Changed T T' t (Goes e) → T t ≡ Goes d → Sound procs waiting started T'
    goes_again t d e c was = record {
      procs = λ p q g. let o = s.procs p q g in record {
        ready = ready_kept T T' t e c p q.ready o.ready;
        distinct = o.distinct;
        parent = λ u x. kept IsJoining T T' t u _ c (λ j. let a = j.is in cc) (o.parent u x);
      };
      waiting = all_to _ _ (λ (o : Offer TalkName) k. kept (IsTalking o) T T' t o.by.task _ c (λ j. let a = j.is in cc) k) waiting s.waiting;
      absent = λ u le. kept (λ x. x ≡ Absent) T T' t u _ c (λ j. cc) (s.absent u le);
      unstarted = s.unstarted;
    }

    -- the first ready task of a proc leaves its ready list, and waits
    pub leaves_list : (p : ℕ) (t : TaskName) (rest : List TaskName) (q : ProcState TaskName) (act : Act) (e : C) (f : ProcState TaskName → ProcState TaskName) → slice_get procs p ≡ Some q → q.ready ≡ t ∷ rest → Changed T T' t (Waits act e) → ((q : ProcState TaskName) → (f q).parent ≡ q.parent) → ((q : ProcState TaskName) → (f q).ready ≡ drop 1 q.ready) → Sound (changed_at p f procs) waiting started T'
    leaves_list p t rest q act e f at is c parent ready = record {
      procs = at_changed (ProcOk T') procs p f
          (λ k r g ne. let o = s.procs k r g in record {
            ready = elsewhere k r.ready ne o.ready;
            distinct = o.distinct;
            parent = λ u x. joining u (o.parent u x);
          })
          (λ r g. let o = s.procs p r g in let same : r ≡ q = same_Some r q (sym g ∙ at) in let l : r.ready ≡ t ∷ rest = ap (λ (r : ProcState TaskName). r.ready) same ∙ is in record {
            ready = let x = subst (AllByRecursion (IsReady T p)) l o.ready in let y = subst NoDup l o.distinct in
                subst (AllByRecursion (IsReady T' p)) (sym (ready r ∙ ap (λ (l : List TaskName). drop 1 l) l)) (both rest x.1 y.0);
            distinct = subst NoDup (sym (ready r ∙ ap (λ (l : List TaskName). drop 1 l) l)) (subst NoDup l o.distinct).1;
            parent = λ u x. joining u (o.parent u (sym (parent r) ∙ x));
          });
      waiting = all_to _ _ (λ (o : Offer TalkName) k. kept (IsTalking o) T T' t o.by.task _ c (λ j. let a = j.is in let b = was.going.is in cc) k) waiting s.waiting;
      absent = λ u le. kept (λ x. x ≡ Absent) T T' t u _ c (λ j. let b = was.going.is in cc) (s.absent u le);
      unstarted = λ k le. s.unstarted k (subst (λ n. n ≤ k) (length-changed p f procs) le);
    }
      where
        was : IsReady T p t
        was = (subst (AllByRecursion (IsReady T p)) is (s.procs p q at).ready).0

        joining : (u : TaskName) → IsJoining (T u) → IsJoining (T' u)
        joining u j = kept IsJoining T T' t u _ c (λ j. let a = j.is in let b = was.going.is in cc) j

        elsewhere : (k : ℕ) (ts : List TaskName) → k ≢ p → AllByRecursion (IsReady T k) ts → AllByRecursion (IsReady T' k) ts
        elsewhere k ts ne h =
            all_to _ _ (λ (u : TaskName) x. record { home = x.home; going = kept_other IsGoing T T' t u _ c (λ y. ne (sym x.home ∙ ap (λ (u : TaskName). u.proc) y ∙ was.home)) x.going }) ts h

        both : (ts : List TaskName) → AllByRecursion (IsReady T p) ts → AllByRecursion (λ (u : TaskName). t ≢ u) ts → AllByRecursion (IsReady T' p) ts
        both [] x y = tt
        both (u ∷ us) x y = (record { home = x.0.home; going = kept_other IsGoing T T' t u _ c (λ z. y.0 (sym z)) x.0.going }, both us x.1 y.1)

    -- a task that waits becomes ready, with its branches withdrawn, where no proc has it as its parent
    pub wakes_up : (u : TaskName) (act : Act) (d e : C) (left : Offers) → T u ≡ Waits act d → Changed T T' u (Goes e) → ((p : ℕ) (q : ProcState TaskName) → slice_get procs p ≡ Some q → q.parent ≢ Some u) → AllByRecursion (λ (o : Offer TalkName). IsTalking o (T o.by.task)) left → AllByRecursion (λ (o : Offer TalkName). o.by.task ≢ u) left → Sound (changed_at u.proc (λ q. record q { ready = q.ready ++ u ∷ [] }) procs) left started T'
    wakes_up u act d e left was c no_child talking others = record {
      procs = at_changed (ProcOk T') procs u.proc _
          (λ k r g ne. ok k r g)
          (λ r g. let o = s.procs u.proc r g in let o' = ok u.proc r g in record {
            ready = all_append _ r.ready (u ∷ []) o'.ready (record { home = refl; going = here }, tt);
            distinct = NoDup-append r.ready u (all_to (IsReady T u.proc) (λ (v : TaskName). v ≢ u) (λ v x y. let z = x.going.is in let w = ap T y in cc) r.ready o.ready) o.distinct;
            parent = o'.parent;
          });
      waiting = both left talking others;
      absent = λ v le. kept (λ x. x ≡ Absent) T T' u v _ c (λ j. cc) (s.absent v le);
      unstarted = λ k le. s.unstarted k (subst (λ n. n ≤ k) (length-changed u.proc _ procs) le);
    }
      where
        here : IsGoing (T' u)
        here = record { control = e; is = changed_here T T' u _ c }

        ok : (k : ℕ) (r : ProcState TaskName) → slice_get procs k ≡ Some r → ProcOk T' k r
        ok k r g = let o = s.procs k r g in record {
          ready = ready_kept T T' u e c k r.ready o.ready;
          distinct = o.distinct;
          parent = λ v y. kept_other IsJoining T T' u v _ c (λ z. no_child k r g (y ∙ ap Some z)) (o.parent v y);
        }

        both : (os : Offers) → AllByRecursion (λ (o : Offer TalkName). IsTalking o (T o.by.task)) os → AllByRecursion (λ (o : Offer TalkName). o.by.task ≢ u) os → AllByRecursion (λ (o : Offer TalkName). IsTalking o (T' o.by.task)) os
        both [] x y = tt
        both (o ∷ os) x y = (kept_other (IsTalking o) T T' u o.by.task _ c y.0 x.0, both os x.1 y.1)

    -- a task that was absent begins
    module _ (t : TaskName) (none : T t ≡ Absent) (e : C) (c : Changed T T' t (Goes e)) where
      begun_ok : (k : ℕ) (r : ProcState TaskName) → slice_get procs k ≡ Some r → ProcOk T' k r
      begun_ok k r g = let o = s.procs k r g in record {
        ready = ready_kept T T' t e c k r.ready o.ready;
        distinct = o.distinct;
        parent = λ v y. kept IsJoining T T' t v _ c (λ j. let a = j.is in cc) (o.parent v y);
      }

      begun_waiting : AllByRecursion (λ (o : Offer TalkName). IsTalking o (T' o.by.task)) waiting
      begun_waiting =
          all_to _ _ (λ (o : Offer TalkName) k. kept (IsTalking o) T T' t o.by.task _ c (λ j. let a = j.is in cc) k) waiting s.waiting

      begun_ready : IsReady T' t.proc t
      begun_ready = record { home = refl; going = record { control = e; is = changed_here T T' t _ c } }

      -- t is the next task of its proc, which has one more
      begun_absent : t.number ≡ started t.proc → (m : ℕ) → m ≡ t.number + 1 → (u : TaskName) → at_proc t.proc m started u.proc ≤ u.number → T' u ≡ Absent
      begun_absent is m n u le = on (c.at u)
        where
          below : u ≡ t → at_proc t.proc m started u.proc ≤ u.number → ⊥
          below y = at_proc_cases (λ (k : ℕ). k ≤ u.number → ⊥) t.proc u.proc m started (λ _ k. let z : u.number ≡ t.number = ap (λ (u : TaskName). u.number) y in absurd (omega arith)) (λ ne _. ne (ap (λ (u : TaskName). u.proc) y))

          more : started u.proc ≤ u.number
          more = at_proc_cases (λ (k : ℕ). k ≤ u.number → started u.proc ≤ u.number) t.proc u.proc m started (λ z k. let w : started u.proc ≡ started t.proc = ap started z in omega arith) (λ _ k. k) le

          on : ((u ≡ t) × (T' u ≡ Goes e)) ⊎ ((u ≢ t) × (T' u ≡ T u)) → T' u ≡ Absent
          on (inl y) = absurd (below y.0 le)
          on (inr y) = y.1 ∙ s.absent u more

    -- one more task in a proc
    pub one_more_task : (p : ℕ) (q : ProcState TaskName) (e : C) → slice_get procs p ≡ Some q → let t : TaskName = record { proc = p; number = started p } in Changed T T' t (Goes e) → Sound (changed_at p (λ q. record q { ready = q.ready ++ t ∷ []; live = q.live + 1 }) procs) waiting (at_proc p (started p + 1) started) T'
    one_more_task p q e at c = record {
      procs = at_changed (ProcOk T') procs p _
          (λ k r g ne. begun_ok t none e c k r g)
          (λ r g. let o = s.procs p r g in let o' = begun_ok t none e c p r g in record {
            ready = all_append _ r.ready (t ∷ []) o'.ready (begun_ready t none e c, tt);
            distinct = NoDup-append r.ready t (all_to (IsReady T p) (λ (v : TaskName). v ≢ t) (λ v x y. let z = x.going.is in let w = ap T y in let n = none in cc) r.ready o.ready) o.distinct;
            parent = o'.parent;
          });
      waiting = begun_waiting t none e c;
      absent = begun_absent t none e c refl (started p + 1) refl;
      unstarted = λ k le. at_proc_cases (λ n. n ≡ 0) p k (started p + 1) started (λ y. absurd (past k y le)) (λ _. s.unstarted k (subst (λ n. n ≤ k) (length-changed p _ procs) le));
    }
      where
        t : TaskName
        t = record { proc = p; number = started p }

        none : T t ≡ Absent
        none = s.absent t (le_refl _)

        past : (k : ℕ) → k ≡ p → length (changed_at p (λ (q : ProcState TaskName). record q { ready = q.ready ++ t ∷ []; live = q.live + 1 }) procs) ≤ k → ⊥
        past k y le =
            let n : length procs ≤ k = subst (λ n. n ≤ k) (length-changed p _ procs) le in
            let lt : p < length procs = slice_get_within procs p q at in
            absurd (omega arith)

    -- one more proc, with one task
    pub one_more_proc : (parent : Option TaskName) (e : C) → let t : TaskName = first_task (length procs) in Changed T T' t (Goes e) → ((u : TaskName) → parent ≡ Some u → IsJoining (T u)) → Sound (procs ++ new_proc parent t ∷ []) waiting (at_proc (length procs) 1 started) T'
    one_more_proc parent e c joins = record {
      procs = λ p q g. on p q (get_append_one procs (new_proc parent t) q p g);
      waiting = begun_waiting t none e c;
      absent = begun_absent t none e c (sym unstarted) 1 refl;
      unstarted = λ k le. at_proc_cases (λ n. n ≡ 0) (length procs) k 1 started (λ y. absurd (past k y le)) (λ _. s.unstarted k (let n = length-append procs (new_proc parent t ∷ []) in omega arith));
    }
      where
        t : TaskName
        t = first_task (length procs)

        unstarted : started (length procs) ≡ 0
        unstarted = s.unstarted (length procs) (le_refl _)

        none : T t ≡ Absent
        none = s.absent t (let u = unstarted in omega arith)

        past : (k : ℕ) → k ≡ length procs → length (procs ++ new_proc parent t ∷ []) ≤ k → ⊥
        past k y le = let n = length-append procs (new_proc parent t ∷ []) in absurd (omega arith)

        ok_new : ProcOk T' (length procs) (new_proc parent t)
        ok_new = record {
          ready = (begun_ready t none e c, tt);
          distinct = (tt, tt);
          parent = λ u y. kept IsJoining T T' t u _ c (λ j. let a = j.is in let n = none in cc) (joins u y);
        }

        on : (p : ℕ) (q : ProcState TaskName) → (slice_get procs p ≡ Some q) ⊎ ((p ≡ length procs) × (new_proc parent t ≡ q)) → ProcOk T' p q
        on p q (inl g) = begun_ok t none e c p q g
        on p q (inr g) = subst (λ p. ProcOk T' p q) (sym g.0) (subst (λ (q : ProcState TaskName). ProcOk T' (length procs) q) g.1 ok_new)

  -- no task waits for the proc any more
  pub orphaned : (procs : Procs) (waiting : Offers) (started : ℕ → ℕ) (T : TaskName → Held C) → Sound procs waiting started T → (p : ℕ) → Sound (changed_at p (λ q. record q { parent = None }) procs) waiting started T
  orphaned procs waiting started T s p = record {
    procs = at_changed (ProcOk T) procs p _ (λ k r g ne. s.procs k r g) (λ r g. let o = s.procs p r g in record { ready = o.ready; distinct = o.distinct; parent = λ u y. absurd (cc) });
    waiting = s.waiting;
    absent = s.absent;
    unstarted = λ k le. s.unstarted k (subst (λ n. n ≤ k) (length-changed p _ procs) le);
  }
