-- An entry of one proc leaves the first ready task of each other proc as it is.
use Rattle.std.proofs.Common.{◌≡◌, ◌≢◌, ℕ, zero, suc, List, [], ◌∷◌, ◌++◌, Bool, true, false, cond, ◌==◌, Option, Some, None, Result, Ok, Err, option_map, option_and_then, refl, sym, ap, ◌∙◌, subst}
use Rattle.std.specs.Prelude.{slice_get}
use Rattle.std.proofs.lemmas.Option.{same_Some}
use Rattle.al_base.specs.declared.trap.Trap.{Trap}
use Rattle.al_base.specs.declared.over.Over.{Over}
use Rattle.al_event.specs.declared.act.Act.{Act}
use Rattle.al_event.specs.declared.act.Act.TheVariants.{End}
use Rattle.al_event.specs.declared.entry.Entry.{Entry}
use Rattle.al_world.specs.Channels.{changed_at}
use Rattle.al_world.specs.Talks.{Woken, Fired}
use Rattle.al_world.specs.Procs.{ProcState, first_of, first_ready, joins_ready, without_parent, loses_first, joins, ends_proc, Ended}
use Rattle.al_world.specs.Control.{Asked, Kind}
use Rattle.al_world.specs.World.{TaskName, TalkName, same_task, World, Shared, Held, Absent, Goes, Waits, Told, Answered, Begins, Effect, told, told_one}
use Rattle.al_world.specs.Actions.{acts, performs, or_trap, goes, wakes}
use Rattle.al_world.specs.Step.{task_of, after, step_held, step}
use Rattle.al_world.proofs.Maps.{at_task_cases, at_proc_cases}
use Rattle.al_world.proofs.Cases.{got_some, IfSome', performs_cases}

abbrev pub Procs : Type 0
Procs = List (ProcState TaskName)

-- each proc other than p that has a first ready task keeps it
pub record Keeps (p : ℕ) (before now : Procs) : Type 0 where
  pub first : (q : ℕ) (t : TaskName) → q ≢ p → first_ready before q ≡ Some t → first_ready now q ≡ Some t

keeps_all : (p : ℕ) (procs : Procs) → Keeps p procs procs
keeps_all p procs = record { first = λ q t ne h. h }

first-append : (xs ys : List TaskName) (t : TaskName) → first_of xs ≡ Some t → first_of (xs ++ ys) ≡ Some t
first-append [] ys t h = absurd (cc)
first-append (x ∷ xs) ys t h = h

first-changed : (p : ℕ) (f : ProcState TaskName → ProcState TaskName) (procs : Procs) (q : ℕ) (t : TaskName) → q ≢ p → first_ready procs q ≡ Some t → first_ready (changed_at p f procs) q ≡ Some t
first-changed p f [] q t ne h = h
first-changed zero f (r ∷ rs) zero t ne h = absurd (ne refl)
first-changed zero f (r ∷ rs) (suc q) t ne h = h
first-changed (suc p) f (r ∷ rs) zero t ne h = h
first-changed (suc p) f (r ∷ rs) (suc q) t ne h = first-changed p f rs q t (λ e. ne (ap suc e)) h

first-more : (procs more : Procs) (q : ℕ) (t : TaskName) → first_ready procs q ≡ Some t → first_ready (procs ++ more) q ≡ Some t
first-more [] more q t h = absurd (let e : None ≡ Some t = h in cc)
first-more (r ∷ rs) more zero t h = h
first-more (r ∷ rs) more (suc q) t h = first-more rs more q t h

-- a task more at the end of any proc's ready list
first-joins : (p : ℕ) (u : TaskName) (procs : Procs) (q : ℕ) (t : TaskName) → first_ready procs q ≡ Some t → first_ready (joins_ready p u procs) q ≡ Some t
first-joins p u [] q t h = h
first-joins zero u (r ∷ rs) zero t h = first-append r.ready (u ∷ []) t h
first-joins zero u (r ∷ rs) (suc q) t h = h
first-joins (suc p) u (r ∷ rs) zero t h = h
first-joins (suc p) u (r ∷ rs) (suc q) t h = first-joins p u rs q t h

keeps_changed : (p : ℕ) (f : ProcState TaskName → ProcState TaskName) (before procs : Procs) → Keeps p before procs → Keeps p before (changed_at p f procs)
keeps_changed p f before procs k = record { first = λ q t ne h. first-changed p f procs q t ne (k.first q t ne h) }

keeps_more : (p : ℕ) (before procs more : Procs) → Keeps p before procs → Keeps p before (procs ++ more)
keeps_more p before procs more k = record { first = λ q t ne h. first-more procs more q t (k.first q t ne h) }

keeps_woken : (p r : ℕ) (u : TaskName) (before procs : Procs) → Keeps p before procs → Keeps p before (joins_ready r u procs)
keeps_woken p r u before procs k = record { first = λ q t ne h. first-joins r u procs q t (k.first q t ne h) }

keeps_if : (p : ℕ) (before : Procs) (b : Bool) (x y : Ended TaskName) → Keeps p before x.procs → Keeps p before y.procs → Keeps p before (cond b x y).procs
keeps_if p before true x y h k = h
keeps_if p before false x y h k = k

-- the end of proc p's first task
keeps_joins : (p : ℕ) (before procs : Procs) → Keeps p before procs → (o : Option TaskName) → Keeps p before (joins same_task (λ (u : TaskName). u.proc) procs o).procs
keeps_joins p before procs k None = k
keeps_joins p before procs k (Some u) =
    keeps_if p before _ (record { procs = procs; proc_ended = true; woke = None }) (record { procs = joins_ready u.proc u procs; proc_ended = true; woke = Some u }) k (keeps_woken p u.proc u before procs k)

keeps_ends : (p : ℕ) (before procs : Procs) → Keeps p before procs → (o : Option (ProcState TaskName)) → Keeps p before (ends_proc same_task (λ (u : TaskName). u.proc) procs p o).procs
keeps_ends p before procs k None = k
keeps_ends p before procs k (Some r) =
    keeps_if p before (r.live == 0) (joins same_task (λ (u : TaskName). u.proc) (without_parent p procs) r.parent) (record { procs = procs; proc_ended = false; woke = None }) (keeps_joins p before (without_parent p procs) (keeps_changed p _ before procs k) r.parent) k

-- the effect keeps the first ready tasks of the others
pub record Leaves (s : Shared) (p : ℕ) (e : Effect) : Type 0 where
  pub keeps : Keeps p s.procs e.shared.procs

module _ (s : Shared) (t : TaskName) where
  leaves_or_trap : {X : Type 0} (r : Result X Trap) (f : X → Effect) → ((x : X) → Leaves s t.proc (f x)) → Leaves s t.proc (or_trap s t r f)
  leaves_or_trap (Ok x) f h = h x
  leaves_or_trap (Err trap) f h = record { keeps = keeps_all t.proc s.procs }

  leaves_if : (b : Bool) (x y : Effect) → Leaves s t.proc x → Leaves s t.proc y → Leaves s t.proc (cond b x y)
  leaves_if true x y h k = h
  leaves_if false x y h k = k

  leaves_these : (e : Effect) → Keeps t.proc s.procs e.shared.procs → Leaves s t.proc e
  leaves_these e k = record { keeps = k }

  keeps_wakes : (o : Option (Woken TalkName)) → Keeps t.proc s.procs (wakes o s.procs)
  keeps_wakes None = keeps_all t.proc s.procs
  keeps_wakes (Some w) = keeps_woken t.proc w.by.task.proc w.by.task s.procs s.procs (keeps_all t.proc s.procs)

  leaves_goes : (f : Fired TalkName) → Leaves s t.proc (goes s t f)
  leaves_goes f = record { keeps = keeps_wakes f.woke }

  ruleset local = (leaves_if, leaves_or_trap, leaves_these, keeps_all, keeps_changed, keeps_more)

  leaves_acts : (act : Act) → Leaves s t.proc (acts s t act)
  leaves_acts End = record { keeps = keeps_ends t.proc s.procs (loses_first t.proc s.procs) (keeps_changed t.proc _ s.procs s.procs (keeps_all t.proc s.procs)) (slice_get (loses_first t.proc s.procs) t.proc) }
  leaves_acts act = search local

leaves_performs : (s : Shared) (t : TaskName) (act : Act) (pick : ℕ) → IfSome' (Leaves s t.proc) (performs s t act pick)
leaves_performs s t act pick =
    performs_cases (Leaves s t.proc) s t (record { keeps = keeps_all t.proc s.procs }) (λ bs k f nb e. leaves_goes s t f) act pick (leaves_acts s t act)

-- ---- the tasks

module _ (K : Kind) where
  told_one-goes : (m : Told) (h : Held K.Control) (c : K.Control) → h ≡ Goes c → told_one K m h ≡ Goes c
  told_one-goes (Answered words) (Waits a d) c e = absurd (cc)
  told_one-goes (Begins start) Absent c e = absurd (cc)
  told_one-goes m h c e = e

  -- nothing that is told changes a task that goes on
  told-goes : (ms : List (TaskName × Told)) (f : TaskName → Held K.Control) (t : TaskName) (c : K.Control) → f t ≡ Goes c → told K ms f t ≡ Goes c
  told-goes [] f t c h = h
  told-goes (m ∷ ms) f t c h =
      told-goes ms _ t c
      (at_task_cases (λ x. x ≡ Goes c) m.0 t _ f (λ e. told_one-goes m.1 (f m.0) c (ap f (sym e) ∙ h)) (λ ne. h))

  -- what an entry of task t leaves as it was
  pub record LeavesOthers (w v : World K) (t : TaskName) : Type 0 where
    pub first : (q : ℕ) (u : TaskName) → q ≢ t.proc → first_ready w.shared.procs q ≡ Some u → first_ready v.shared.procs q ≡ Some u
    pub control : (u : TaskName) (c : K.Control) → u ≢ t → w.tasks u ≡ Goes c → v.tasks u ≡ Goes c
    pub privates : (q : ℕ) → q ≢ t.proc → v.privates q ≡ w.privates q

  after_local : (w : World K) (t : TaskName) (a : Asked K.Control K.Privates) (e : Effect) → Leaves w.shared t.proc e → LeavesOthers w (after K w t a e) t
  after_local w t a e l = record {
    first = l.keeps.first;
    control = λ u c ne h.
        told-goes e.told _ u c
        (at_task_cases (λ x. x ≡ Goes c) t u _ w.tasks (λ e. absurd (ne e)) (λ _. h));
    privates = λ q ne. at_proc_cases (λ x. x ≡ w.privates q) t.proc q a.privates w.privates (λ e. absurd (ne e)) (λ _. refl);
  }

  -- a step is one of the first ready task of the entry's proc, in a world that is not over
  record IsStepOf (w v : World K) (e : Entry) : Type 0 where
    task : TaskName
    first : first_ready w.shared.procs e.proc ≡ Some task
    over : w.shared.over ≡ None
    held : step_held K w task e.pick (w.tasks task) ≡ Some v

  step_of : (w v : World K) (e : Entry) → step K w e ≡ Some v → IsStepOf w v e
  step_of w v e h = go w.shared.over refl h
    where
      on : (o : Option TaskName) → first_ready w.shared.procs e.proc ≡ o → w.shared.over ≡ None → option_and_then (λ (t : TaskName). step_held K w t e.pick (w.tasks t)) o ≡ Some v → IsStepOf w v e
      on None f o h = absurd (cc)
      on (Some t) f o h = record { task = t; first = f; over = o; held = h }

      go : (o : Option Over) → w.shared.over ≡ o → option_and_then (λ (t : TaskName). step_held K w t e.pick (w.tasks t)) (task_of w.shared o e.proc) ≡ Some v → IsStepOf w v e
      go (Some o) is h = absurd (cc)
      go None is h = on (first_ready w.shared.procs e.proc) refl is h

  -- what a step is: the control of the entry's task, and the effect of its action
  pub record IsStepBy (w v : World K) (e : Entry) : Type 0 where
    pub task : TaskName
    pub first : first_ready w.shared.procs e.proc ≡ Some task
    pub over : w.shared.over ≡ None
    pub control : K.Control
    pub goes_on : w.tasks task ≡ Goes control
    pub effect : Effect
    pub comes : performs w.shared task (K.ask control (w.privates task.proc)).act e.pick ≡ Some effect
    pub is : after K w task (K.ask control (w.privates task.proc)) effect ≡ v

  pub step_by : (w v : World K) (e : Entry) → step K w e ≡ Some v → IsStepBy w v e
  step_by w v e h = let x = step_of w v e h in held x.task x.first x.over (w.tasks x.task) refl x.held
    where
      asked : (t : TaskName) → first_ready w.shared.procs e.proc ≡ Some t → w.shared.over ≡ None → (c : K.Control) → w.tasks t ≡ Goes c → (o : Option Effect) → performs w.shared t (K.ask c (w.privates t.proc)).act e.pick ≡ o → option_map (after K w t (K.ask c (w.privates t.proc))) o ≡ Some v → IsStepBy w v e
      asked t f o c g None p h = absurd (cc)
      asked t f o c g (Some x) p h = record { task = t; first = f; over = o; control = c; goes_on = g; effect = x; comes = p; is = same_Some _ _ h }

      held : (t : TaskName) → first_ready w.shared.procs e.proc ≡ Some t → w.shared.over ≡ None → (k : Held K.Control) → w.tasks t ≡ k → step_held K w t e.pick k ≡ Some v → IsStepBy w v e
      held t f o (Goes c) g h = asked t f o c g _ refl h
      held t f o k g h = absurd (cc)

  pub step_local : (w v : World K) (e : Entry) (x : IsStepBy w v e) → LeavesOthers w v x.task
  step_local w v e x =
      subst (λ v. LeavesOthers w v x.task) x.is (after_local w x.task (K.ask x.control (w.privates x.task.proc)) x.effect (got_some (Leaves w.shared x.task.proc) _ x.effect (leaves_performs w.shared x.task _ e.pick) x.comes))
