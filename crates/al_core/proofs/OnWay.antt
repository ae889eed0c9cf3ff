-- A world whose first ready tasks may be further on in their stretches does what the world itself does.
use Rattle.std.proofs.Common.{◌≡◌, ◌≢◌, ℕ, List, [], ◌∷◌, Option, Some, None, refl, sym, ap, ap₂, ◌∙◌, subst, ◌⊎◌, inl, inr}
use Rattle.std.proofs.lemmas.Option.{same_Some}
use Rattle.std.proofs.lemmas.Bool.Decides.{eqb_tells}
use Rattle.std.specs.Prelude.{◌==◌, true, false}
use Rattle.al_event.specs.declared.entry.Entry.{Entry}
use Rattle.al_world.specs.Procs.{first_ready}
use Rattle.al_world.specs.Control.{Asked, Kind}
use Rattle.al_world.specs.World.{TaskName, Held, Absent, Goes, Waits, World, same_task, Told, Answered, Begins, at_task, at_proc, told, told_one}
use Rattle.al_world.specs.Laws.{IsGoing}
use Rattle.al_world.proofs.Maps.{same_task_tells, at_task_cases, at_proc_cases}
use Rattle.al_world.proofs.Local.{IsStepBy, LeavesOthers, step_local}
use Rattle.al_core.specs.History.{asked_by}
use Rattle.al_core.specs.Stands.{IsOnItsWay}

module _ (K : Kind) where
  -- what a task holds after all were told depends on what it held alone
  told_at : (ms : List (TaskName × Told)) (f g : TaskName → Held K.Control) (n : TaskName) → f n ≡ g n → told K ms f n ≡ told K ms g n
  told_at [] f g n e = e
  told_at (m ∷ ms) f g n e = told_at ms _ _ n (one (same_task_tells n m.0))
    where
      one : ((same_task n m.0 ≡ true) × (n ≡ m.0)) ⊎ ((same_task n m.0 ≡ false) × (n ≢ m.0)) → at_task m.0 (told_one K m.1 (f m.0)) f n ≡ at_task m.0 (told_one K m.1 (g m.0)) g n
      one (inl x) = rw x.0 (ap (told_one K m.1) (subst (λ k. f k ≡ g k) x.1 e))
      one (inr x) = rw x.0 e

  -- a task that goes on goes on so
  told_going : (ms : List (TaskName × Told)) (f : TaskName → Held K.Control) (n : TaskName) (c : K.Control) → f n ≡ Goes c → told K ms f n ≡ Goes c
  told_going [] f n c e = e
  told_going (m ∷ ms) f n c e =
      told_going ms _ n c (at_task_cases (λ x. x ≡ Goes c) m.0 n _ f (λ y. one m.1 (f m.0) (ap f (sym y) ∙ e)) (λ _. e))
    where
      one : (x : Told) (h : Held K.Control) → h ≡ Goes c → told_one K x h ≡ Goes c
      one (Answered words) (Goes d) e = e
      one (Begins start) (Goes d) e = e
      one x Absent e = absurd (cc)
      one x (Waits a d) e = absurd (cc)

  -- a task that asks goes on
  pub asks_goes : (h : Held K.Control) (u : K.Privates) (a : Asked K.Control K.Privates) → asked_by K h u ≡ Some a → IsGoing h
  asks_goes (Goes c) u a e = record { control = c; is = refl }
  asks_goes (Waits act c) u a e = absurd (cc)
  asks_goes Absent u a e = absurd (cc)

  module _ (w v : World K) (e : Entry) (x : IsStepBy K w v e) (T : TaskName → Held K.Control) (U : ℕ → K.Privates)
      (way : (p : ℕ) → IsOnItsWay K w T U p)
      (going : (p : ℕ) (n : TaskName) → first_ready w.shared.procs p ≡ Some n → (n.proc ≡ p) × IsGoing (w.tasks n))
      (home : (p : ℕ) (n : TaskName) → first_ready v.shared.procs p ≡ Some n → n.proc ≡ p) where
    abbrev a : Asked K.Control K.Privates
    a = K.ask x.control (w.privates x.task.proc)

    -- the tasks and private globals that come of it
    abbrev pub tasks_after : TaskName → Held K.Control
    tasks_after = told K x.effect.told (at_task x.task (Waits a.act a.control) T)

    abbrev pub privates_after : ℕ → K.Privates
    privates_after = at_proc x.task.proc a.privates U

    tasks_same : (n : TaskName) → (n ≢ x.task → T n ≡ w.tasks n) → tasks_after n ≡ v.tasks n
    tasks_same n same =
        told_at x.effect.told _ _ n (on (same_task_tells n x.task)) ∙ ap (λ (v : World K). v.tasks n) x.is
      where
        on : ((same_task n x.task ≡ true) × (n ≡ x.task)) ⊎ ((same_task n x.task ≡ false) × (n ≢ x.task)) → at_task x.task (Waits a.act a.control) T n ≡ at_task x.task (Waits a.act a.control) w.tasks n
        on (inl y) = rw y.0 refl
        on (inr y) = rw y.0 (same y.1)

    abbrev mine : x.task.proc ≡ e.proc
    mine = (going e.proc x.task x.first).0

    -- the proc of the entry
    way_here : IsOnItsWay K v tasks_after privates_after x.task.proc
    way_here = record {
      others = λ n h f. all n h;
      rest = λ f. same;
      first = λ n f. ap₂ (asked_by K) (all n (home x.task.proc n f)) same;
    }
      where
        same : privates_after x.task.proc ≡ v.privates x.task.proc
        same = at_proc_cases (λ y. y ≡ v.privates x.task.proc) x.task.proc x.task.proc a.privates U (λ _. at_proc_cases (λ y. a.privates ≡ y) x.task.proc x.task.proc a.privates w.privates (λ _. refl) (λ ne. absurd (ne refl)) ∙ ap (λ (v : World K). v.privates x.task.proc) x.is) (λ ne. absurd (ne refl))

        all : (n : TaskName) → n.proc ≡ x.task.proc → tasks_after n ≡ v.tasks n
        all n h = tasks_same n (λ ne. (way x.task.proc).others n h (λ f. ne (same_Some _ _ (sym f ∙ subst (λ p. first_ready w.shared.procs p ≡ Some x.task) (sym mine) x.first))))

    -- another proc
    way_there : (q : ℕ) → q ≢ x.task.proc → IsOnItsWay K v tasks_after privates_after q
    way_there q ne = on (first_ready w.shared.procs q) refl
      where
        l : LeavesOthers K w v x.task
        l = step_local K w v e x

        same_u : privates_after q ≡ U q
        same_u = at_proc_cases (λ y. y ≡ U q) x.task.proc q a.privates U (λ y. absurd (ne y)) (λ _. refl)

        same_v : v.privates q ≡ w.privates q
        same_v = l.privates q ne

        away : (n : TaskName) → n.proc ≡ q → n ≢ x.task
        away n h y = ne (sym h ∙ ap (λ (n : TaskName). n.proc) y)

        others : (n : TaskName) → n.proc ≡ q → first_ready v.shared.procs q ≢ Some n → tasks_after n ≡ v.tasks n
        others n h f = tasks_same n (λ _. (way q).others n h (λ g. f (l.first q n ne g)))

        on : (o : Option TaskName) → first_ready w.shared.procs q ≡ o → IsOnItsWay K v tasks_after privates_after q
        on None f = record {
          others = others;
          rest = λ _. rest;
          first = λ n g. ap₂ (asked_by K) (tasks_same n (λ _. (way q).others n (home q n g) (λ h. absurd (let no = sym f ∙ h in cc)))) rest;
        }
          where
            rest : privates_after q ≡ v.privates q
            rest = same_u ∙ (way q).rest f ∙ sym same_v
        on (Some m) f = record {
          others = others;
          rest = λ g. absurd (let no = sym g ∙ l.first q m ne f in cc);
          first = λ n g. first n (same_Some _ _ (sym (l.first q m ne f) ∙ g));
        }
          where
            go : (m.proc ≡ q) × IsGoing (w.tasks m)
            go = going q m f

            first : (n : TaskName) → m ≡ n → asked_by K (tasks_after n) (privates_after q) ≡ asked_by K (v.tasks n) (v.privates q)
            first n is =
                let asks : asked_by K (T m) (U q) ≡ asked_by K (w.tasks m) (w.privates q) = (way q).first m f in
                let own : IsGoing (T m) = asks_goes (T m) (U q) (K.ask go.1.control (w.privates q)) (asks ∙ ap (λ h. asked_by K h (w.privates q)) go.1.is) in
                let there : at_task x.task (Waits a.act a.control) T m ≡ T m = at_task_cases (λ y. y ≡ T m) x.task m _ T (λ y. absurd (away m go.0 y)) (λ _. refl) in
                let mine : tasks_after m ≡ T m = told_going x.effect.told _ m own.control (there ∙ own.is) ∙ sym own.is in
                let theirs : v.tasks m ≡ w.tasks m = l.control m go.1.control (away m go.0) go.1.is ∙ sym go.1.is in
                subst (λ n. asked_by K (tasks_after n) (privates_after q) ≡ asked_by K (v.tasks n) (v.privates q)) is
                (ap₂ (asked_by K) mine same_u ∙ asks ∙ sym (ap₂ (asked_by K) theirs same_v))

    pub way_after : (q : ℕ) → IsOnItsWay K v tasks_after privates_after q
    way_after q = on (eqb_tells q x.task.proc)
      where
        on : ((q == x.task.proc ≡ true) × (q ≡ x.task.proc)) ⊎ ((q == x.task.proc ≡ false) × (q ≢ x.task.proc)) → IsOnItsWay K v tasks_after privates_after q
        on (inl y) = subst (IsOnItsWay K v tasks_after privates_after) (sym y.1) way_here
        on (inr y) = way_there q y.1
