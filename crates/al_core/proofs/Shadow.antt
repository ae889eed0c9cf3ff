-- Tasks of which some first ones are further on in their stretch are as sound as those of the world.
use Rattle.std.proofs.Common.{◌≡◌, ◌≢◌, ℕ, List, Option, Some, None, refl, sym, ap, ◌∙◌, subst, true, false, ◌⊎◌, inl, inr}
use Rattle.std.specs.List.{AllByRecursion}
use Rattle.std.proofs.lemmas.Option.{same_Some}
use Rattle.al_event.specs.declared.act.Act.{Act}
use Rattle.al_world.specs.Channels.{Offer}
use Rattle.al_world.specs.Procs.{first_ready}
use Rattle.al_world.specs.Control.{Kind}
use Rattle.al_world.specs.World.{TaskName, TalkName, same_task, Held, Waits, World, Told, Answered, Begins, at_task}
use Rattle.al_world.specs.Answers.{IsFit}
use Rattle.al_world.specs.Laws.{IsGoing}
use Rattle.al_world.proofs.Lists.{all_to}
use Rattle.al_world.proofs.Maps.{same_task_tells, at_task_cases}
use Rattle.al_world.proofs.Roles.{is_first}
use Rattle.al_world.specs.Sound.{IsTalking, IsJoining, IsReady, Sound}
use Rattle.al_core.specs.History.{asked_by}
use Rattle.al_core.specs.Stands.{IsOnItsWay}
use Rattle.al_core.proofs.OnWay.{asks_goes}

module _ (K : Kind) (w : World K) (T : TaskName → Held K.Control) (U : ℕ → K.Privates) (way : (p : ℕ) → IsOnItsWay K w T U p) (sound : Sound w.shared.procs w.shared.book.waiting w.shared.started w.tasks) where
  -- the first ready task of a proc goes on
  first_goes : (p : ℕ) (t : TaskName) → first_ready w.shared.procs p ≡ Some t → IsReady w.tasks p t
  first_goes p t f = let x = is_first K w p t f in (subst (AllByRecursion (IsReady w.tasks p)) x.is (sound.procs p x.proc x.at).ready).0

  -- so one that does not is the same in both
  same_others : (t : TaskName) → (IsGoing (w.tasks t) → ⊥) → T t ≡ w.tasks t
  same_others t not_going = (way t.proc).others t refl (λ f. not_going (first_goes t.proc t f).going)

  goes_too : (p : ℕ) (t : TaskName) → IsReady w.tasks p t → IsReady T p t
  goes_too p t r = on (first_ready w.shared.procs p) refl
    where
      same : first_ready w.shared.procs p ≢ Some t → IsReady T p t
      same ne =
          record { home = r.home; going = record { control = r.going.control; is = (way p).others t r.home ne ∙ r.going.is } }

      on : (o : Option TaskName) → first_ready w.shared.procs p ≡ o → IsReady T p t
      on None f = same (λ g. let no = sym f ∙ g in cc)
      on (Some m) f = of (same_task_tells m t)
        where
          of : ((same_task m t ≡ true) × (m ≡ t)) ⊎ ((same_task m t ≡ false) × (m ≢ t)) → IsReady T p t
          of (inl e) =
              record { home = r.home; going = asks_goes K (T t) (U p) (K.ask r.going.control (w.privates p)) ((way p).first t (f ∙ ap Some e.1) ∙ ap (λ h. asked_by K h (w.privates p)) r.going.is) }
          of (inr e) = same (λ g. e.1 (same_Some _ _ (sym f ∙ g)))

  pub sound_too : Sound w.shared.procs w.shared.book.waiting w.shared.started T
  sound_too = record {
    procs = λ p q g. let s = sound.procs p q g in record {
      ready = all_to (IsReady w.tasks p) (IsReady T p) (goes_too p) q.ready s.ready;
      distinct = s.distinct;
      parent = λ u e. let j = s.parent u e in subst IsJoining (sym (same_others u (λ g. let a = g.is in let b = j.is in cc))) j;
    };
    waiting = all_to (λ (o : Offer TalkName). IsTalking o (w.tasks o.by.task)) (λ (o : Offer TalkName). IsTalking o (T o.by.task)) (λ (o : Offer TalkName) j. subst (IsTalking o) (sym (same_others o.by.task (λ g. let a = g.is in let b = j.is in cc))) j) w.shared.book.waiting sound.waiting;
    absent = λ t le. let e = sound.absent t le in same_others t (λ g. let a = g.is in cc) ∙ e;
    unstarted = sound.unstarted;
  }

  -- a task that waits in them waits so in the world
  waits_so : (t : TaskName) (act : Act) (c : K.Control) → T t ≡ Waits act c → w.tasks t ≡ Waits act c
  waits_so t act c e = sym (same_others t going) ∙ e
    where
      going : IsGoing (w.tasks t) → ⊥
      going g = on (first_ready w.shared.procs t.proc) refl
        where
          same : first_ready w.shared.procs t.proc ≢ Some t → ⊥
          same ne = let a = sym e ∙ (way t.proc).others t refl ne ∙ g.is in absurd (cc)

          on : (o : Option TaskName) → first_ready w.shared.procs t.proc ≡ o → ⊥
          on None f = same (λ h. let no = sym f ∙ h in cc)
          on (Some m) f = of (same_task_tells m t)
            where
              of : ((same_task m t ≡ true) × (m ≡ t)) ⊎ ((same_task m t ≡ false) × (m ≢ t)) → ⊥
              of (inl y) =
                  let k = goes_too t.proc t (first_goes t.proc t (f ∙ ap Some y.1)) in
                  let a = k.going.is in
                  let b = sym e ∙ a in
                  absurd (cc)
              of (inr y) = same (λ h. y.1 (same_Some _ _ (sym f ∙ h)))

  -- and answers that fit there fit here
  module _ (n : TaskName) (x : Held K.Control) where
    fit_one : (k : TaskName × Told) → IsFit (at_task n x w.tasks) k → IsFit (at_task n x T) k
    fit_one (t, Answered words) h = λ act c e. h act c (on act c e (same_task_tells t n))
      where
        on : (act : Act) (c : K.Control) → at_task n x T t ≡ Waits act c → ((same_task t n ≡ true) × (t ≡ n)) ⊎ ((same_task t n ≡ false) × (t ≢ n)) → at_task n x w.tasks t ≡ Waits act c
        on act c e (inl y) =
            at_task_cases (λ z. z ≡ Waits act c) n t x w.tasks (λ _. at_task_cases (λ z. z ≡ Waits act c → x ≡ Waits act c) n t x T (λ _ f. f) (λ ne. absurd (ne y.1)) e) (λ ne. absurd (ne y.1))
        on act c e (inr y) =
            at_task_cases (λ z. z ≡ Waits act c) n t x w.tasks (λ f. absurd (y.1 f)) (λ _. waits_so t act c (at_task_cases (λ z. z ≡ Waits act c → T t ≡ Waits act c) n t x T (λ f. absurd (y.1 f)) (λ _ f. f) e))
    fit_one (t, Begins start) h = tt

    pub fits_too : (ms : List (TaskName × Told)) → AllByRecursion (IsFit (at_task n x w.tasks)) ms → AllByRecursion (IsFit (at_task n x T)) ms
    fits_too ms h = all_to (IsFit (at_task n x w.tasks)) (IsFit (at_task n x T)) fit_one ms h
