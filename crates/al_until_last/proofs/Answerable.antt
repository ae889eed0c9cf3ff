-- Who is told an answer waits for an action that has one: the task that asked, a talker whose talk goes, or the parent of a
-- par.
use Rattle.std.proofs.Common.{◌≡◌, ℕ, zero, suc, ◌+◌, List, [], ◌∷◌, Bool, true, false, cond, ◌==◌, length, Option, Some, None, Result, Ok, Err, refl, sym, ap, ◌∙◌, subst}
use Rattle.std.specs.Prelude.{slice_get}
use Rattle.std.specs.List.{AllByRecursion}
use Rattle.std.proofs.lemmas.Option.{same_Some}
use Rattle.al_base.specs.declared.trap.Trap.{Trap}
use Rattle.al_base.specs.declared.trap.Trap.TheVariants.{Tasks}
use Rattle.al_event.specs.declared.act.Start.{Start}
use Rattle.al_event.specs.declared.act.Act.{Act}
use Rattle.al_event.specs.declared.act.Act.TheVariants.{Load, Store, Alloc, Free, NewChan, FreeChan, CanRecv, CanSend, Talk, Proc, Task, Par, Print, Terminate, Pause, End}
use Rattle.al_event.specs.declared.act.Act.TheVariants as variant
use Rattle.al_world.specs.Channels.{Offer}
use Rattle.al_world.specs.Talks.{Woken}
use Rattle.al_world.specs.Procs.{ProcState, Ended, has_branches, joins, ends_proc, loses_first, without_parent, joins_ready}
use Rattle.al_world.specs.World.{TaskName, TalkName, same_task, Shared, Held, Goes, Waits, Answered, Effect, World, at_task}
use Rattle.al_world.specs.Control.{Kind}
use Rattle.al_world.specs.Actions.{acts, performs, or_trap, wake_told, talk_of, trapped, begins_from, join_told, starts_proc, starts_one_task, starts_par}
use Rattle.al_world.specs.Sound.{IsTalking, IsJoining, Sound}
use Rattle.al_world.proofs.Lists.{all_at}
use Rattle.al_world.proofs.Cases.{IfSome', got_some, at_zero_cases, talks_cases}
use Rattle.al_world.proofs.Local.{Procs}
use Rattle.al_world.proofs.Sound.{Changed, changed_here, kept}
use Rattle.al_world.proofs.Roles.{set_changed, fired_withdrawal, Withdrawn, sound_run}
use Rattle.al_until_last.specs.UntilLast.{is_last, IsAnswerable, HaveNoAnswer}

the_act : {C : Type 0} (a b : Act) (x y : C) → Waits a x ≡ Waits b y → a ≡ b
the_act a b x y e = cc

pub record TellsAnswerable {C : Type 0} (T : TaskName → Held C) (e : Effect) : Type 0 where
  pub told : AllByRecursion (IsAnswerable T) e.told

module _ {C : Type 0} (s : Shared) (T : TaskName → Held C) (t : TaskName) (act : Act) (c d : C) (sound : Sound s.procs s.book.waiting s.started T) (first : (p : ℕ) (q : ProcState TaskName) → slice_get (loses_first t.proc s.procs) p ≡ Some q → (u : TaskName) → q.parent ≡ Some u → IsJoining (T u)) (going : T t ≡ Goes c) where
  abbrev T' : TaskName → Held C
  T' = at_task t (Waits act d) T

  changed : Changed T T' t (Waits act d)
  changed = set_changed T t (Waits act d)

  own : (words : List ℕ) → is_last act ≡ false → IsAnswerable T' (t, Answered words)
  own words e a x w = let same : act ≡ a = the_act act a d x (sym (changed_here T T' t _ changed) ∙ w) in subst (λ a. is_last a ≡ false) same e

  none : (x : Shared) → TellsAnswerable T' (record { shared = x; told = [] })
  none x = record { told = tt }

  one : (x : Shared) (words : List ℕ) → is_last act ≡ false → TellsAnswerable T' (record { shared = x; told = (t, Answered words) ∷ [] })
  one x words e = record { told = (own words e, tt) }

  either : (b : Bool) (x y : Effect) → TellsAnswerable T' x → TellsAnswerable T' y → TellsAnswerable T' (cond b x y)
  either true x y h k = h
  either false x y h k = k

  or_none : {X : Type 0} (r : Result X Trap) (f : X → Effect) → ((x : X) → TellsAnswerable T' (f x)) → TellsAnswerable T' (or_trap s t r f)
  or_none (Ok x) f h = h x
  or_none (Err trap) f h = record { told = tt }

  begins : (p : ℕ) (starts : List Start) → AllByRecursion (IsAnswerable T') (begins_from p starts)
  begins p [] = tt
  begins p (x ∷ xs) = (tt, begins (p + 1) xs)

  joined : (u : TaskName) → IsJoining (T u) → IsAnswerable T' (u, Answered [])
  joined u j a x w =
      let k : IsJoining (T' u) = kept IsJoining T T' t u _ changed (λ j. let y = j.is in cc) j in
      subst (λ a. is_last a ≡ false) (the_act (Par k.starts) a k.control x (sym k.is ∙ w)) refl

  abbrev EndAnswerable : Ended TaskName → Type 0
  EndAnswerable e = AllByRecursion (IsAnswerable T') (join_told e.woke)

  end_if : (b : Bool) (x y : Ended TaskName) → EndAnswerable x → EndAnswerable y → EndAnswerable (cond b x y)
  end_if true x y h k = h
  end_if false x y h k = k

  joins_answerable : (procs : Procs) (o : Option TaskName) → ((u : TaskName) → o ≡ Some u → IsJoining (T u)) → EndAnswerable (joins same_task (λ (u : TaskName). u.proc) procs o)
  joins_answerable procs None j = tt
  joins_answerable procs (Some u) j =
      end_if (has_branches same_task (λ (u : TaskName). u.proc) u procs) (record { procs = procs; proc_ended = true; woke = None }) (record { procs = joins_ready u.proc u procs; proc_ended = true; woke = Some u }) tt (joined u (j u refl), tt)

  ends_answerable : (o : Option (ProcState TaskName)) → slice_get (loses_first t.proc s.procs) t.proc ≡ o → EndAnswerable (ends_proc same_task (λ (u : TaskName). u.proc) (loses_first t.proc s.procs) t.proc o)
  ends_answerable None e = tt
  ends_answerable (Some r) e =
      end_if (r.live == 0) (joins same_task (λ (u : TaskName). u.proc) (without_parent t.proc (loses_first t.proc s.procs)) r.parent) (record { procs = loses_first t.proc s.procs; proc_ended = false; woke = None }) (joins_answerable _ r.parent (first t.proc r e)) tt

  woken : (o : Option (Woken TalkName)) (now : _) → Withdrawn s.book.waiting o now → AllByRecursion (IsAnswerable T') (wake_told o)
  woken None now h = tt
  woken (Some w) now h = (here, tt)
    where
      talks : IsTalking h.0 (T' h.0.by.task)
      talks =
          kept (IsTalking h.0) T T' t h.0.by.task _ changed (λ j. let y = j.is in cc) (all_at (λ (o : Offer TalkName). IsTalking o (T o.by.task)) s.book.waiting h.0 sound.waiting h.1)

      here : (a : Act) (x : C) → T' w.by.task ≡ Waits a x → is_last a ≡ false
      here a x e =
          let at_offer : T' h.0.by.task ≡ Waits a x = subst (λ (n : TalkName). T' n.task ≡ Waits a x) h.2 e in
          subst (λ a. is_last a ≡ false) (the_act (Talk talks.branches) a talks.control x (sym talks.is ∙ at_offer)) refl

  answered : (a : Act) → act ≡ a → is_last a ≡ false → is_last act ≡ false
  answered a e h = subst (λ a. is_last a ≡ false) (sym e) h

  answerable_acts : (a : Act) → act ≡ a → TellsAnswerable T' (acts s t a)
  answerable_acts (Load at size) e = let q : is_last act ≡ false = answered _ e refl in search (or_none, one, q)
  answerable_acts (Store at size word) e = let q : is_last act ≡ false = answered _ e refl in search (or_none, one, q)
  answerable_acts (Alloc bytes kind) e = let q : is_last act ≡ false = answered _ e refl in search (or_none, one, q)
  answerable_acts (Free at kind) e = let q : is_last act ≡ false = answered _ e refl in search (or_none, one, q)
  answerable_acts (NewChan capacity words) e = one _ _ (answered _ e refl)
  answerable_acts (FreeChan chan) e = let q : is_last act ≡ false = answered _ e refl in search (or_none, one, q)
  answerable_acts (CanRecv chan) e = let q : is_last act ≡ false = answered _ e refl in search (or_none, one, q)
  answerable_acts (CanSend chan) e = let q : is_last act ≡ false = answered _ e refl in search (or_none, one, q)
  answerable_acts (Talk bs) e = none _
  answerable_acts (Proc start) e = either _ (trapped s t Tasks) (starts_proc s t start) (none _) (record { told = (own [] (answered _ e refl), begins (length s.procs) (start ∷ [])) })
  answerable_acts (Task start) e = either _ (trapped s t Tasks) (starts_one_task s t start) (none _) (record { told = (own [] (answered _ e refl), (tt, tt)) })
  answerable_acts (Par starts) e = either _ (trapped s t Tasks) (starts_par s t starts) (none _) (record { told = begins (length s.procs) starts })
  answerable_acts (Print text) e = one _ _ (answered _ e refl)
  answerable_acts (Terminate status) e = none _
  answerable_acts Pause e = one _ _ (answered _ e refl)
  answerable_acts (variant.Trap trap) e = none _
  answerable_acts End e = record { told = ends_answerable _ refl }

  answerable_cases : (pick : ℕ) (a : Act) → act ≡ a → IfSome' (TellsAnswerable T') (performs s t a pick)
  answerable_cases pick (Talk bs) e =
      talks_cases (TellsAnswerable T') s t bs pick (record { told = tt }) (λ fine. record { told = tt }) (λ f fine g. record { told = (own (f.branch ∷ f.words) (answered (Talk bs) e refl), woken f.woke f.book.waiting (fired_withdrawal s.book bs (talk_of s t) f pick g).withdrawn) })
  answerable_cases pick a e = at_zero_cases (TellsAnswerable T') s t pick _ (answerable_acts a e)

  -- what an action tells under a pick
  pub answerable_performs : (pick : ℕ) → IfSome' (TellsAnswerable T') (performs s t act pick)
  answerable_performs pick = answerable_cases pick act refl

-- after its first task left, a proc has the parent that it had
pub parent_stays : (procs : Procs) (k : ℕ) (T : TaskName → Type 0) → ((p : ℕ) (q : ProcState TaskName) → slice_get procs p ≡ Some q → (u : TaskName) → q.parent ≡ Some u → T u) → (p : ℕ) (q : ProcState TaskName) → slice_get (loses_first k procs) p ≡ Some q → (u : TaskName) → q.parent ≡ Some u → T u
parent_stays [] k T h p q g u e = absurd (cc)
parent_stays (r ∷ rs) zero T h zero q g u e = let same = same_Some _ q g in h 0 r refl u (ap (λ (q : ProcState TaskName). q.parent) same ∙ e)
parent_stays (r ∷ rs) zero T h (suc p) q g u e = h (suc p) q g u e
parent_stays (r ∷ rs) (suc k) T h zero q g u e = h 0 q g u e
parent_stays (r ∷ rs) (suc k) T h (suc p) q g u e = parent_stays rs k T (λ p q g. h (suc p) q g) p q g u e

-- whatever an entry of a sound world tells
pub tells_answerable : (K : Kind) (w : World K) (t : TaskName) (c : K.Control) (pick : ℕ) → Sound w.shared.procs w.shared.book.waiting w.shared.started w.tasks → w.tasks t ≡ Goes c → IfSome' (TellsAnswerable (at_task t (Waits (K.ask c (w.privates t.proc)).act (K.ask c (w.privates t.proc)).control) w.tasks)) (performs w.shared t (K.ask c (w.privates t.proc)).act pick)
tells_answerable K w t c pick s going =
    answerable_performs w.shared w.tasks t (K.ask c (w.privates t.proc)).act c (K.ask c (w.privates t.proc)).control s (parent_stays w.shared.procs t.proc (λ u. IsJoining (w.tasks u)) (λ p q g. (s.procs p q g).parent)) going pick

pub have_no_answer : (K : Kind) → HaveNoAnswer K
have_no_answer K region globals start h w t c pick e r o f going done =
    (got_some (TellsAnswerable _) _ e (tells_answerable K w t c pick (sound_run K region globals start h w r o) going) done).told
