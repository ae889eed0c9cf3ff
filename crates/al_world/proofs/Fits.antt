-- Each answer of an effect fits the action that it answers.
use Rattle.std.proofs.Common.{◌≡◌, ℕ, zero, suc, ◌+◌, ◌^◌, ◌<◌, ◌≤◌, List, [], ◌∷◌, Bool, true, false, cond, ◌==◌, length, Option, Some, None, Result, Ok, Err, option_and_then, refl, sym, ap, ◌∙◌, ap₂, subst, subst₂, arith}
use Rattle.std.specs.Prelude.{slice_get}
use Rattle.std.specs.List.{AllByRecursion}
use Rattle.std.proofs.lemmas.Option.{same_Some}
use Rattle.al_base.specs.declared.trap.Trap.{Trap}
use Rattle.al_event.specs.Store.{Live, region_base, load, alloc_block, new_place, spans_of, with_block}
use Rattle.al_event.specs.declared.act.Block.{Block}
use Rattle.al_event.specs.declared.act.Block.TheVariants.{Global}
use Rattle.al_event.specs.declared.act.Branch.{Branch}
use Rattle.al_event.specs.declared.act.Start.{Start}
use Rattle.al_event.specs.declared.act.Act.{Act}
use Rattle.al_event.specs.declared.act.Act.TheVariants.{Load, Alloc, NewChan, CanRecv, CanSend, Talk, Proc, Task, Par, End}
use Rattle.al_event.specs.declared.entry.Entry.{Entry}
use Rattle.al_world.specs.Channels.{Offer, next_number}
use Rattle.al_world.specs.Talks.{Woken}
use Rattle.al_world.specs.Procs.{ProcState, Ended, has_branches, joins, ends_proc, loses_first, without_parent, joins_ready}
use Rattle.al_world.specs.Control.{Asked, Kind, cut, fitted}
use Rattle.al_world.specs.World.{TaskName, TalkName, same_task, World, Shared, Held, Goes, Waits, Answered, Effect, at_task}
use Rattle.al_world.specs.Actions.{acts, performs, or_trap, answer, with_store, wake_told, talk_of, trapped, word_of, begins_from, join_told, starts_proc, starts_one_task, starts_par}
use Rattle.al_base.specs.declared.trap.Trap.TheVariants.{Tasks}
use Rattle.al_world.specs.Step.{step, run, opening, opening_with, with_globals}
use Rattle.al_world.specs.Answers.{IsFit, IsProper, Propriety, StaysProper, AreBytes, AnswersFit}
use Rattle.al_world.specs.Alike.{Relation, Alike, AsksAlike}
use Rattle.al_world.proofs.Lift.{OnBoth, HeldAlike, WorldsAlike, step_alike, alike_openings}
use Rattle.al_world.proofs.Lists.{all_at}
use Rattle.al_world.proofs.Cases.{got_some, IfSome', at_zero_cases, talks_cases}
use Rattle.al_world.proofs.Runs.{along}
use Rattle.al_world.proofs.Local.{Procs, step_by}
use Rattle.al_world.specs.Sound.{IsTalking, IsJoining, Sound}
use Rattle.al_world.proofs.Sound.{Changed, changed_here, kept}
use Rattle.al_world.proofs.Roles.{set_changed, sound_run}
use Rattle.al_world.proofs.Fit.{HoldsBytes, cut_same, load_below, alloc_placed, in_order_all, fit_talk}
use Rattle.al_world.proofs.Fitting.{FitIn, KeepsFit, keeps_performs, fired_ok, WokeOk}

-- ---- along a run

-- controls that are the same and that there are
abbrev Same : {C U : Type 0} → Propriety C U → Relation C C U U
Same P = record {
  Going = λ c d. (c ≡ d) × P.Going c;
  Waiting = λ act c d. (c ≡ d) × P.Waiting act c;
  Private = λ u v. (u ≡ v) × P.Private u;
  IsStart = P.IsStart;
}

module _ (K : Kind) (P : Propriety K.Control K.Privates) (S : StaysProper K P) where
  alike : Alike K K (Same P)
  alike = record {
    asks = λ c d u v r s. asks_alike c d u v r s;
    resumes = λ act c d words r. (ap (λ c. K.resume c (fitted act words)) r.0, S.resumes act c words r.1);
    starts = λ start i. (refl, S.starts start i);
    fresh = (refl, S.fresh);
  }
    where
      asks_alike : (c d : K.Control) (u v : K.Privates) → (c ≡ d) × P.Going c → (u ≡ v) × P.Private u → AsksAlike (Same P) (K.ask c u) (K.ask d v)
      asks_alike c d u v r s =
          let e : K.ask c u ≡ K.ask d v = ap₂ K.ask r.0 s.0 in
          let a = S.asks c u r.1 s.1 in
          record { act = ap (λ (x : Asked K.Control K.Privates). x.act) e; line = ap (λ (x : Asked K.Control K.Privates). x.line) e; control = (ap (λ (x : Asked K.Control K.Privates). x.control) e, a.control); privates = (ap (λ (x : Asked K.Control K.Privates). x.privates) e, a.privates); starts = a.starts }

  -- the world is proper: what all can see, and each control and the private globals
  record FitWorld (w : World K) : Type 0 where
    seen : FitIn w.shared w.shared.entries
    good : WorldsAlike K K (Same P) alike w w

  going_good : (w : World K) (t : TaskName) (c : K.Control) → FitWorld w → w.tasks t ≡ Goes c → P.Going c
  going_good w t c f e = let h : HeldAlike K K (Same P) alike (Goes c) (Goes c) = subst (λ x. HeldAlike K K (Same P) alike x x) e (f.good.tasks t) in h.1

  fit_step : (w v : World K) (e : Entry) → FitWorld w → step K w e ≡ Some v → FitWorld v
  fit_step w v e f h = record {
    seen =
        let x = step_by K w v e h in
        let proper = (S.asks x.control (w.privates x.task.proc) (going_good w x.task x.control f x.goes_on) (f.good.privates x.task.proc).1).act in
        let k = got_some (KeepsFit w.shared) _ x.effect (keeps_performs w.shared x.task f.seen _ e.pick proper) x.comes in
        subst (λ (v : World K). FitIn v.shared v.shared.entries) x.is (subst (λ n. FitIn x.effect.shared (n + 1)) (sym k.counts) k.kept);
    good = on (step K w e) h (step_alike K K (Same P) alike w w e f.good);
  }
    where
      on : (o : Option (World K)) → o ≡ Some v → OnBoth (WorldsAlike K K (Same P) alike) o o → WorldsAlike K K (Same P) alike v v
      on None e r = absurd (cc)
      on (Some u) e r = subst (λ v. WorldsAlike K K (Same P) alike v v) (same_Some u v e) r

  globals_bytes : (region : ℕ) (globals : List (List ℕ)) (store new : List Live) → AllByRecursion AreBytes globals → AllByRecursion HoldsBytes store → with_globals region globals store ≡ Some new → AllByRecursion HoldsBytes new
  globals_bytes region [] store new g h e = subst (AllByRecursion HoldsBytes) (same_Some _ _ e) h
  globals_bytes region (bytes ∷ rest) store new g h e =
      on (new_place region (spans_of store) (length bytes)) e (λ at f. globals_bytes region rest (with_block (record { at = at; kind = Global; bytes = bytes }) store) new g.1 (in_order_all HoldsBytes (record { at = at; kind = Global; bytes = bytes }) store g.0 h) f)
    where
      on : (o : Option ℕ) → option_and_then (λ at. with_globals region rest (with_block (record { at = at; kind = Global; bytes = bytes }) store)) o ≡ Some new → ((at : ℕ) → with_globals region rest (with_block (record { at = at; kind = Global; bytes = bytes }) store) ≡ Some new → AllByRecursion HoldsBytes new) → AllByRecursion HoldsBytes new
      on None e later = absurd (cc)
      on (Some at) e later = later at e

  fit_opening : (region : ℕ) (globals : List (List ℕ)) (start : Start) → P.IsStart start → region ≤ 0x10000000 → AllByRecursion AreBytes globals → FitWorld (opening K region globals start)
  fit_opening region globals start i small g = record { seen = on (with_globals region globals []) refl; good = alike_openings K K (Same P) alike region globals start i }
    where
      on : (o : Option (List Live)) → with_globals region globals [] ≡ o → FitIn (opening_with region o) (opening_with region o).entries
      on None e = record { bytes = tt; proper = record { held = tt; offers = tt }; few = omega arith; small = small }
      on (Some store) e = record { bytes = globals_bytes region globals [] store g tt e; proper = record { held = tt; offers = tt }; few = omega arith; small = small }

  fit_run : (region : ℕ) (globals : List (List ℕ)) (start : Start) (h : List Entry) (w : World K) → P.IsStart start → region ≤ 0x10000000 → AllByRecursion AreBytes globals → run K h (Some (opening K region globals start)) ≡ Some w → FitWorld w
  fit_run region globals start h w i small g r = along K FitWorld fit_step h _ w (fit_opening region globals start i small g) r

-- ---- what an effect tells

module _ {C : Type 0} (s : Shared) (T : TaskName → Held C) (t : TaskName) (act : Act) (c d : C) (sound : Sound s.procs s.book.waiting s.started T) (first : (p : ℕ) (q : ProcState TaskName) → slice_get (loses_first t.proc s.procs) p ≡ Some q → (u : TaskName) → q.parent ≡ Some u → IsJoining (T u)) (going : T t ≡ Goes c) (q : FitIn s s.entries) (room : s.entries + 1 < 2 ^ 32) where
  abbrev T' : TaskName → Held C
  T' = at_task t (Waits act d) T

  changed : Changed T T' t (Waits act d)
  changed = set_changed T t (Waits act d)

  waits : T' t ≡ Waits act d
  waits = changed_here T T' t _ changed

  -- an answer to the task that asked
  fit_own : (words : List ℕ) → fitted act words ≡ words → IsFit T' (t, Answered words)
  fit_own words e a x w = let same : act ≡ a = the_act act a d x (sym waits ∙ w) in subst (λ a. fitted a words ≡ words) same e
    where
      the_act : (a b : Act) (x y : C) → Waits a x ≡ Waits b y → a ≡ b
      the_act a b x y e = cc

  record TellsFit (e : Effect) : Type 0 where
    told : AllByRecursion (IsFit T') e.told

  tells_none : (x : Shared) → TellsFit (record { shared = x; told = [] })
  tells_none x = record { told = tt }

  tells_if : (b : Bool) (x y : Effect) → TellsFit x → TellsFit y → TellsFit (cond b x y)
  tells_if true x y h k = h
  tells_if false x y h k = k

  tells_or_trap : {X : Type 0} (r : Result X Trap) (f : X → Effect) → ((x : X) → r ≡ Ok x → TellsFit (f x)) → TellsFit (or_trap s t r f)
  tells_or_trap (Ok x) f h = h x refl
  tells_or_trap (Err trap) f h = record { told = tt }

  tells_own : (x : Shared) (words : List ℕ) → fitted act words ≡ words → TellsFit (record { shared = x; told = (t, Answered words) ∷ [] })
  tells_own x words e = record { told = (fit_own words e, tt) }

  -- one word below m
  one_word : (m word : ℕ) → word < m → cut 1 m (word ∷ []) ≡ word ∷ []
  one_word m word lt = cut_same 1 m (word ∷ []) refl (lt, tt)

  begins_fit : (p : ℕ) (starts : List Start) → AllByRecursion (IsFit T') (begins_from p starts)
  begins_fit p [] = tt
  begins_fit p (x ∷ xs) = (tt, begins_fit (p + 1) xs)

  tells_load : (at size : ℕ) (r : Result ℕ Trap) → load s.store at size ≡ r → act ≡ Load at size → TellsFit (or_trap s t r (λ word. answer s t (word ∷ [])))
  tells_load at size (Ok word) l e = tells_own _ (word ∷ []) (rw e (one_word (256 ^ size) word (load_below s.store at size word q.bytes l)))
  tells_load at size (Err trap) l e = record { told = tt }

  tells_alloc : (bytes : ℕ) (kind : Block) (r : Result (ℕ × List Live) Trap) → alloc_block s.region s.store bytes kind ≡ r → act ≡ Alloc bytes kind → TellsFit (or_trap s t r (λ r. answer (with_store r.1 s) t (r.0 ∷ [])))
  tells_alloc bytes kind (Ok x) l e =
      let p : x.0 ≤ region_base + s.region = (alloc_placed s.region s.store bytes kind x q.bytes l).below in
      let small = q.small in
      tells_own _ (x.0 ∷ []) (rw e (one_word (2 ^ 32) x.0 (omega arith)))
  tells_alloc bytes kind (Err trap) l e = record { told = tt }

  tells_truth : (r : Result Bool Trap) → ((b : Bool) → fitted act (word_of b ∷ []) ≡ word_of b ∷ []) → TellsFit (or_trap s t r (λ b. answer s t (word_of b ∷ [])))
  tells_truth (Ok b) h = tells_own _ (word_of b ∷ []) (h b)
  tells_truth (Err trap) h = record { told = tt }

  truth_fits : (b : Bool) → cut 1 2 (word_of b ∷ []) ≡ word_of b ∷ []
  truth_fits true = one_word 2 1 (omega arith)
  truth_fits false = one_word 2 0 (omega arith)

  -- ---- ends

  joined_fit : (u : TaskName) → IsJoining (T u) → IsFit T' (u, Answered [])
  joined_fit u j a x w =
      let k : IsJoining (T' u) = kept IsJoining T T' t u _ changed (λ j. let y = j.is in cc) j in
      let same : Par k.starts ≡ a = the_act (Par k.starts) a k.control x (sym k.is ∙ w) in
      subst (λ a. fitted a [] ≡ []) same refl
    where
      the_act : (a b : Act) (x y : C) → Waits a x ≡ Waits b y → a ≡ b
      the_act a b x y e = cc

  abbrev EndFits : Ended TaskName → Type 0
  EndFits e = AllByRecursion (IsFit T') (join_told e.woke)

  end_if : (b : Bool) (x y : Ended TaskName) → EndFits x → EndFits y → EndFits (cond b x y)
  end_if true x y h k = h
  end_if false x y h k = k

  joins_fit : (procs : Procs) (o : Option TaskName) → ((u : TaskName) → o ≡ Some u → IsJoining (T u)) → EndFits (joins same_task (λ (u : TaskName). u.proc) procs o)
  joins_fit procs None j = tt
  joins_fit procs (Some u) j =
      end_if (has_branches same_task (λ (u : TaskName). u.proc) u procs) (record { procs = procs; proc_ended = true; woke = None }) (record { procs = joins_ready u.proc u procs; proc_ended = true; woke = Some u }) tt (joined_fit u (j u refl), tt)

  ends_fit : (o : Option (ProcState TaskName)) → slice_get (loses_first t.proc s.procs) t.proc ≡ o → EndFits (ends_proc same_task (λ (u : TaskName). u.proc) (loses_first t.proc s.procs) t.proc o)
  ends_fit None e = tt
  ends_fit (Some r) e =
      end_if (r.live == 0) (joins same_task (λ (u : TaskName). u.proc) (without_parent t.proc (loses_first t.proc s.procs)) r.parent) (record { procs = loses_first t.proc s.procs; proc_ended = false; woke = None }) (joins_fit _ r.parent (first t.proc r e)) tt

  -- ---- talks

  woken_fit : (o : Option (Woken TalkName)) → WokeOk s.book.waiting o → AllByRecursion (IsFit T') (wake_told o)
  woken_fit None h = tt
  woken_fit (Some w) h = (here, tt)
    where
      talks : IsTalking h.chosen (T' h.chosen.by.task)
      talks =
          kept (IsTalking h.chosen) T T' t h.chosen.by.task _ changed (λ j. let y = j.is in cc) (all_at (λ (o : Offer TalkName). IsTalking o (T o.by.task)) s.book.waiting h.chosen sound.waiting h.waits)

      the_act : (a b : Act) (x y : C) → Waits a x ≡ Waits b y → a ≡ b
      the_act a b x y e = cc

      fits : fitted (Talk talks.branches) (h.chosen.number ∷ w.words) ≡ h.chosen.number ∷ w.words
      fits = fit_talk talks.branches h.chosen.number h.chosen.branch w.words talks.at h.words

      there : (a : Act) (x : C) → T' h.chosen.by.task ≡ Waits a x → fitted a (h.chosen.number ∷ w.words) ≡ h.chosen.number ∷ w.words
      there a x e = let same : Talk talks.branches ≡ a = the_act _ a talks.control x (sym talks.is ∙ e) in subst (λ a. fitted a (h.chosen.number ∷ w.words) ≡ h.chosen.number ∷ w.words) same fits

      here : (a : Act) (x : C) → T' w.by.task ≡ Waits a x → fitted a (w.branch ∷ w.words) ≡ w.branch ∷ w.words
      here = subst₂ (λ (n : TalkName) k. (a : Act) (x : C) → T' n.task ≡ Waits a x → fitted a (k ∷ w.words) ≡ k ∷ w.words) (sym h.by) (sym h.branch) there

  tells_talks : (bs : List Branch) (pick : ℕ) → IsProper (Talk bs) → act ≡ Talk bs → IfSome' TellsFit (performs s t (Talk bs) pick)
  tells_talks bs pick p e =
      talks_cases TellsFit s t bs pick (record { told = tt }) (λ fine. record { told = tt })
      (λ f fine g.
      let k = fired_ok s.book q.proper (talk_of s t) bs p fine pick f g in
      record { told = (fit_own (f.branch ∷ f.words) (rw e (fit_talk bs f.branch k.branch_is f.words k.at k.words)), woken_fit f.woke k.woke) })

  -- what each action tells that is no talk
  abbrev Tells' : Act → Type 0
  Tells' (Talk bs) = Unit {0}
  Tells' a = TellsFit (acts s t a)

  tells_proc : (start : Start) → fitted act [] ≡ [] → TellsFit (starts_proc s t start)
  tells_proc start e = record { told = (fit_own [] e, begins_fit (length s.procs) (start ∷ [])) }

  tells_task : (start : Start) → fitted act [] ≡ [] → TellsFit (starts_one_task s t start)
  tells_task start e = record { told = (fit_own [] e, (tt, tt)) }

  tells_par : (starts : List Start) → TellsFit (starts_par s t starts)
  tells_par starts = record { told = begins_fit (length s.procs) starts }

  tells_acts : (a : Act) → act ≡ a → Tells' a
  tells_acts (Load at size) e = tells_load at size _ refl e
  tells_acts (Alloc bytes kind) e = tells_alloc bytes kind _ refl e
  tells_acts (NewChan capacity words) e = let few = q.few in tells_own _ _ (rw e (one_word (2 ^ 32) (next_number s.book) (omega arith)))
  tells_acts (CanRecv chan) e = tells_truth _ (λ b. rw e (truth_fits b))
  tells_acts (CanSend chan) e = tells_truth _ (λ b. rw e (truth_fits b))
  tells_acts (Talk bs) e = tt
  tells_acts (Proc start) e = tells_if _ (trapped s t Tasks) (starts_proc s t start) (tells_none _) (tells_proc start (rw e refl))
  tells_acts (Task start) e = tells_if _ (trapped s t Tasks) (starts_one_task s t start) (tells_none _) (tells_task start (rw e refl))
  tells_acts (Par starts) e = tells_if _ (trapped s t Tasks) (starts_par s t starts) (tells_none _) (tells_par starts)
  tells_acts End e = record { told = ends_fit _ refl }
  tells_acts a e = let none : fitted act [] ≡ [] = subst (λ x. fitted x [] ≡ []) (sym e) refl in search (tells_or_trap, tells_none, tells_own, none)

  tells_performs : (a : Act) (pick : ℕ) → IsProper a → act ≡ a → IfSome' TellsFit (performs s t a pick)
  tells_performs (Talk bs) pick p e = tells_talks bs pick p e
  tells_performs a pick p e = at_zero_cases TellsFit s t pick _ (tells_acts a e)

-- after its first task left, a proc has the parent that it had
parent_stays : (procs : Procs) (k : ℕ) (T : TaskName → Type 0) → ((p : ℕ) (q : ProcState TaskName) → slice_get procs p ≡ Some q → (u : TaskName) → q.parent ≡ Some u → T u) → (p : ℕ) (q : ProcState TaskName) → slice_get (loses_first k procs) p ≡ Some q → (u : TaskName) → q.parent ≡ Some u → T u
parent_stays [] k T h p q g u e = absurd (cc)
parent_stays (r ∷ rs) zero T h zero q g u e = let same = same_Some _ q g in h 0 r refl u (ap (λ (q : ProcState TaskName). q.parent) same ∙ e)
parent_stays (r ∷ rs) zero T h (suc p) q g u e = h (suc p) q g u e
parent_stays (r ∷ rs) (suc k) T h zero q g u e = h 0 q g u e
parent_stays (r ∷ rs) (suc k) T h (suc p) q g u e = parent_stays rs k T (λ p q g. h (suc p) q g) p q g u e

pub answers_fit : (K : Kind) (P : Propriety K.Control K.Privates) → AnswersFit K P
answers_fit K P S region globals start h w t c pick e i small g room r o f going x =
    let sound = sound_run K region globals start h w r o in
    let a = K.ask c (w.privates t.proc) in
    let q = fit_run K P S region globals start h w i small g r in
    let proper = (S.asks c (w.privates t.proc) (going_good K P S w t c q going) (q.good.privates t.proc).1).act in
    (got_some (TellsFit w.shared w.tasks t a.act c a.control sound (parent_stays w.shared.procs t.proc (λ u. IsJoining (w.tasks u)) (λ p q g. (sound.procs p q g).parent)) going q.seen room) _ e (tells_performs w.shared w.tasks t a.act c a.control sound _ going q.seen room a.act pick proper refl) x).told
