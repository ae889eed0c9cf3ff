-- Which procs can run.
use Rattle.std.proofs.Common.{◌≡◌, ℕ, suc, ◌*◌, ◌^◌, ◌<◌, ◌≤◌, List, [], ◌∷◌, length, Option, Some, None, option_map, refl, sym, ap, ap₂, ◌∙◌, subst, true, false, Bool, cond, not, ◌==◌, ◌&&◌, ◌||◌, ◌⊎◌, inl, inr, arith}
use Rattle.std.specs.Prelude.{nat_lt, is_none, is_some}
use Rattle.std.specs.Option.{option_map_or}
use Rattle.std.specs.List.{list_any}
use Rattle.std.proofs.lemmas.Bool.Decides.{leb_tells}
use Rattle.al_base.specs.declared.over.Over.{Over}
use Rattle.al_base.specs.declared.over.Over.TheVariants.{Done, Blocked}
use Rattle.al_event.specs.declared.entry.Entry.{Entry}
use Rattle.al_event.specs.declared.entry.Loan.{Loan}
use Rattle.al_event.specs.Store.{Live}
use Rattle.al_world.specs.Procs.{ProcState, first_ready, first_of, has_ready as proc_ready, live_tasks}
use Rattle.al_world.specs.Control.{Kind}
use Rattle.al_world.specs.World.{TaskName, Shared, World}
use Rattle.al_world.specs.Step.{step, opening_with, with_globals, over_or}
use Rattle.al_world.proofs.Local.{step_by}
use Rattle.al_world.proofs.Runs.{along}
use Rattle.rv_exec.specs.declared.run.Privates.{Privates as PrivatesFields}
use Rattle.rv_exec.specs.Machine.{machine}
use Rattle.al_core.specs.Opening.{globals_of}
use Rattle.al_core.specs.History.{History, away, is_of, is_away, is_free, has_ready}
use Rattle.al_core.specs.Stands.{Parts, Stands, AreTasks, task_at}
use Rattle.task_book.specs.Table.{at, lives, home_of, live_of, can_run}
use Rattle.al_core.proofs.Naming.{first_named, first_lives}
use Rattle.al_core.proofs.Standing.{seen_is}
use Rattle.al_core.proofs.Branching.{and_false}
use Rattle.al_core.proofs.Loans.{lent_in, lent-cons}

-- ---- a world that is not over has a ready task

module _ (K : Kind) where
  abbrev HasReady : World K → Type 0
  HasReady w = w.shared.over ≡ None → list_any proc_ready w.shared.procs ≡ true

  lists_ready : (o : Option Over) (a b : Bool) → over_or o (cond a None (cond b (Some Done) (Some Blocked))) ≡ None → a ≡ true
  lists_ready None true b e = refl
  lists_ready None false true e = absurd (cc)
  lists_ready None false false e = absurd (cc)
  lists_ready (Some x) a b e = absurd (cc)

  ready_step : (w v : World K) (e : Entry) → HasReady w → step K w e ≡ Some v → HasReady v
  ready_step w v e h s =
      let x = step_by K w v e s in
      subst HasReady x.is (λ o. lists_ready x.effect.shared.over (list_any proc_ready x.effect.shared.procs) (live_tasks x.effect.shared.procs == 0) o)

-- a proc with a ready task
pub record IsReadyProc (procs : List (ProcState TaskName)) : Type 0 where
  pub proc : ℕ
  pub task : TaskName
  pub first : first_ready procs proc ≡ Some task

ready_proc : (procs : List (ProcState TaskName)) → list_any proc_ready procs ≡ true → IsReadyProc procs
ready_proc [] e = absurd (cc)
ready_proc (q ∷ qs) e = on (λ k. ready_proc qs k) q.ready refl
  where
    on : (list_any proc_ready qs ≡ true → IsReadyProc qs) → (l : List TaskName) → q.ready ≡ l → IsReadyProc (q ∷ qs)
    on more [] f =
        let r = more (sym (ap (λ (l : List TaskName). nat_lt 0 (length l) || list_any proc_ready qs) f) ∙ e) in record { proc = suc r.proc; task = r.task; first = r.first }
    on more (t ∷ ts) f = record { proc = 0; task = t; first = ap first_of f }

module _ (h : History) (x : Parts) (s : Stands h x) (live : s.world.shared.over ≡ None) where
  pub some_ready : IsReadyProc s.world.shared.procs
  some_ready =
      ready_proc s.world.shared.procs (along (machine h.image) (HasReady (machine h.image)) (ready_step (machine h.image)) h.entries _ s.world (at_start (with_globals (h.region * 2 ^ 20) (globals_of h.image) [])) s.runs live)
    where
      at_start : (o : Option (List Live)) → (opening_with (h.region * 2 ^ 20) o).over ≡ None → list_any proc_ready (opening_with (h.region * 2 ^ 20) o).procs ≡ true
      at_start None e = refl
      at_start (Some store) e = refl

  abbrev A : AreTasks h.image s.world x.book.book x.table
  A = s.tasks live

  -- a proc has a ready task exactly where it has one in the table
  pub ready_same : (p : ℕ) → has_ready h p ≡ is_some (first_ready x.table.procs p)
  ready_same p =
      ap (λ (o : Option Shared). option_map_or (λ (v : Shared). is_some (first_ready v.procs p)) o false) (seen_is h x s) ∙ ap is_some (first_named A.named p) ∙ on (first_ready x.table.procs p)
    where
      on : (o : Option ℕ) → is_some (option_map (task_at A.name) o) ≡ is_some o
      on None = refl
      on (Some t) = refl

  none_some : {X : Type 0} (o : Option X) → is_some o ≡ true → is_none o ≡ false
  none_some None e = absurd (cc)
  none_some (Some y) e = refl

  some_none : {X : Type 0} (o : Option X) → is_none o ≡ false → is_some o ≡ true
  some_none None e = absurd (cc)
  some_none (Some y) e = refl

  both : (a b : Bool) → (a && b) ≡ true → (a ≡ true) × (b ≡ true)
  both true b e = (refl, e)
  both false b e = absurd (cc)

  -- one that can run is free
  pub can_free : (p : ℕ) → can_run x.table p ≡ true → is_free h p ≡ true
  can_free p can =
      let c = both (is_some (first_ready x.table.procs p)) (is_some (at x.table.privates p)) can in
      ap₂ (λ a b. not a && b) (sym (s.loans.lent p) ∙ and_false (nat_lt 0 (live_of x.table p)) _ (none_some (at x.table.privates p) c.1)) (ready_same p ∙ c.0)

  -- and where each proc with a task lives, one that is free can run
  module _ (homes : (t : ℕ) → lives x.table t ≡ true → 0 < live_of x.table (home_of x.table t)) (in_home : (p t : ℕ) → first_ready x.table.procs p ≡ Some t → home_of x.table t ≡ p) where
    first_alive : (p t : ℕ) → first_ready x.table.procs p ≡ Some t → 0 < live_of x.table p
    first_alive p t f = subst (λ q. 0 < live_of x.table q) (in_home p t f) (homes t (first_lives A.named p t f))

    positive_true : (n : ℕ) → 0 < n → nat_lt 0 n ≡ true
    positive_true n lt = on (leb_tells 1 n)
      where
        on : ((nat_lt 0 n ≡ true) × (1 ≤ n)) ⊎ ((nat_lt 0 n ≡ false) × (n < 1)) → nat_lt 0 n ≡ true
        on (inl y) = y.0
        on (inr y) = let z = y.1 in absurd (omega (arith, z, lt))

    -- a proc with a ready task that can't run is away
    ready_away : (p t : ℕ) → first_ready x.table.procs p ≡ Some t → can_run x.table p ≡ false → is_away h p ≡ true
    ready_away p t f can =
        sym (s.loans.lent p) ∙ ap₂ (λ a b. a && b) (positive_true (live_of x.table p) (first_alive p t f)) (none (at x.table.privates p) (sym (ap (λ (o : Option ℕ). is_some o && is_some (at x.table.privates p)) f) ∙ can))
      where
        none : (o : Option PrivatesFields) → is_some o ≡ false → is_none o ≡ true
        none None e = refl
        none (Some y) e = absurd (cc)

    pub free_can : (p : ℕ) → can_run x.table p ≡ false → is_free h p ≡ false
    free_can p can = on (first_ready x.table.procs p) refl
      where
        on : (o : Option ℕ) → first_ready x.table.procs p ≡ o → is_free h p ≡ false
        on None f = and_false (not (is_away h p)) _ (ready_same p ∙ ap is_some f)
        on (Some t) f = ap (λ b. not b && has_ready h p) (ready_away p t f can)

    pub some_away : ((p : ℕ) → can_run x.table p ≡ false) → 0 < away h
    some_away none =
        let r = some_ready in on r.proc (first_ready x.table.procs r.proc) refl (sym (ap is_some (sym (first_named A.named r.proc) ∙ r.first)))
      where
        counted : (p : ℕ) (loans : List (Option Loan)) → list_any (is_of p) loans ≡ true → 0 < lent_in loans
        counted p [] e = absurd (cc)
        counted p (None ∷ os) e = let i = counted p os e in let c = lent-cons None os in omega (arith, i, c)
        counted p (Some l ∷ os) e = let c = lent-cons (Some l) os in omega (arith, c)

        on : (p : ℕ) (o : Option ℕ) → first_ready x.table.procs p ≡ o → true ≡ is_some (option_map (task_at A.name) (first_ready x.table.procs p)) → 0 < away h
        on p None f e = absurd (let no = e ∙ ap (λ (o : Option ℕ). is_some (option_map (task_at A.name) o)) f in cc)
        on p (Some t) f e = counted p h.loans (ready_away p t f (none p))
