-- What a performed action, and a step, leave of a history.
use Rattle.std.proofs.Common.{◌≡◌, ℕ, zero, suc, ◌+◌, ◌<◌, ◌≤◌, List, [], ◌∷◌, ◌++◌, length, Option, Some, None, Result, Err, option_map, option_and_then, refl, sym, ap, ap₂, ◌∙◌, subst, true, false, not, ◌&&◌, ◌⊎◌, inl, inr, arith}
use Rattle.std.specs.Prelude.{◌↔◌, IsSome, slice_set, slice_index_or, is_some, nat_le}
use Rattle.std.specs.List.{list_any}
use Rattle.std.proofs.lemmas.Bool.Decides.{leb_tells}
use Rattle.al_base.specs.declared.over.Over.{Over as WorldOver}
use Rattle.al_event.specs.declared.entry.Entry.{Entry}
use Rattle.al_event.specs.declared.entry.Loan.{Loan}
use Rattle.rv_exec.specs.declared.run.Held.{Held as HeldFields}
use Rattle.al_core.specs.declared.answers.After.{After}
use Rattle.al_core.specs.declared.answers.After.TheVariants.{Held, Idle, Over}
use Rattle.al_core.specs.History.{History, run_of, over_of, loan_of, away, is_of, is_full, is_free, has_ready, with_entry, lending, settled}
use Rattle.al_core.specs.Lends.{IsLent, MatchAfter}
use Rattle.al_core.specs.Steps.{AddsEntry, KeepsRest}
use Rattle.std.specs.Option.{option_map_or}
use Rattle.al_world.specs.Procs.{first_ready}
use Rattle.al_world.specs.Control.{Kind}
use Rattle.al_world.specs.World.{TaskName, Shared, World}
use Rattle.al_world.specs.Step.{step, step_held, task_of}
use Rattle.al_world.proofs.Permits.{runs_go_on}
use Rattle.rv_exec.specs.Machine.{machine}
use Rattle.al_core.proofs.Lawful.{lawful, lawful_entry}
use Rattle.al_core.proofs.Loans.{lent_in, lent-cons, loan_other, loan_ended, set_twice, begun_and_ended}

-- a loan that is there is the one that was set
set_some : (worker : ℕ) (l : Option Loan) (k : Loan) (loans : List (Option Loan)) → slice_index_or (slice_set loans worker l) worker None ≡ Some k → slice_index_or (slice_set loans worker l) worker None ≡ l
set_some worker l k [] e = absurd (cc)
set_some zero l k (o ∷ os) e = refl
set_some (suc worker) l k (o ∷ os) e = set_some worker l k os e

pub not_some : {X : Type 0} (o : Option X) → is_some o ≡ false → o ≡ None
not_some None e = refl
not_some (Some x) e = absurd (cc)

pub some_none : {X : Type 0} (o : Option X) → IsSome o → o ≡ None → ⊥
some_none None s e = absurd (let x = s in cc)
some_none (Some x) s e = cc

-- ---- an action

pub record Performed (old new : History) (worker p : ℕ) (after : After) : Type 0 where
  pub entry : over_of old ≡ None → AddsEntry p worker old new
  pub late : IsSome (over_of old) → new ≡ settled worker old
  pub rest : KeepsRest worker old new
  pub over : (after ≡ Over) ↔ IsSome (over_of new)
  pub lent : MatchAfter after (λ held. IsLent new worker held × (loan_of new worker ≡ Some (record { proc = p; since = length new.entries }))) (loan_of new worker ≡ None) (loan_of new worker ≡ None)
  pub idle : MatchAfter after (λ held. is_free (settled worker new) p ≡ true × is_full (settled worker new) ≡ false) (is_free new p ≡ true → is_full new ≡ true) (Unit {0})

settled_rest : (worker : ℕ) (old : History) → KeepsRest worker old (settled worker old)
settled_rest worker old = record {
  image = refl;
  region = refl;
  limit = refl;
  quota = refl;
  dropped = refl;
  others = λ k ne. loan_other worker k None old.loans ne;
}

-- the world was over
late_at : (old : History) (worker p : ℕ) → IsSome (over_of old) → Performed old (settled worker old) worker p Over
late_at old worker p some = record {
  entry = λ none. absurd (on (over_of old) some none);
  late = λ _. refl;
  rest = settled_rest worker old;
  over = (λ _. some, λ _. refl);
  lent = loan_ended worker old.loans;
  idle = tt;
}
  where
    on : (o : Option WorldOver) → IsSome o → o ≡ None → ⊥
    on None s e = absurd (let x = s in cc)
    on (Some x) s e = cc

pub late_performed : (old new : History) (worker p : ℕ) → IsSome (over_of old) → new ≡ settled worker old → Performed old new worker p Over
late_performed old new worker p some is = subst (λ n. Performed old n worker p Over) (sym is) (late_at old worker p some)

-- an entry was made, and the proc went on or not
module _ (old : History) (worker p pick : ℕ) (live : over_of old ≡ None) where
  abbrev e : Entry
  e = record { proc = p; pick = pick; worker = worker }

  abbrev mid : History
  mid = settled worker (with_entry e old)

  adds : (runs : IsSome (run_of (with_entry e old))) (new : History) → new.entries ≡ old.entries ++ e ∷ [] → AddsEntry p worker old new
  adds runs new is = record { pick = pick; entries = is; runs = runs; lawful = lawful (with_entry e old); entry = lawful_entry old e }

  none_some : IsSome (over_of old) → ⊥
  none_some some = on (over_of old) some live
    where
      on : (o : Option WorldOver) → IsSome o → o ≡ None → ⊥
      on None s e = absurd (let x = s in cc)
      on (Some x) s e = cc

  stays_at : (runs : IsSome (run_of (with_entry e old))) (after : After) → (after ≡ Over) ↔ IsSome (over_of mid) → MatchAfter after (λ held. ⊥) (is_free mid p ≡ true → is_full mid ≡ true) (Unit {0}) → Performed old mid worker p after
  stays_at runs (Held held) over free = absurd free
  stays_at runs Idle over free = record {
    entry = λ _. adds runs mid refl;
    late = λ s. absurd (none_some s);
    rest = record { image = refl; region = refl; limit = refl; quota = refl; dropped = refl; others = λ k ne. loan_other worker k None old.loans ne };
    over = over;
    lent = loan_ended worker old.loans;
    idle = free;
  }
  stays_at runs Over over free = record {
    entry = λ _. adds runs mid refl;
    late = λ s. absurd (none_some s);
    rest = record { image = refl; region = refl; limit = refl; quota = refl; dropped = refl; others = λ k ne. loan_other worker k None old.loans ne };
    over = over;
    lent = loan_ended worker old.loans;
    idle = tt;
  }

  goes_at : (runs : IsSome (run_of (with_entry e old))) (held : HeldFields) → (Held held ≡ Over) ↔ IsSome (over_of mid) → IsLent (lending worker p mid) worker held → is_free mid p ≡ true × is_full mid ≡ false → Performed old (lending worker p mid) worker p (Held held)
  goes_at runs held over lent free = record {
    entry = λ _. adds runs (lending worker p mid) refl;
    late = λ s. absurd (none_some s);
    rest = record {
      image = refl;
      region = refl;
      limit = refl;
      quota = refl;
      dropped = refl;
      others = λ k ne. loan_other worker k (Some (record { proc = p; since = length mid.entries })) mid.loans ne ∙ loan_other worker k None old.loans ne;
    };
    over = over;
    lent = (lent, set_some worker (Some (record { proc = p; since = length mid.entries })) _ mid.loans lent.loan);
    idle = subst (λ ls. is_free (record mid { loans = ls }) p ≡ true × is_full (record mid { loans = ls }) ≡ false) (sym back) free;
  }
    where
      back : slice_set (slice_set mid.loans worker (Some (record { proc = p; since = length mid.entries }))) worker None ≡ mid.loans
      back = set_twice worker (Some (record { proc = p; since = length mid.entries })) None mid.loans ∙ set_twice worker None None old.loans

  pub went_performed : (made new : History) (after : After) → made ≡ mid → IsSome (run_of (with_entry e old)) → (after ≡ Over) ↔ IsSome (over_of made) → MatchAfter after (λ held. new ≡ lending worker p made) (new ≡ made) (new ≡ made) → MatchAfter after (IsLent new worker) (Unit {0}) (Unit {0}) → MatchAfter after (λ held. is_free made p ≡ true × is_full made ≡ false) (is_free made p ≡ true → is_full made ≡ true) (Unit {0}) → Performed old new worker p after
  went_performed made new (Held held) is runs over new_is lent free =
      let same : new ≡ lending worker p mid = new_is ∙ ap (lending worker p) is in
      subst (λ n. Performed old n worker p (Held held)) (sym same) (goes_at runs held (subst (λ m. (Held held ≡ Over) ↔ IsSome (over_of m)) is over) (subst (λ n. IsLent n worker held) same lent) (subst (λ m. is_free m p ≡ true × is_full m ≡ false) is free))
  went_performed made new Idle is runs over new_is lent free =
      subst (λ n. Performed old n worker p Idle) (sym (new_is ∙ is)) (stays_at runs Idle (subst (λ m. (Idle ≡ Over) ↔ IsSome (over_of m)) is over) (subst (λ m. is_free m p ≡ true → is_full m ≡ true) is free))
  went_performed made new Over is runs over new_is lent free =
      subst (λ n. Performed old n worker p Over) (sym (new_is ∙ is)) (stays_at runs Over (subst (λ m. (Over ≡ Over) ↔ IsSome (over_of m)) is over) tt)

-- ---- a step, with nothing lent

none_at : (k : ℕ) (loans : List (Option Loan)) → lent_in loans ≡ 0 → slice_index_or loans k None ≡ None
none_at k [] e = refl
none_at zero (None ∷ os) e = refl
none_at zero (Some l ∷ os) e = absurd (let c = lent-cons (Some l) os in omega (arith, c, e))
none_at (suc k) (o ∷ os) e = none_at k os (let c = lent-cons o os in omega (arith, c, e))

none_of : (p : ℕ) (loans : List (Option Loan)) → lent_in loans ≡ 0 → list_any (is_of p) loans ≡ false
none_of p [] e = refl
none_of p (None ∷ os) e = none_of p os (let c = lent-cons None os in omega (arith, c, e))
none_of p (Some l ∷ os) e = absurd (let c = lent-cons (Some l) os in omega (arith, c, e))

module _ (old : History) (here : away old ≡ 0) where
  pub no_loan : (worker : ℕ) → loan_of old worker ≡ None
  no_loan worker = none_at worker old.loans here

  pub all_free : (p : ℕ) → has_ready old p ≡ true → is_free old p ≡ true
  all_free p ready = ap₂ (λ a b. not a && b) (none_of p old.loans here) ready

  pub not_full : length old.entries < old.quota → is_full old ≡ false
  not_full lt = on (leb_tells old.quota (length old.entries + away old))
    where
      on : ((nat_le old.quota (length old.entries + away old) ≡ true) × (old.quota ≤ length old.entries + away old)) ⊎ ((nat_le old.quota (length old.entries + away old) ≡ false) × (length old.entries + away old < old.quota)) → is_full old ≡ false
      on (inl y) = absurd (let z = y.1 in omega (arith, z, lt, here))
      on (inr y) = y.0

  -- what was lent for the time of the call is back
  pub back_as_it_was : (worker p : ℕ) (lent new : History) → lent ≡ lending worker p old → new ≡ settled worker lent → new ≡ old
  back_as_it_was worker p lent new l n =
      n ∙ ap (settled worker) l ∙ ap (λ ls. record old { loans = ls }) (begun_and_ended worker (Some (record { proc = p; since = length old.entries })) old.loans (no_loan worker))

  pub stepped : (worker p : ℕ) (e : Entry) (lent new : History) → lent ≡ lending worker p old → new ≡ settled worker (with_entry e lent) → new ≡ with_entry e old
  stepped worker p e lent new l n =
      n ∙ ap (λ (h : History). settled worker (with_entry e h)) l ∙ ap (λ ls. record (with_entry e old) { loans = ls }) (begun_and_ended worker (Some (record { proc = p; since = length old.entries })) old.loans (no_loan worker))

  pub runs_too : (worker p : ℕ) (e : Entry) (lent : History) → lent ≡ lending worker p old → IsSome (run_of (with_entry e lent)) → IsSome (run_of (with_entry e old))
  runs_too worker p e lent l r = subst (λ (h : History). IsSome (run_of (with_entry e h))) l r

  pub no_run_too : (worker p : ℕ) (e : Entry) (lent : History) → lent ≡ lending worker p old → run_of (with_entry e lent) ≡ None → run_of (with_entry e old) ≡ None
  no_run_too worker p e lent l r = subst (λ (h : History). run_of (with_entry e h) ≡ None) l r

pub same_err : {X E : Type 0} (a b : E) → ◌≡◌ {A = Result X E} (Err a) (Err b) → a ≡ b
same_err a b e = cc

-- no run where the proc has no ready task
pub unready : (h : History) (e : Entry) → has_ready h e.proc ≡ false → run_of (with_entry e h) ≡ None
unready h e none = runs_go_on K h.entries (e ∷ []) _ ∙ on (run_of h) none
  where
    K : Kind
    K = machine h.image

    not_first : (o : Option TaskName) → is_some o ≡ false → o ≡ None
    not_first None n = refl
    not_first (Some t) n = absurd (cc)

    of : (w : World K) (o : Option WorldOver) → is_some (first_ready w.shared.procs e.proc) ≡ false → option_and_then (λ (t : TaskName). step_held K w t e.pick (w.tasks t)) (task_of w.shared o e.proc) ≡ None
    of w (Some x) n = refl
    of w None n = ap (option_and_then (λ (t : TaskName). step_held K w t e.pick (w.tasks t))) (not_first (first_ready w.shared.procs e.proc) n)

    on : (o : Option (World K)) → option_map_or (λ (s : Shared). is_some (first_ready s.procs e.proc)) (option_map (λ (w : World K). w.shared) o) false ≡ false → option_and_then (λ w. step K w e) o ≡ None
    on None n = refl
    on (Some w) n = of w w.shared.over n
