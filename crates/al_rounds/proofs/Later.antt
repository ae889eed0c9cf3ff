-- Worlds that go on, and their loans.
use Rattle.std.proofs.Common.{◌≡◌, ◌≢◌, ℕ, zero, suc, ◌+◌, ◌<◌, ◌≤◌, List, [], ◌∷◌, ◌++◌, length, Option, Some, None, refl, sym, ap, ◌∙◌, subst, append_assoc, append-nil, arith, length-append, inl, inr}
use Rattle.std.specs.Prelude.{◌↔◌, ◌⊎◌, IsSome, slice_index_or, slice_set}
use Rattle.std.proofs.lemmas.List.Elements.{All-nil, All-cons, All-append}
use Rattle.al_event.specs.declared.entry.Entry.{Entry}
use Rattle.al_event.specs.declared.entry.Loan.{Loan}
use Rattle.al_base.specs.declared.over.Over.{Over}
use Rattle.al_core.specs.History.{History, over_of, loan_of, away, lending, settled}
use Rattle.rv_exec.specs.declared.run.Held.{Held}
use Rattle.al_core.specs.declared.answers.After.{After}
use Rattle.al_core.specs.declared.answers.After.TheVariants.{Held as AfterHeld, Idle, Over as AfterOver}
use Rattle.al_core.specs.Lends.{MatchAfter}
use Rattle.al_core.specs.Steps.{AddsEntry, KeepsRest}
use Rattle.al_core.proofs.Loans.{lent_in, lent-cons, loan_other}
use Rattle.al_rounds.specs.Later.{IsLaterBy, IsLater, IsMerged}

module _ (P : ℕ → Type 0) where
  pub stays_by : (old new : History) → new.entries ≡ old.entries → new.image ≡ old.image → new.region ≡ old.region → new.limit ≡ old.limit → new.quota ≡ old.quota → new.dropped ≡ old.dropped → IsLaterBy P old new
  stays_by old new entries image region limit quota dropped = record {
    more = [];
    entries = entries ∙ sym (append-nil old.entries);
    by = All-nil (λ (e : Entry). P e.worker);
    image = image;
    region = region;
    limit = limit;
    quota = quota;
    dropped = dropped;
  }

  pub later_by : (a b c : History) → IsLaterBy P a b → IsLaterBy P b c → IsLaterBy P a c
  later_by a b c x y = record {
    more = x.more ++ y.more;
    entries = y.entries ∙ ap (λ l. l ++ y.more) x.entries ∙ append_assoc a.entries x.more y.more;
    by = All-append (λ (e : Entry). P e.worker) x.more y.more x.by y.by;
    image = y.image ∙ x.image;
    region = y.region ∙ x.region;
    limit = y.limit ∙ x.limit;
    quota = y.quota ∙ x.quota;
    dropped = y.dropped ∙ x.dropped;
  }

  -- where all workers that have Q have P
  pub later_as : (Q : ℕ → Type 0) (a b : History) → ((w : ℕ) → Q w → P w) → IsLaterBy Q a b → IsLaterBy P a b
  later_as Q a b f x = record {
    more = x.more;
    entries = x.entries;
    by = λ k d inside. f (slice_index_or x.more k d).worker (x.by k d inside);
    image = x.image;
    region = x.region;
    limit = x.limit;
    quota = x.quota;
    dropped = x.dropped;
  }

pub stays : (worker : ℕ) (old new : History) → new.entries ≡ old.entries → new.image ≡ old.image → new.region ≡ old.region → new.limit ≡ old.limit → new.quota ≡ old.quota → new.dropped ≡ old.dropped → IsLater worker old new
stays worker = stays_by (λ w. w ≡ worker)

pub later_on : (worker : ℕ) (a b c : History) → IsLater worker a b → IsLater worker b c → IsLater worker a c
later_on worker = later_by (λ w. w ≡ worker)

-- what the one worker made is made by one of so many
pub merged_alone : (workers : ℕ) (a b : History) → 1 ≤ workers → IsLater 0 a b → IsMerged workers a b
merged_alone workers a b some = later_as (λ w. w < workers) (λ w. w ≡ 0) a b (λ w e. omega (arith, e, some))

pub by_entry : (worker p : ℕ) (old new : History) → AddsEntry p worker old new → KeepsRest worker old new → IsLater worker old new
by_entry worker p old new a k = record {
  more = record { proc = p; pick = a.pick; worker = worker } ∷ [];
  entries = a.entries;
  by = let e : Entry = record { proc = p; pick = a.pick; worker = worker } in let same : worker ≡ worker = refl in All-cons (λ (e : Entry). e.worker ≡ worker) e [] same (All-nil (λ (e : Entry). e.worker ≡ worker));
  image = k.image;
  region = k.region;
  limit = k.limit;
  quota = k.quota;
  dropped = k.dropped;
}

pub one_more : (worker p : ℕ) (old new : History) → AddsEntry p worker old new → length new.entries ≡ length old.entries + 1
one_more worker p old new a = let e : Entry = record { proc = p; pick = a.pick; worker = worker } in ap length a.entries ∙ length-append old.entries (e ∷ [])

-- where nothing is away nothing is lent
pub none_lent : (loans : List (Option Loan)) → lent_in loans ≡ 0 → (k : ℕ) → slice_index_or loans k None ≡ None
none_lent [] none k = refl
none_lent (None ∷ os) none zero = refl
none_lent (None ∷ os) none (suc k) = let c : lent_in (None ∷ os) ≡ 0 + lent_in os = lent-cons None os in none_lent os (omega (arith, c, none)) k
none_lent (Some l ∷ os) none k = let c : lent_in (Some l ∷ os) ≡ 1 + lent_in os = lent-cons (Some l) os in absurd (omega (arith, c, none))

pub none_away : (loans : List (Option Loan)) → ((k : ℕ) → slice_index_or loans k None ≡ None) → lent_in loans ≡ 0
none_away [] none = refl
none_away (None ∷ os) none =
    let c : lent_in (None ∷ os) ≡ 0 + lent_in os = lent-cons None os in
    let i : lent_in os ≡ 0 = none_away os (λ k. none (suc k)) in
    omega (arith, c, i)
none_away (Some l ∷ os) none = absurd (let e = none 0 in cc)

-- only the loan of one worker differs
abbrev pub LoansOf : ℕ → History → History → Type 0
LoansOf worker old new = (k : ℕ) → k ≢ worker → loan_of new k ≡ loan_of old k

pub loans_on : (worker : ℕ) (a b c : History) → LoansOf worker a b → LoansOf worker b c → LoansOf worker a c
loans_on worker a b c x y k ne = y k ne ∙ x k ne

-- the one worker has nothing, as the others had
pub still_none : (old new : History) → away old ≡ 0 → loan_of new 0 ≡ None → LoansOf 0 old new → away new ≡ 0
still_none old new none idle others = none_away new.loans on
  where
    on : (k : ℕ) → loan_of new k ≡ None
    on zero = idle
    on (suc k) = others (suc k) (λ e. omega (arith, e)) ∙ none_lent old.loans none (suc k)

pub settled_idle : (worker : ℕ) (h : History) → loan_of (settled worker h) worker ≡ None
settled_idle worker h = on worker h.loans
  where
    on : (k : ℕ) (loans : List (Option Loan)) → slice_index_or (slice_set loans k None) k None ≡ None
    on k [] = refl
    on zero (o ∷ os) = refl
    on (suc k) (o ∷ os) = on k os

pub settled_others : (worker : ℕ) (h : History) → LoansOf worker h (settled worker h)
settled_others worker h k ne = loan_other worker k None h.loans ne

pub lending_others : (worker p : ℕ) (h : History) → LoansOf worker h (lending worker p h)
lending_others worker p h k ne = loan_other worker k _ h.loans ne

pub lending_later : (worker p : ℕ) (h : History) → IsLater worker h (lending worker p h)
lending_later worker p h = stays worker h (lending worker p h) refl refl refl refl refl refl

pub settled_later : (worker : ℕ) (h : History) → IsLater worker h (settled worker h)
settled_later worker h = stays worker h (settled worker h) refl refl refl refl refl refl

pub same_later : (worker : ℕ) (old new : History) → new ≡ old → IsLater worker old new
same_later worker old new e = subst (λ h. IsLater worker old h) (sym e) (stays worker old old refl refl refl refl refl refl)

pub same_loans : (worker : ℕ) (old new : History) → new ≡ old → LoansOf worker old new
same_loans worker old new e k ne = ap (λ h. loan_of h k) e

-- a history that another is later than has no more entries
pub no_fewer : (worker : ℕ) (old new : History) → IsLater worker old new → length old.entries ≤ length new.entries
no_fewer worker old new x = let e = ap length x.entries ∙ length-append old.entries x.more in omega (arith, e)

-- what is over is not none
pub not_over : (o : Option Over) (A : Type 0) → (A → ⊥) → A ↔ IsSome o → o ≡ None
not_over None A never iff = refl
not_over (Some over) A never iff = absurd (never (iff.1 refl))

-- after a proc was lent
pub lent_later : (worker p : ℕ) (old new : History) → new ≡ lending worker p old → IsLater worker old new
lent_later worker p old new e = subst (λ h. IsLater worker old h) (sym e) (lending_later worker p old)

pub lent_loans : (worker p : ℕ) (old new : History) → new ≡ lending worker p old → LoansOf worker old new
lent_loans worker p old new e = subst (λ h. LoansOf worker old h) (sym e) (lending_others worker p old)

pub lent_live : (worker p : ℕ) (old new : History) → new ≡ lending worker p old → over_of old ≡ None → over_of new ≡ None
lent_live worker p old new e live = ap over_of e ∙ live

-- an action after which nothing is lent
pub ended_so : (after : After) (P : Held → Type 0) (Q : Type 0) → (after ≡ Idle) ⊎ (after ≡ AfterOver) → MatchAfter after P Q Q → Q
ended_so (AfterHeld held) P Q (inl e) m = absurd (cc)
ended_so (AfterHeld held) P Q (inr e) m = absurd (cc)
ended_so Idle P Q is m = m
ended_so AfterOver P Q is m = m
