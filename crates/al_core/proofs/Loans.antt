-- What is lent after a loan has ended, and after one has begun.
use Rattle.std.proofs.Common.{◌≡◌, ◌≢◌, ℕ, zero, suc, ◌≤◌, List, [], ◌∷◌, ◌++◌, drop, length, Option, Some, None, refl, sym, ap, ◌∙◌, subst, true, false, Bool, ◌==◌, ◌||◌, ◌+◌, ◌<◌, ◌⊎◌, inl, inr, arith}
use Rattle.std.specs.Prelude.{slice_index_or, slice_set, is_some, cond}
use Rattle.std.specs.List.{AllByRecursion, list_any, count_by}
use Rattle.std.proofs.lemmas.List.Sums.{sum_by-cons}
use Rattle.std.proofs.lemmas.Option.{same_Some}
use Rattle.std.proofs.lemmas.Bool.Decides.{eqb_tells}
use Rattle.al_event.specs.declared.entry.Loan.{Loan}
use Rattle.al_event.specs.declared.entry.Entry.{Entry}
use Rattle.al_world.proofs.Lists.{all_append}
use Rattle.al_core.specs.History.{is_of}

-- no loan is of proc p
none_of : (p : ℕ) (loans : List (Option Loan)) → ((k : ℕ) (loan : Loan) → slice_index_or loans k None ≡ Some loan → loan.proc ≢ p) → list_any (is_of p) loans ≡ false
none_of p [] h = refl
none_of p (None ∷ os) h = none_of p os (λ k loan e. h (suc k) loan e)
none_of p (Some l ∷ os) h = on (none_of p os (λ k loan e. h (suc k) loan e)) (eqb_tells l.proc p)
  where
    on : list_any (is_of p) os ≡ false → ((l.proc == p ≡ true) × (l.proc ≡ p)) ⊎ ((l.proc == p ≡ false) × (l.proc ≢ p)) → ((l.proc == p) || list_any (is_of p) os) ≡ false
    on r (inl y) = absurd (h 0 l refl y.1)
    on r (inr y) = ap (λ b. b || list_any (is_of p) os) y.0 ∙ r

-- the one loan of proc p has ended
pub one_ended : (p worker : ℕ) (loans : List (Option Loan)) → ((k : ℕ) (loan : Loan) → slice_index_or loans k None ≡ Some loan → loan.proc ≡ p → k ≡ worker) → list_any (is_of p) (slice_set loans worker None) ≡ false
one_ended p worker [] h = refl
one_ended p zero (o ∷ os) h = none_of p os (λ k loan e is. let c = h (suc k) loan e is in absurd (omega (arith, c)))
one_ended p (suc worker) (None ∷ os) h = one_ended p worker os (λ k loan e is. let c = h (suc k) loan e is in omega (arith, c))
one_ended p (suc worker) (Some l ∷ os) h = on (one_ended p worker os (λ k loan e is. let c = h (suc k) loan e is in omega (arith, c))) (eqb_tells l.proc p)
  where
    on : list_any (is_of p) (slice_set os worker None) ≡ false → ((l.proc == p ≡ true) × (l.proc ≡ p)) ⊎ ((l.proc == p ≡ false) × (l.proc ≢ p)) → ((l.proc == p) || list_any (is_of p) (slice_set os worker None)) ≡ false
    on r (inl y) = let c = h 0 l refl y.1 in absurd (omega (arith, c))
    on r (inr y) = ap (λ b. b || list_any (is_of p) (slice_set os worker None)) y.0 ∙ r

-- the loans of other procs are there as before
pub others_lent : (q worker : ℕ) (loan : Loan) (loans : List (Option Loan)) → slice_index_or loans worker None ≡ Some loan → loan.proc ≢ q → list_any (is_of q) (slice_set loans worker None) ≡ list_any (is_of q) loans
others_lent q worker loan [] e ne = refl
others_lent q zero loan (o ∷ os) e ne = subst (λ (o : Option Loan). list_any (is_of q) os ≡ (is_of q o || list_any (is_of q) os)) (sym e) (on (eqb_tells loan.proc q))
  where
    on : ((loan.proc == q ≡ true) × (loan.proc ≡ q)) ⊎ ((loan.proc == q ≡ false) × (loan.proc ≢ q)) → list_any (is_of q) os ≡ ((loan.proc == q) || list_any (is_of q) os)
    on (inl y) = absurd (ne y.1)
    on (inr y) = sym (ap (λ b. b || list_any (is_of q) os) y.0)
others_lent q (suc worker) loan (o ∷ os) e ne = ap (λ b. is_of q o || b) (others_lent q worker loan os e ne)

-- a loan that is left was there before, and is another worker's
pub left_loans : (worker k : ℕ) (loan : Loan) (loans : List (Option Loan)) → slice_index_or (slice_set loans worker None) k None ≡ Some loan → (k ≢ worker) × (slice_index_or loans k None ≡ Some loan)
left_loans worker k loan [] e = absurd (cc)
left_loans zero zero loan (o ∷ os) e = absurd (cc)
left_loans zero (suc k) loan (o ∷ os) e = (λ y. omega (arith, y), e)
left_loans (suc worker) zero loan (o ∷ os) e = (λ y. omega (arith, y), e)
left_loans (suc worker) (suc k) loan (o ∷ os) e = let r = left_loans worker k loan os e in (λ y. r.0 (omega (arith, y)), r.1)

-- an entry of another proc keeps that none after the first ones is of a loan's proc
pub still_none : (p n : ℕ) (entries : List Entry) (e : Entry) → n ≤ length entries → p ≢ e.proc → AllByRecursion (λ (e : Entry). p ≢ e.proc) (drop n entries) → AllByRecursion (λ (e : Entry). p ≢ e.proc) (drop n (entries ++ e ∷ []))
still_none p zero entries e le ne a = all_append (λ (e : Entry). p ≢ e.proc) entries (e ∷ []) a (ne, tt)
still_none p (suc n) [] e le ne a = absurd (omega (arith, le))
still_none p (suc n) (x ∷ xs) e le ne a = still_none p n xs e (omega (arith, le)) ne a

-- ---- how many are lent

abbrev pub lent_in : List (Option Loan) → ℕ
lent_in loans = count_by (λ (l : Option Loan). is_some l) loans

-- whether this is a loan, as a number
abbrev pub is_one : Option Loan → ℕ
is_one o = cond (is_some o) 1 0

pub lent-cons : (o : Option Loan) (os : List (Option Loan)) → lent_in (o ∷ os) ≡ is_one o + lent_in os
lent-cons o os = sum_by-cons is_one o os

pub ended_count : (worker : ℕ) (loan : Loan) (loans : List (Option Loan)) → slice_index_or loans worker None ≡ Some loan → lent_in (slice_set loans worker None) + 1 ≡ lent_in loans
ended_count worker loan [] e = absurd (cc)
ended_count zero loan (o ∷ os) e =
    let a : lent_in (None ∷ os) ≡ 0 + lent_in os = lent-cons None os in
    let b : lent_in (o ∷ os) ≡ is_one o + lent_in os = lent-cons o os in
    let c : is_one o ≡ 1 = ap is_one e in
    omega (arith, a, b, c)
ended_count (suc worker) loan (o ∷ os) e =
    let i : lent_in (slice_set os worker None) + 1 ≡ lent_in os = ended_count worker loan os e in
    let a : lent_in (o ∷ slice_set os worker None) ≡ is_one o + lent_in (slice_set os worker None) = lent-cons o (slice_set os worker None) in
    let b : lent_in (o ∷ os) ≡ is_one o + lent_in os = lent-cons o os in
    omega (arith, i, a, b)

pub begun_count : (worker : ℕ) (loan : Loan) (loans : List (Option Loan)) → worker < length loans → slice_index_or loans worker None ≡ None → lent_in (slice_set loans worker (Some loan)) ≡ lent_in loans + 1
begun_count worker loan [] lt e = absurd (omega (arith, lt))
begun_count zero loan (o ∷ os) lt e =
    let a : lent_in (Some loan ∷ os) ≡ 1 + lent_in os = lent-cons (Some loan) os in
    let b : lent_in (o ∷ os) ≡ is_one o + lent_in os = lent-cons o os in
    let c : is_one o ≡ 0 = ap is_one e in
    omega (arith, a, b, c)
begun_count (suc worker) loan (o ∷ os) lt e =
    let i : lent_in (slice_set os worker (Some loan)) ≡ lent_in os + 1 = begun_count worker loan os (omega (arith, lt)) e in
    let a : lent_in (o ∷ slice_set os worker (Some loan)) ≡ is_one o + lent_in (slice_set os worker (Some loan)) = lent-cons o (slice_set os worker (Some loan)) in
    let b : lent_in (o ∷ os) ≡ is_one o + lent_in os = lent-cons o os in
    omega (arith, i, a, b)

-- ---- one worker's loan

pub length_loans : (worker : ℕ) (l : Option Loan) (loans : List (Option Loan)) → length (slice_set loans worker l) ≡ length loans
length_loans worker l [] = refl
length_loans zero l (o ∷ os) = refl
length_loans (suc worker) l (o ∷ os) = ap suc (length_loans worker l os)

pub loan_set : (worker : ℕ) (l : Option Loan) (loans : List (Option Loan)) → worker < length loans → slice_index_or (slice_set loans worker l) worker None ≡ l
loan_set worker l [] lt = absurd (omega (arith, lt))
loan_set zero l (o ∷ os) lt = refl
loan_set (suc worker) l (o ∷ os) lt = loan_set worker l os (omega (arith, lt))

pub loan_other : (worker k : ℕ) (l : Option Loan) (loans : List (Option Loan)) → k ≢ worker → slice_index_or (slice_set loans worker l) k None ≡ slice_index_or loans k None
loan_other worker k l [] ne = refl
loan_other zero zero l (o ∷ os) ne = absurd (ne refl)
loan_other zero (suc k) l (o ∷ os) ne = refl
loan_other (suc worker) zero l (o ∷ os) ne = refl
loan_other (suc worker) (suc k) l (o ∷ os) ne = loan_other worker k l os (λ e. ne (ap suc e))

pub loan_ended : (worker : ℕ) (loans : List (Option Loan)) → slice_index_or (slice_set loans worker None) worker None ≡ None
loan_ended worker [] = refl
loan_ended zero (o ∷ os) = refl
loan_ended (suc worker) (o ∷ os) = loan_ended worker os

-- a loan that began and ended leaves all as it was
pub begun_and_ended : (worker : ℕ) (l : Option Loan) (loans : List (Option Loan)) → slice_index_or loans worker None ≡ None → slice_set (slice_set loans worker l) worker None ≡ loans
begun_and_ended worker l [] e = refl
begun_and_ended zero l (o ∷ os) e = ap (λ o. o ∷ os) (sym e)
begun_and_ended (suc worker) l (o ∷ os) e = ap (λ os. o ∷ os) (begun_and_ended worker l os e)

pub set_twice : (worker : ℕ) (l m : Option Loan) (loans : List (Option Loan)) → slice_set (slice_set loans worker l) worker m ≡ slice_set loans worker m
set_twice worker l m [] = refl
set_twice zero l m (o ∷ os) = refl
set_twice (suc worker) l m (o ∷ os) = ap (λ os. o ∷ os) (set_twice worker l m os)

-- the proc of a loan that begins is lent, and the others are as before
pub begun_any : (q worker : ℕ) (loan : Loan) (loans : List (Option Loan)) → worker < length loans → slice_index_or loans worker None ≡ None → list_any (is_of q) (slice_set loans worker (Some loan)) ≡ ((loan.proc == q) || list_any (is_of q) loans)
begun_any q worker loan [] lt e = absurd (omega (arith, lt))
begun_any q zero loan (o ∷ os) lt e = subst (λ (o : Option Loan). ((loan.proc == q) || list_any (is_of q) os) ≡ ((loan.proc == q) || (is_of q o || list_any (is_of q) os))) (sym e) refl
begun_any q (suc worker) loan (o ∷ os) lt e = ap (λ b. is_of q o || b) (begun_any q worker loan os (omega (arith, lt)) e) ∙ swap (is_of q o) (loan.proc == q) (list_any (is_of q) os)
  where
    swap : (a b c : Bool) → (a || (b || c)) ≡ (b || (a || c))
    swap true true c = refl
    swap true false c = refl
    swap false b c = refl

-- a loan there is is the one that began, or was there before
pub begun_loans : (worker k : ℕ) (new loan : Loan) (loans : List (Option Loan)) → slice_index_or (slice_set loans worker (Some new)) k None ≡ Some loan → ((k ≡ worker) × (new ≡ loan)) ⊎ ((k ≢ worker) × (slice_index_or loans k None ≡ Some loan))
begun_loans worker k new loan [] e = absurd (cc)
begun_loans zero zero new loan (o ∷ os) e = inl (refl, same_Some _ _ e)
begun_loans zero (suc k) new loan (o ∷ os) e = inr (λ y. omega (arith, y), e)
begun_loans (suc worker) zero new loan (o ∷ os) e = inr (λ y. omega (arith, y), e)
begun_loans (suc worker) (suc k) new loan (o ∷ os) e = on (begun_loans worker k new loan os e)
  where
    on : ((k ≡ worker) × (new ≡ loan)) ⊎ ((k ≢ worker) × (slice_index_or os k None ≡ Some loan)) → ((suc k ≡ suc worker) × (new ≡ loan)) ⊎ ((suc k ≢ suc worker) × (slice_index_or os k None ≡ Some loan))
    on (inl r) = inl (ap suc r.0, r.1)
    on (inr r) = inr (λ y. r.0 (omega (arith, y)), r.1)
