-- A task that comes back with what it asked waits, in a table that stands for the world.
use Rattle.std.proofs.Common.{◌≡◌, ◌≢◌, ℕ, zero, suc, ◌*◌, ◌^◌, List, [], ◌∷◌, take, Option, Some, None, option_and_then, refl, ap, ◌∙◌, true, false, Bool, ◌==◌, ◌||◌, ◌⊎◌, inl, inr}
use Rattle.std.specs.Prelude.{slice_index_or}
use Rattle.std.specs.List.{list_any}
use Rattle.std.proofs.lemmas.Option.{same_Some}
use Rattle.std.proofs.lemmas.Bool.Decides.{eqb_tells}
use Rattle.al_event.specs.declared.entry.Loan.{Loan}
use Rattle.al_world.specs.Procs.{first_ready}
use Rattle.al_world.specs.Control.{Asked, Kind}
use Rattle.al_world.specs.World.{TaskName, Held, Absent, Goes, Waits, World}
use Rattle.al_world.proofs.Permits.{is_still_lent}
use Rattle.rv_exec.specs.declared.run.Asked.{Asked as AskedFields}
use Rattle.rv_exec.specs.Machine.{machine}
use Rattle.rv_exec.specs.Shown.{asked_of}
use Rattle.al_core.specs.Opening.{globals_of, main_of}
use Rattle.al_core.specs.History.{History, run_along, asked_by, asked_next, loan_of, is_of}
use Rattle.al_core.specs.Lends.{IsAsked}
use Rattle.al_core.specs.Stands.{Parts, Stands}
use Rattle.task_book.specs.Table.{is_away as is_away_in}

-- the task that asks next in a world
pub record AsksNext (K : Kind) (w : World K) (p : ℕ) (a : Asked K.Control K.Privates) : Type 0 where
  pub task : TaskName
  pub first : first_ready w.shared.procs p ≡ Some task
  pub control : K.Control
  pub goes : w.tasks task ≡ Goes control
  pub asks : K.ask control (w.privates p) ≡ a

pub asks_next : (K : Kind) (w : World K) (p : ℕ) (a : Asked K.Control K.Privates) → asked_next K w p ≡ Some a → AsksNext K w p a
asks_next K w p a e = on (first_ready w.shared.procs p) refl e
  where
    of : (t : TaskName) → first_ready w.shared.procs p ≡ Some t → (h : Held K.Control) → w.tasks t ≡ h → asked_by K h (w.privates p) ≡ Some a → AsksNext K w p a
    of t f (Goes c) g e = record { task = t; first = f; control = c; goes = g; asks = same_Some _ _ e }
    of t f (Waits act c) g e = absurd (cc)
    of t f Absent g e = absurd (cc)

    on : (o : Option TaskName) → first_ready w.shared.procs p ≡ o → option_and_then (λ (t : TaskName). asked_by K (w.tasks t) (w.privates p)) o ≡ Some a → AsksNext K w p a
    on None f e = absurd (cc)
    on (Some t) f e = of t f (w.tasks t) refl e

-- what was lent after some entries is what the world asks next now
module _ (h : History) (x : Parts) (s : Stands h x) (worker : ℕ) (asked : AskedFields) (a : IsAsked h worker asked) where
  abbrev pub K : Kind
  K = machine h.image

  abbrev pub p : ℕ
  p = asked.held.proc

  pub still_asks : AsksNext K s.world p (asked_of h.image asked)
  still_asks = on (run_along h (take a.since h.entries)) refl a.asks
    where
      on : (o : Option (World K)) → run_along h (take a.since h.entries) ≡ o → option_and_then (λ w. asked_next K w p) o ≡ Some (asked_of h.image asked) → AsksNext K s.world p (asked_of h.image asked)
      on None r e = absurd (cc)
      on (Some w) r e =
          let n = asks_next K w p (asked_of h.image asked) e in
          let k = is_still_lent K (h.region * 2 ^ 20) (globals_of h.image) (main_of h.image) h.entries a.since w s.world p n.task r s.runs (s.loans.still worker (record { proc = p; since = a.since }) a.loan) n.first in record {
            task = n.task;
            first = k.first;
            control = n.control;
            goes = k.control ∙ n.goes;
            asks = ap (K.ask n.control) k.privates ∙ n.asks;
          }

-- ---- who is away

pub loan_there : (loans : List (Option Loan)) (k : ℕ) (loan : Loan) → slice_index_or loans k None ≡ Some loan → list_any (is_of loan.proc) loans ≡ true
loan_there [] k loan e = absurd (cc)
loan_there (o ∷ os) zero loan e = rw (e, is_of) (on (eqb_tells loan.proc loan.proc))
  where
    on : ((loan.proc == loan.proc ≡ true) × (loan.proc ≡ loan.proc)) ⊎ ((loan.proc == loan.proc ≡ false) × (loan.proc ≢ loan.proc)) → ((loan.proc == loan.proc) || list_any (is_of loan.proc) os) ≡ true
    on (inl y) = ap (λ b. b || list_any (is_of loan.proc) os) y.0
    on (inr y) = absurd (y.1 refl)
loan_there (o ∷ os) (suc k) loan e = on (is_of loan.proc o) (loan_there os k loan e)
  where
    on : (b : Bool) → list_any (is_of loan.proc) os ≡ true → (b || list_any (is_of loan.proc) os) ≡ true
    on true e = refl
    on false e = e

module _ (h : History) (x : Parts) (s : Stands h x) where
  -- the proc of a loan is away
  pub loan_away : (worker : ℕ) (loan : Loan) → loan_of h worker ≡ Some loan → is_away_in x.table loan.proc ≡ true
  loan_away worker loan e = s.loans.lent loan.proc ∙ loan_there h.loans worker loan e
