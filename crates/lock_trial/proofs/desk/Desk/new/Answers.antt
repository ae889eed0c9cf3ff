use Rattle.std.proofs.Common.{◌≡◌, ℕ, zero, suc, None, Option, replicate, slice_index_or, refl}
use Rattle.al_event.specs.declared.entry.Loan.{Loan}
use Rattle.lock_trial.proofs.desk.Desk.new.Goals as goal

no_loan : (n k : ℕ) → slice_index_or (replicate n (let none : Option Loan = None in none)) k None ≡ None
no_loan zero k = refl
no_loan (suc n) zero = refl
no_loan (suc n) (suc k) = no_loan n k

pub returns-clause-unlent : goal.returns-clause-unlent
returns-clause-unlent c = λ k. no_loan 64 k
