-- Two values that the lock cannot tell apart.
use Rattle.std.specs.Prelude.{◌≡◌, ℕ, List, Option as Maybe}
use Rattle.al_event.specs.declared.entry.Entry.{Entry}
use Rattle.al_event.specs.declared.entry.Loan.{Loan}

module _ {V F : Type 0} (entries : V → List Entry) (fixed : V → F) (lent : V → ℕ → Maybe Loan) where
  pub record AreAlike (x y : V) : Type 0 where
    pub entries_are : entries x ≡ entries y
    pub fixed_is : fixed x ≡ fixed y
    pub lent_is : (k : ℕ) → lent x k ≡ lent y k
