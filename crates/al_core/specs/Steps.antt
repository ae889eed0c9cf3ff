-- What a performed action adds to a history.
use Rattle.std.specs.Prelude.{◌≡◌, ◌≢◌, ℕ, ◌++◌, ◌∷◌, [], IsSome}
use Rattle.al_core.specs.History.{History, run_of, loan_of, with_entry}
use Rattle.al_core.specs.Lawful.{IsLawful, IsLawfulEntry}

-- one entry more, of this proc and this worker, which is permitted
pub record AddsEntry (p worker : ℕ) (old new : History) : Type 0 where
  pub pick : ℕ
  pub entries : new.entries ≡ old.entries ++ record { proc = p; pick = pick; worker = worker } ∷ []
  pub runs : IsSome (run_of (with_entry (record { proc = p; pick = pick; worker = worker }) old))
  pub lawful : IsLawful (with_entry (record { proc = p; pick = pick; worker = worker }) old)
  pub entry : IsLawfulEntry old (record { proc = p; pick = pick; worker = worker })

-- all but the entries and what is lent to one worker
pub record KeepsRest (worker : ℕ) (old new : History) : Type 0 where
  pub image : new.image ≡ old.image
  pub region : new.region ≡ old.region
  pub limit : new.limit ≡ old.limit
  pub quota : new.quota ≡ old.quota
  pub dropped : new.dropped ≡ old.dropped
  pub others : (k : ℕ) → k ≢ worker → loan_of new k ≡ loan_of old k
