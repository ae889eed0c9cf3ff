-- A world later on in its run.
use Rattle.std.specs.Prelude.{◌≡◌, ℕ, ◌<◌, List, ◌++◌, All}
use Rattle.al_event.specs.declared.entry.Entry.{Entry}
use Rattle.al_core.specs.History.{History, output_of}

-- some entries more, whose workers have P; the image, the limits and what was dropped stay
pub record IsLaterBy (P : ℕ → Type 0) (old new : History) : Type 0 where
  pub more : List Entry
  pub entries : new.entries ≡ old.entries ++ more
  pub by : All (λ (e : Entry). P e.worker) more
  pub image : new.image ≡ old.image
  pub region : new.region ≡ old.region
  pub limit : new.limit ≡ old.limit
  pub quota : new.quota ≡ old.quota
  pub dropped : new.dropped ≡ old.dropped

-- each of them made by this one worker
abbrev pub IsLater : (worker : ℕ) → History → History → Type 0
IsLater worker old new = IsLaterBy (λ w. w ≡ worker) old new

-- each of them made by one of so many workers, which are numbered from 0 on
abbrev pub IsMerged : (workers : ℕ) → History → History → Type 0
IsMerged workers old new = IsLaterBy (λ w. w < workers) old new

-- after some entries more
abbrev pub followed_by : List Entry → History → History
followed_by more h = record h { entries = h.entries ++ more }

-- what was put out after some entries stands first after more of them
pub record PutsOutMore (more : List Entry) (h : History) : Type 0 where
  pub shown : List ℕ
  pub output : output_of (followed_by more h) ≡ output_of h ++ shown
