-- Operations that write several slots, wherever those live.
use Rattle.std.specs.Prelude.{◌≢◌, ℕ, ◌+◌, ◌<◌, ◌≤◌, ◌⊎◌}
use Rattle.rv_code.specs.Homes.{Apart}
use Rattle.rv_match.specs.Places.{Places}

-- The operation writes so many slots, one behind the other. The home of each of them is apart from those of all others that are
-- live behind the operation; and what is live behind it and not written is live before it.
pub record WritesEach (l : Places) (live : (f pc unit t : ℕ) → Type 0) (f pc to n : ℕ) : Type 0 where
  pub apart : (i t : ℕ) → i < n → live f (pc + 1) 0 t → t ≢ to + i → Apart (l.home f (to + i)) (l.home f t)
  pub lives : (t : ℕ) → live f (pc + 1) 0 t → (t < to) ⊎ (to + n ≤ t) → live f pc 0 t
