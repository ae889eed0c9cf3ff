-- Sizes that are kept in 64 bits.
use Rattle.std.proofs.Common.{◌≡◌, ◌≤◌, ◌<◌, ℕ, arith, sym}
use Rattle.al_typed.specs.Capped.{capped}

-- one that is small is kept as it is
pub kept_size : (s n : ℕ) → s ≡ capped n → s ≤ 268435456 → s ≡ n
kept_size s n e h = omega (arith, e, h)

-- and one that is great stays great
pub great_size : (s n : ℕ) → s ≡ capped n → 268435456 < s → 268435456 < n
great_size s n e h = omega (arith, e, h)
