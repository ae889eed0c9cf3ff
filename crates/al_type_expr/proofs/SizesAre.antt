-- A size that counts as 2^64 - 1 where it is larger, against a limit far below.
use Rattle.std.proofs.Common.{◌≡◌, ℕ, arith}
use Rattle.std.specs.Prelude.{nat_le}
use Rattle.std.proofs.lemmas.Bool.Decides.{nat_tests}
use Rattle.al_typed.specs.Capped.{capped}

pub small_size : (size n : ℕ) → size ≡ capped n → nat_le size 268435456 ≡ nat_le n 268435456
small_size size n e = grind (arith, nat_tests)
