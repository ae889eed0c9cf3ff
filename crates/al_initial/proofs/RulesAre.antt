-- What is compared where rule 18 is asked.
use Rattle.std.proofs.Common.{◌≡◌, ℕ, ◌<◌, ◌≤◌, true, false, arith}
use Rattle.std.proofs.lemmas.Bool.Decides.{nat_tests}
use Rattle.al_initial.specs.Rules.{rule_18_stands}

pub stands-within : (offset : ℕ) → offset ≤ 268435456 → rule_18_stands offset ≡ true
unfolding rule_18_stands
stands-within offset h = grind (arith, nat_tests)

pub stands-past : (offset : ℕ) → 268435456 < offset → rule_18_stands offset ≡ false
unfolding rule_18_stands
stands-past offset h = grind (arith, nat_tests)

pub ruleset stands = (stands-within, stands-past)
