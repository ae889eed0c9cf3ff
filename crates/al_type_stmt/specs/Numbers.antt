-- The numbers that statements have by their places.
use Rattle.std.specs.Prelude.{ℕ, nat_le, false, if◌then◌else◌, Option, Some, None}
use Rattle.al_base.specs.declared.place.Place.{Place}
use Rattle.al_rules.specs.Outcome.{Outcome, Good, Bad, ask}

-- The number that a statement has by its place. A program numbers by 32 bits. Where there is none the statement breaks that
-- rule.
abbrev pub number_of : ℕ → Place → Option ℕ → Outcome ℕ
number_of rule at None = Bad (ask rule at false)
number_of rule at (Some n) = if nat_le n 4294967295 then Good n else Bad (ask rule at false)
