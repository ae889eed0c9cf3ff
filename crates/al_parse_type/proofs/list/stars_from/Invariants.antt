use Rattle.std.proofs.Common.{◌≡◌, ◌-◌, ◌≤◌}
use Rattle.al_parse_type.specs.Parse.{stars_from}
use Rattle.al_parse_type.proofs.list.stars_from.Given as goal

abbrev pub invariant-loop-turn : goal.invariant-loop-turn
invariant-loop-turn l = record { reads : stars_from l.turns 0 l.fn.tokens ≡ stars_from (l.turns - l._turn) l.stars l.tokens; low : l.stars ≤ l._turn }
