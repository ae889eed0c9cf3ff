use Rattle.std.proofs.Common.{◌≡◌, ◌-◌}
use Rattle.al_parse_type.specs.Parse.{pointers_from}
use Rattle.al_parse_type.proofs.list.pointers_from.Given as goal

abbrev pub invariant-loop-turn : goal.invariant-loop-turn
invariant-loop-turn l = record { reads : pointers_from l.turns l.at l.fn.x l.fn.tokens ≡ pointers_from (l.turns - l._turn) l.at l.x l.tokens; low : l.x.height ≡ l.fn.x.height }
