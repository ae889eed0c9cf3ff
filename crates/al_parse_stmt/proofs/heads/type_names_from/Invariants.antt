use Rattle.std.proofs.Common.{◌≡◌, ◌-◌}
use Rattle.al_parse_stmt.specs.Heads.{type_names_from}
use Rattle.al_parse_stmt.proofs.heads.type_names_from.Given as goal

abbrev pub invariant-loop-turn : goal.invariant-loop-turn
invariant-loop-turn l = type_names_from l.types l.turns l.fn.found l.fn.tokens ≡ type_names_from l.types (l.turns - l._turn) l.found l.tokens
