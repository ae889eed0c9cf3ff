use Rattle.std.proofs.Common.{◌≡◌, ◌-◌}
use Rattle.al_parse_stmt.specs.Heads.{new_names_from}
use Rattle.al_parse_stmt.proofs.heads.new_names_from.Given as goal

abbrev pub invariant-loop-turn : goal.invariant-loop-turn
invariant-loop-turn l = new_names_from l.types l.turns l.fn.found l.fn.tokens ≡ new_names_from l.types (l.turns - l._turn) l.found l.tokens
