use Rattle.std.proofs.Common.{◌≡◌, ◌-◌, ◌+◌, ◌≤◌}
use Rattle.al_parse_stmt.specs.Ahead.{pass_open}
use Rattle.al_parse_stmt.proofs.ahead.pass_open.Given as goal

abbrev pub invariant-loop-turn : goal.invariant-loop-turn
invariant-loop-turn l = record { reads : pass_open l.turns 1 l.fn.tokens ≡ pass_open (l.turns - l._turn) l.brackets l.tokens; few : l.brackets ≤ l._turn + 1 }
