use Rattle.std.proofs.Common.{◌≡◌, ◌-◌, ◌++◌, take}
use Rattle.al_parse_stmt.proofs.fault.first_tokens.Given as goal

abbrev pub invariant-loop-turn : goal.invariant-loop-turn
invariant-loop-turn l = take l.count l.tokens ≡ l.all ++ take (l.count - l._turn) l.rest
