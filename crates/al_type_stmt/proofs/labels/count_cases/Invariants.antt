use Rattle.std.proofs.Common.{◌≡◌, ◌+◌, ◌≤◌, drop}
use Rattle.al_type_stmt.specs.Statements.{alt_cases}
use Rattle.al_type_stmt.proofs.labels.count_cases.Given as goal

abbrev pub invariant-loop-s : goal.invariant-loop-s
invariant-loop-s l = (alt_cases l.body ≡ l.count + alt_cases (drop l.s-index l.body)) × (l.count ≤ l.s-index)
