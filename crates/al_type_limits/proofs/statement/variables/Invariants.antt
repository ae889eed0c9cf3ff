use Rattle.std.proofs.Common.{◌≡◌, drop}
use Rattle.al_type_limits.specs.Expressions.{each}
use Rattle.al_type_limits.specs.Statements.{variable}
use Rattle.al_type_limits.proofs.statement.variables.Given as goal

abbrev pub invariant-loop-v : goal.invariant-loop-v
invariant-loop-v l = each (variable l.names l.base) l.list l.fn.sum ≡ each (variable l.names l.base) (drop l.v-index l.list) l.sum
