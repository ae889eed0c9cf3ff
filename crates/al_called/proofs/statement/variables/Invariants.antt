use Rattle.std.proofs.Common.{◌≡◌, drop}
use Rattle.al_called.specs.Expressions.{each}
use Rattle.al_called.specs.Statements.{variable}
use Rattle.al_called.proofs.statement.variables.Given as goal

abbrev pub invariant-loop-v : goal.invariant-loop-v
invariant-loop-v l = each (variable l.names) l.list l.fn.faults ≡ each (variable l.names) (drop l.v-index l.list) l.faults
