use Rattle.std.proofs.Common.{◌≡◌, drop}
use Rattle.al_shared.specs.Expressions.{each}
use Rattle.al_shared.specs.Statements.{variable}
use Rattle.al_shared.proofs.statement.variables.Given as goal

abbrev pub invariant-loop-v : goal.invariant-loop-v
invariant-loop-v l = each (variable l.names l.round) l.list l.inside l.fn.marks ≡ each (variable l.names l.round) (drop l.v-index l.list) l.inside l.marks
