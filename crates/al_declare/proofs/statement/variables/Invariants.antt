use Rattle.std.proofs.Common.{◌≡◌, drop}
use Rattle.al_declare.specs.Types.{each}
use Rattle.al_declare.specs.Statements.{variable}
use Rattle.al_declare.proofs.statement.variables.Given as goal

abbrev pub invariant-loop-v : goal.invariant-loop-v
invariant-loop-v l = each variable l.list l.c l.fn.w ≡ each variable (drop l.v-index l.list) l.c l.w
