use Rattle.std.proofs.Common.{◌≡◌, ◌++◌, drop}
use Rattle.al_type_function.specs.Numbers.{indexed}
use Rattle.al_type_function.specs.Locals.{variable}
use Rattle.al_type_function.proofs.locals.variables.Given as goal

abbrev pub invariant-loop-k : goal.invariant-loop-k
invariant-loop-k l = indexed variable 0 l.declared ≡ l.list ++ indexed variable l.k (drop l.k l.declared)
