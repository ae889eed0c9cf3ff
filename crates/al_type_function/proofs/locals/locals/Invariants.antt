use Rattle.std.proofs.Common.{◌≡◌, ◌++◌, drop}
use Rattle.al_type_function.specs.Numbers.{indexed}
use Rattle.al_type_function.specs.Locals.{local}
use Rattle.al_type_function.proofs.locals.locals.Given as goal

abbrev pub invariant-loop-k : goal.invariant-loop-k
invariant-loop-k l = indexed (local l.names l.marks) 0 l.declared ≡ l.list ++ indexed (local l.names l.marks) l.k (drop l.k l.declared)
