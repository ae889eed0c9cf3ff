use Rattle.std.proofs.Common.{◌≡◌, ◌++◌, drop}
use Rattle.al_type_function.specs.Numbers.{indexed}
use Rattle.al_type_function.specs.Locals.{declared_parameter}
use Rattle.al_type_function.proofs.locals.push_parameters.Given as goal

abbrev pub invariant-loop-k : goal.invariant-loop-k
invariant-loop-k l =
    l.fn.declared ++ indexed (declared_parameter l.list) 0 l.parameters
    ≡ l.declared ++ indexed (declared_parameter l.list) l.k (drop l.k l.parameters)
