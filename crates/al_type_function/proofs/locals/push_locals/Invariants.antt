use Rattle.std.proofs.Common.{◌≡◌, ◌++◌, take, map}
use Rattle.al_type_function.specs.Locals.{declared_local}
use Rattle.al_type_function.proofs.locals.push_locals.Given as goal

abbrev pub invariant-loop-l : goal.invariant-loop-l
invariant-loop-l l = l.declared ≡ l.fn.declared ++ map declared_local (take l.l-index l.list)
