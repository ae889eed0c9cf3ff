use Rattle.std.proofs.Common.{◌≡◌, ◌++◌, take}
use Rattle.std.specs.List.{flat_map}
use Rattle.al_poly.specs.Written.{in_variable}
use Rattle.al_poly.proofs.written.in_variables.Given as goal

abbrev pub invariant-loop-v : goal.invariant-loop-v
invariant-loop-v l = l.types ≡ l.fn.types ++ flat_map in_variable (take l.v-index l.variables)
