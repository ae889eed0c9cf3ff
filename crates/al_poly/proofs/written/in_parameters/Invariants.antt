use Rattle.std.proofs.Common.{◌≡◌, ◌++◌, take}
use Rattle.std.specs.List.{flat_map}
use Rattle.al_poly.specs.Written.{in_parameter}
use Rattle.al_poly.proofs.written.in_parameters.Given as goal

abbrev pub invariant-loop-p : goal.invariant-loop-p
invariant-loop-p l = l.types ≡ l.fn.types ++ flat_map in_parameter (take l.p-index l.list)
