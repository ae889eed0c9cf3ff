use Rattle.std.proofs.Common.{◌≡◌, ◌++◌, take}
use Rattle.std.specs.List.{flat_map}
use Rattle.al_poly.specs.Written.{in_constant}
use Rattle.al_poly.proofs.written.in_constants.Given as goal

abbrev pub invariant-loop-c : goal.invariant-loop-c
invariant-loop-c l = l.types ≡ l.fn.types ++ flat_map in_constant (take l.c-index l.constants)
