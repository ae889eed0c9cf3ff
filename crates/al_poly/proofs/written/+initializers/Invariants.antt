use Rattle.std.proofs.Common.{◌≡◌, ◌++◌, take}
use Rattle.std.specs.List.{flat_map}
use Rattle.al_poly.specs.Written.{in_initializer}
use Rattle.al_poly.proofs.written.+initializers.Given as goal

abbrev pub invariant-in_initializers-loop-i : goal.invariant-in_initializers-loop-i
invariant-in_initializers-loop-i l = l.types ≡ l.fn.types ++ flat_map in_initializer (take l.i-index l.parts)
