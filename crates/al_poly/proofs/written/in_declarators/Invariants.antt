use Rattle.std.proofs.Common.{◌≡◌, ◌++◌, take}
use Rattle.std.specs.List.{flat_map}
use Rattle.al_poly.specs.Written.{in_declarator}
use Rattle.al_poly.proofs.written.in_declarators.Given as goal

abbrev pub invariant-loop-d : goal.invariant-loop-d
invariant-loop-d l = l.types ≡ l.fn.types ++ flat_map in_declarator (take l.d-index l.list)
