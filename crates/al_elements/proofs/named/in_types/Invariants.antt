use Rattle.std.proofs.Common.{◌≡◌, drop}
use Rattle.al_elements.specs.Elements.{each}
use Rattle.al_elements.specs.Named.{in_optional}
use Rattle.al_elements.proofs.named.in_types.Given as goal

abbrev pub invariant-loop-ty : goal.invariant-loop-ty
invariant-loop-ty l = each in_optional l.types l.fn.list ≡ each in_optional (drop l.ty-index l.types) l.list
