use Rattle.std.proofs.Common.{◌≡◌, take}
use Rattle.al_type_nodes.proofs.names.copies.Given as goal

abbrev pub invariant-loop-ty : goal.invariant-loop-ty
invariant-loop-ty l = l.out ≡ take l.ty-index l.types
