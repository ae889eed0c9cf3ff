use Rattle.std.proofs.Common.{◌≡◌, drop}
use Rattle.al_elements.specs.Elements.{in_types}
use Rattle.al_elements.proofs.element.+elements_in.Given as goal

abbrev pub invariant-all_elements_in-loop-ty : goal.invariant-all_elements_in-loop-ty
invariant-all_elements_in-loop-ty l = in_types l.types l.fn.list ≡ in_types (drop l.ty-index l.types) l.list
