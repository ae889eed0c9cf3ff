use Rattle.std.proofs.Common.{◌≡◌, take}
use Rattle.al_typed.specs.Capped.{capped}
use Rattle.al_typed.specs.Layout.{size_of}
use Rattle.al_typed.specs.Measures.{greatest_by}
use Rattle.al_typed.proofs.measure.greatest_element.Given as goal

abbrev pub invariant-loop-ty : goal.invariant-loop-ty
invariant-loop-ty l = l.greatest ≡ capped (greatest_by (size_of l.p.aggregates) (take l.ty-index l.p.elements))
