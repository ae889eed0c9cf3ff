use Rattle.std.proofs.Common.{◌≡◌, take, map}
use Rattle.al_layout.proofs.order.no_places.Given as goal

abbrev pub invariant-loop-parts : goal.invariant-loop-parts
invariant-loop-parts l = l.numbers ≡ map (λ _. 0) (take l._parts-index l.graph)
