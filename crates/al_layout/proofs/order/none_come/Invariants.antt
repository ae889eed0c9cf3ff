use Rattle.std.proofs.Common.{◌≡◌, take, map, false}
use Rattle.al_layout.proofs.order.none_come.Given as goal

abbrev pub invariant-loop-parts : goal.invariant-loop-parts
invariant-loop-parts l = l.come ≡ map (λ _. false) (take l._parts-index l.graph)
