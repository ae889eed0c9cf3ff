use Rattle.std.proofs.Common.{◌≡◌, drop, false}
use Rattle.al_layout.specs.Order.{round}
use Rattle.al_layout.proofs.order.round.Given as goal

abbrev pub invariant-loop-k : goal.invariant-loop-k
invariant-loop-k l = (round 0 l.graph l.fn.w ≡ round l.k (drop l.k l.graph) l.w) × (l.moves ≡ false → l.w ≡ l.fn.w)
