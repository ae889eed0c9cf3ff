use Rattle.std.proofs.Common.{◌≡◌, drop}
use Rattle.al_layout.specs.Order.{with_left}
use Rattle.al_layout.proofs.order.with_left.Given as goal

abbrev pub invariant-loop-k : goal.invariant-loop-k
invariant-loop-k l = with_left 0 l.graph l.fn.w ≡ with_left l.k (drop l.k l.graph) l.w
