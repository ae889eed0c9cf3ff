use Rattle.std.proofs.Common.{◌≡◌, ◌-◌, length}
use Rattle.al_layout.specs.Order.{rounds}
use Rattle.al_layout.proofs.order.rounds.Given as goal

abbrev pub invariant-loop-n : goal.invariant-loop-n
invariant-loop-n l = rounds (length l.graph) l.graph l.fn.w ≡ rounds (length l.graph - l._n) l.graph l.w
