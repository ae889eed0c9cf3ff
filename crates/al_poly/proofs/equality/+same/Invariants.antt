use Rattle.std.proofs.Common.{◌≡◌, ◌+◌, ◌*◌, drop}
use Rattle.al_poly.specs.declared.concrete_type.ConcreteType.{size-ConcreteType}
use Rattle.al_poly.specs.Concrete.{same_list}
use Rattle.al_poly.proofs.equality.+same.Given as goal

abbrev pub invariant-same_list-loop-i : goal.invariant-same_list-loop-i
invariant-same_list-loop-i l = same_list l.xs l.ys ≡ same_list (drop l.i l.xs) (drop l.i l.ys)

abbrev pub decreases-same : goal.decreases-same
decreases-same l = 8 * size-ConcreteType l.a.now

abbrev pub decreases-is_same : goal.decreases-is_same
decreases-is_same l = 8 * size-ConcreteType l.x.now + 1

abbrev pub decreases-same_list : goal.decreases-same_list
decreases-same_list l = 8 * goal.size-same_list l + 1

abbrev pub decreases-are_same : goal.decreases-are_same
decreases-are_same l = 8 * goal.size-are_same l + 2
