use Rattle.std.proofs.Common.{◌≡◌, drop}
use Rattle.al_type_limits.specs.Expressions.{each}
use Rattle.al_type_limits.specs.Items.{initializer}
use Rattle.al_type_limits.proofs.item.+initializer.Given as goal

abbrev pub invariant-initializers-loop-i : goal.invariant-initializers-loop-i
invariant-initializers-loop-i l = each (initializer l.names) l.list l.fn.sum ≡ each (initializer l.names) (drop l.i-index l.list) l.sum
