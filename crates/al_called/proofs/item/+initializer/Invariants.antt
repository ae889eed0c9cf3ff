use Rattle.std.proofs.Common.{◌≡◌, drop}
use Rattle.al_called.specs.Expressions.{each}
use Rattle.al_called.specs.Items.{initializer}
use Rattle.al_called.proofs.item.+initializer.Given as goal

abbrev pub invariant-initializers-loop-i : goal.invariant-initializers-loop-i
invariant-initializers-loop-i l = each (initializer l.names) l.list l.fn.faults ≡ each (initializer l.names) (drop l.i-index l.list) l.faults
