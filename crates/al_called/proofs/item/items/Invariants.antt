use Rattle.std.proofs.Common.{◌≡◌, drop}
use Rattle.al_called.specs.Expressions.{each}
use Rattle.al_called.specs.Items.{item_way}
use Rattle.al_called.proofs.item.items.Given as goal

abbrev pub invariant-loop-i : goal.invariant-loop-i
invariant-loop-i l = each (item_way l.names) l.list l.fn.faults ≡ each (item_way l.names) (drop l.i-index l.list) l.faults
