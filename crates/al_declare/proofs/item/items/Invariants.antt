use Rattle.std.proofs.Common.{◌≡◌, drop}
use Rattle.al_declare.specs.Types.{each}
use Rattle.al_declare.specs.Items.{item_way}
use Rattle.al_declare.proofs.item.items.Given as goal

abbrev pub invariant-loop-i : goal.invariant-loop-i
invariant-loop-i l = each item_way l.list l.c l.fn.w ≡ each item_way (drop l.i-index l.list) l.c l.w
