use Rattle.std.proofs.Common.{◌≡◌, drop, fold}
use Rattle.al_poly.specs.Types.{with_item}
use Rattle.al_poly.proofs.declare.add_items.Given as goal

abbrev pub invariant-loop-item : goal.invariant-loop-item
invariant-loop-item l = fold with_item l.fn.names l.items ≡ fold with_item l.names (drop l.item-index l.items)
