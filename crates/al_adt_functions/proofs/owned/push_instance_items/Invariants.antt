use Rattle.std.proofs.Common.{◌≡◌, drop, fold}
use Rattle.al_adt_functions.specs.Owned.{with_instance_item}
use Rattle.al_adt_functions.proofs.owned.push_instance_items.Given as goal

abbrev pub invariant-loop-item : goal.invariant-loop-item
invariant-loop-item l = fold (with_instance_item l.env l.items l.defined l.k l.i) l.fn.w l.items ≡ fold (with_instance_item l.env l.items l.defined l.k l.i) l.w (drop l.item-index l.items)
