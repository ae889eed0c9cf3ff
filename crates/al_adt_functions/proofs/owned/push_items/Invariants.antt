use Rattle.std.proofs.Common.{◌≡◌, drop, fold}
use Rattle.al_adt_functions.specs.Owned.{with_item}
use Rattle.al_adt_functions.proofs.owned.push_items.Given as goal

abbrev pub invariant-loop-item : goal.invariant-loop-item
invariant-loop-item l = fold (with_item l.env l.items l.defined) l.fn.w l.items ≡ fold (with_item l.env l.items l.defined) l.w (drop l.item-index l.items)
