use Rattle.std.proofs.Common.{◌≡◌, drop, fold}
use Rattle.al_initial.specs.Adts.{with_item}
use Rattle.al_initial.proofs.adts.mark_items.Given as goal

abbrev pub invariant-loop-item : goal.invariant-loop-item
invariant-loop-item l = fold (with_item l.env) l.fn.adts l.items ≡ fold (with_item l.env) l.adts (drop l.item-index l.items)
