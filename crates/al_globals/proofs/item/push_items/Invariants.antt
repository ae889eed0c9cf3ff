use Rattle.std.proofs.Common.{◌≡◌, drop, fold}
use Rattle.al_globals.specs.Globals.{with_item}
use Rattle.al_globals.proofs.item.push_items.Given as goal

abbrev pub invariant-loop-item : goal.invariant-loop-item
invariant-loop-item l = fold (with_item l.env l.here l.ns) l.fn.w l.items ≡ fold (with_item l.env l.here l.ns) l.w (drop l.item-index l.items)
