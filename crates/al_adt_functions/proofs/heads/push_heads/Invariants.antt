use Rattle.std.proofs.Common.{◌≡◌, drop, fold}
use Rattle.al_adt_functions.specs.Heads.{with_item}
use Rattle.al_adt_functions.proofs.heads.push_heads.Given as goal

abbrev pub invariant-loop-item : goal.invariant-loop-item
invariant-loop-item l = fold (with_item l.env l.list) l.fn.faults l.items ≡ fold (with_item l.env l.list) l.faults (drop l.item-index l.items)
