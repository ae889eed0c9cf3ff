use Rattle.std.proofs.Common.{◌≡◌, ◌++◌, take}
use Rattle.std.specs.List.{flat_map}
use Rattle.rv_image.specs.Spelling.{spelled, item_row}
use Rattle.rv_image.proofs.writing.put_items.Given as goal

abbrev pub invariant-loop-item : goal.invariant-loop-item
invariant-loop-item l = l.out.items ≡ l.initial.out.items ++ spelled (flat_map item_row (take l.item-index l.items))
