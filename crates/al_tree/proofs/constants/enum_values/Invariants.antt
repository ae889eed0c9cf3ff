use Rattle.std.proofs.Common.{◌≡◌, fold, drop}
use Rattle.al_tree.specs.Constants.{nothing_known, with_item}
use Rattle.al_tree.proofs.constants.enum_values.Given as goal

abbrev pub invariant-loop-item : goal.invariant-loop-item
invariant-loop-item l = fold with_item nothing_known l.item-items ≡ fold with_item l.known (drop l.item-index l.item-items)
