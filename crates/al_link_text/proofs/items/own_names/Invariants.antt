use Rattle.std.proofs.Common.{◌≡◌, fold, drop}
use Rattle.al_link_text.specs.Items.{own_names, with_item}
use Rattle.al_link_text.proofs.items.own_names.Given as goal

abbrev pub invariant-loop-item : goal.invariant-loop-item
invariant-loop-item l = own_names l.items ≡ fold with_item l.names (drop l.item-index l.items)
