use Rattle.std.proofs.Common.{◌≡◌, ◌++◌, drop}
use Rattle.std.specs.List.{flat_map}
use Rattle.al_link_text.specs.Items.{own_names}
use Rattle.al_link_names.specs.Twice.{all_defined, defined_by}
use Rattle.al_link_names.proofs.defined.all_defined.Given as goal

abbrev pub invariant-loop-item : goal.invariant-loop-item
invariant-loop-item l = all_defined l.file ≡ l.list ++ flat_map (defined_by l.file (own_names l.file.tree.items)) (drop l.item-index l.file.tree.items)
