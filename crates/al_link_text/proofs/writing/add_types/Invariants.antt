use Rattle.std.proofs.Common.{◌++◌, drop}
use Rattle.al_link_text.specs.Items.{of_items}
use Rattle.al_link_text.specs.Linked.{Alike, type_text, type_texts}
use Rattle.al_link_text.proofs.writing.add_types.Given as goal

abbrev pub invariant-loop-at : goal.invariant-loop-at
invariant-loop-at l = Alike (l.texts ++ of_items (type_text l.file) (drop l.at l.file.tree.items) l.tokens) (l.fn.texts ++ type_texts l.file)
