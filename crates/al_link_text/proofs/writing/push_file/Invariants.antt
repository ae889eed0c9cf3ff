use Rattle.std.proofs.Common.{◌≡◌, ◌++◌, drop}
use Rattle.al_link_text.specs.Items.{of_items}
use Rattle.al_link_text.specs.Linked.{linked_item, linked_file}
use Rattle.al_link_text.proofs.writing.push_file.Given as goal

abbrev pub invariant-loop-at : goal.invariant-loop-at
invariant-loop-at l =
    l.fn.text.items ++ linked_file l.earlier l.k l.file
    ≡ l.text.items ++ of_items (linked_item l.earlier l.k l.file) (drop l.at l.file.tree.items) l.tokens
