use Rattle.std.proofs.Common.{◌≡◌, ◌+◌, ◌++◌, drop}
use Rattle.al_link_text.specs.Linked.{linked, linked_from}
use Rattle.al_link_text.proofs.writing.linked.Given as goal

abbrev pub invariant-loop-file : goal.invariant-loop-file
invariant-loop-file l = (l.text.items ++ linked_from l.earlier l.k (drop l.file-index l.files) ≡ linked l.files) × (l.k ≡ l.file-index + 1)
