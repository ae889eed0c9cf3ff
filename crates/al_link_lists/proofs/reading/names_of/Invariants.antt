use Rattle.std.proofs.Common.{◌≡◌, ◌≤◌, ◌++◌, length, All}
use Rattle.al_link_lists.specs.Lists.{list_text, IsFileName, most}
use Rattle.al_link_lists.proofs.reading.names_of.Given as goal

abbrev pub invariant-loop-names : goal.invariant-loop-names
invariant-loop-names l = (l.text ≡ list_text l.names ++ l.rest) × All IsFileName l.names × (length l.names ≤ most)

abbrev pub decreases-loop-names : goal.decreases-loop-names
decreases-loop-names l = length l.rest
