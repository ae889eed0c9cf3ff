use Rattle.std.proofs.Common.{◌≡◌, map, take}
use Rattle.al_tree.specs.Items.{number_of}
use Rattle.al_parse_stmt.proofs.adts.numbers_of.Given as goal

abbrev pub invariant-loop-name : goal.invariant-loop-name
invariant-loop-name l = l.all ≡ map number_of (take l.name-index l.names)
