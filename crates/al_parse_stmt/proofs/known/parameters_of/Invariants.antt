use Rattle.std.proofs.Common.{◌≡◌, take}
use Rattle.al_tree.specs.Items.{parameters_of}
use Rattle.al_parse_stmt.specs.Known.{adts_of}
use Rattle.al_parse_stmt.proofs.known.parameters_of.Given as goal

abbrev pub invariant-loop-a : goal.invariant-loop-a
invariant-loop-a l = l.all ≡ parameters_of (adts_of (take l.a-index l.adts)) l.name
