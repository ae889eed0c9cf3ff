use Rattle.std.proofs.Common.{◌≡◌, take}
use Rattle.al_parse_stmt.specs.Begun.{owners}
use Rattle.al_parse_stmt.specs.Known.{adts_of}
use Rattle.al_parse_stmt.proofs.known.owners.Given as goal

abbrev pub invariant-loop-a : goal.invariant-loop-a
invariant-loop-a l = l.all ≡ owners (adts_of (take l.a-index l.adts))
