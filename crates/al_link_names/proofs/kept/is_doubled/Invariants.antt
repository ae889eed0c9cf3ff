use Rattle.std.proofs.Common.{◌≡◌, false, drop}
use Rattle.al_link_names.specs.Reserved.{doubled}
use Rattle.al_link_names.proofs.kept.is_doubled.Given as goal

abbrev pub invariant-loop-byte : goal.invariant-loop-byte
invariant-loop-byte l = doubled false l.bytes ≡ doubled l.behind (drop l.byte-index l.bytes)
