use Rattle.std.proofs.Common.{◌≡◌, ◌++◌, drop}
use Rattle.al_lower_code.specs.Functions.{byte_items}
use Rattle.al_lower.proofs.globals.byte_items.Given as goal

abbrev pub invariant-loop-byte : goal.invariant-loop-byte
invariant-loop-byte l = l.items ++ byte_items l.at (drop l.byte-index l.bytes) ≡ byte_items 0 l.bytes
