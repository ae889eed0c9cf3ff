use Rattle.std.proofs.Common.{◌≡◌}
use Rattle.rv_image.specs.Reading.{number_at, items_of}
use Rattle.rv_image.proofs.reading.items_of.Given as goal

abbrev pub invariant-loop-k : goal.invariant-loop-k
invariant-loop-k l = l.items ≡ items_of (number_at l.bytes) l.begin l.k
