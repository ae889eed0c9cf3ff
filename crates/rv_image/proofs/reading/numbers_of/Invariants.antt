use Rattle.std.proofs.Common.{◌≡◌}
use Rattle.rv_image.specs.Reading.{number_at, numbers_of}
use Rattle.rv_image.proofs.reading.numbers_of.Given as goal

abbrev pub invariant-loop-k : goal.invariant-loop-k
invariant-loop-k l = l.numbers ≡ numbers_of (number_at l.bytes) l.begin l.k
