use Rattle.std.proofs.Common.{◌≡◌}
use Rattle.rv_image.specs.Reading.{number_at, functions_of}
use Rattle.rv_image.proofs.reading.functions_of.Given as goal

abbrev pub invariant-loop-k : goal.invariant-loop-k
invariant-loop-k l = l.rows ≡ functions_of (number_at l.bytes) l.begin l.k
