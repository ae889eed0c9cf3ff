use Rattle.std.proofs.Common.{◌≡◌, take}
use Rattle.std.specs.List.{flat_map}
use Rattle.al_typed.specs.Measures.{tallied, initializer_pieces}
use Rattle.al_typed.proofs.count_statement.initializers.Given as goal

abbrev pub invariant-loop-initializer : goal.invariant-loop-initializer
invariant-loop-initializer l = l.tally ≡ tallied l.p l.fn.tally (flat_map initializer_pieces (take l.initializer-index l.list))
