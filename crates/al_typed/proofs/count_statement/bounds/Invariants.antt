use Rattle.std.proofs.Common.{◌≡◌, take}
use Rattle.std.specs.List.{flat_map}
use Rattle.al_typed.specs.Measures.{tallied, bounds_pieces}
use Rattle.al_typed.proofs.count_statement.bounds.Given as goal

abbrev pub invariant-loop-iterator : goal.invariant-loop-iterator
invariant-loop-iterator l = l.tally ≡ tallied l.p l.fn.tally (flat_map bounds_pieces (take l.iterator-index l.iterators))
