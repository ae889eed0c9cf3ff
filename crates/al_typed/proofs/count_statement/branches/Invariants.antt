use Rattle.std.proofs.Common.{◌≡◌, take}
use Rattle.std.specs.List.{flat_map}
use Rattle.al_typed.specs.Measures.{tallied, branch_pieces}
use Rattle.al_typed.proofs.count_statement.branches.Given as goal

abbrev pub invariant-loop-number : goal.invariant-loop-number
invariant-loop-number l = l.tally ≡ tallied l.p l.fn.tally (flat_map branch_pieces (take l.number-index l.numbers))
