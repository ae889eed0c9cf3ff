use Rattle.std.proofs.Common.{◌≡◌, take}
use Rattle.std.specs.List.{flat_map}
use Rattle.al_typed.specs.Measures.{tallied, whole_pieces, argument_pieces, target_pieces}
use Rattle.al_typed.proofs.count.+count.Given as goal

abbrev pub invariant-expressions-loop-e : goal.invariant-expressions-loop-e
invariant-expressions-loop-e l = l.tally ≡ tallied l.p l.fn.tally (flat_map whole_pieces (take l.e-index l.row))

abbrev pub invariant-passed_on-loop-e : goal.invariant-passed_on-loop-e
invariant-passed_on-loop-e l = l.tally ≡ tallied l.p l.fn.tally (flat_map argument_pieces (take l.e-index l.row))

abbrev pub invariant-all_assigned-loop-target : goal.invariant-all_assigned-loop-target
invariant-all_assigned-loop-target l = l.tally ≡ tallied l.p l.fn.tally (flat_map target_pieces (take l.target-index l.row))
