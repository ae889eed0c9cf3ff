use Rattle.std.proofs.Common.{◌≡◌, take}
use Rattle.std.specs.List.{flat_map}
use Rattle.al_typed.specs.Measures.{tallied, start_pieces}
use Rattle.al_typed.proofs.count_statement.starts.Given as goal

abbrev pub invariant-loop-call : goal.invariant-loop-call
invariant-loop-call l = l.tally ≡ tallied l.p l.fn.tally (flat_map start_pieces (take l.call-index l.calls))
