use Rattle.std.proofs.Common.{◌≡◌, take}
use Rattle.std.specs.List.{flat_map}
use Rattle.al_typed.specs.Measures.{tallied, statement_pieces}
use Rattle.al_typed.proofs.count_statement.+count_statement.Given as goal

abbrev pub invariant-statements-loop-s : goal.invariant-statements-loop-s
invariant-statements-loop-s l = l.tally ≡ tallied l.p l.fn.tally (flat_map statement_pieces (take l.s-index l.row))
