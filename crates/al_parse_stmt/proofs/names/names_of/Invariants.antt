use Rattle.std.proofs.Common.{◌≡◌, [], drop}
use Rattle.al_tree.specs.Leaves.{names_from}
use Rattle.al_parse_stmt.proofs.names.names_of.Given as goal

abbrev pub invariant-loop-t : goal.invariant-loop-t
invariant-loop-t l = names_from l.text [] l.tokens ≡ names_from l.text l.names (drop l.t-index l.tokens)
