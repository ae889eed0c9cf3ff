use Rattle.std.proofs.Common.{◌≡◌, drop}
use Rattle.al_tree.specs.Types.{with_names}
use Rattle.al_parse_stmt.proofs.adts.declare_all.Given as goal

abbrev pub invariant-loop-name : goal.invariant-loop-name
invariant-loop-name l = with_names l.fn.types l.names ≡ with_names l.types (drop l.name-index l.names)
