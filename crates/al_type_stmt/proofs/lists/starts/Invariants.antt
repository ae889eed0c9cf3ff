use Rattle.std.proofs.Common.{◌≡◌, map, drop}
use Rattle.al_rules.specs.Outcome.{preceded}
use Rattle.al_type_expr.specs.Lists.{each}
use Rattle.al_type_stmt.specs.Statements.{start_of}
use Rattle.al_type_stmt.proofs.lists.starts.Given as goal

abbrev pub invariant-loop-e : goal.invariant-loop-e
invariant-loop-e l = each (map (start_of l.env l.here) l.es) ≡ preceded l.done (each (map (start_of l.env l.here) (drop l.e-index l.es)))
