use Rattle.std.proofs.Common.{◌≡◌, map, drop}
use Rattle.al_rules.specs.Outcome.{preceded}
use Rattle.al_type_expr.specs.Lists.{each}
use Rattle.al_type_stmt.specs.Statements.{alloc_place}
use Rattle.al_type_stmt.proofs.lists.alloc_places.Given as goal

abbrev pub invariant-loop-e : goal.invariant-loop-e
invariant-loop-e l = each (map (alloc_place l.env l.here) l.es) ≡ preceded l.done (each (map (alloc_place l.env l.here) (drop l.e-index l.es)))
