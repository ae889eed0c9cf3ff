use Rattle.std.proofs.Common.{◌≡◌, drop}
use Rattle.std.specs.List.{flat_map}
use Rattle.al_rules.specs.Outcome.{preceded}
use Rattle.al_type_expr.specs.Lists.{each}
use Rattle.al_type_stmt.specs.Statements.{initializers}
use Rattle.al_type_stmt.proofs.lists.declared.Given as goal

abbrev pub invariant-loop-v : goal.invariant-loop-v
invariant-loop-v l =
    each (flat_map (initializers l.env l.here) l.variables) ≡ preceded l.done (each (flat_map (initializers l.env l.here) (drop l.v-index l.variables)))
