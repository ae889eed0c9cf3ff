use Rattle.std.proofs.Common.{◌≡◌, map, drop}
use Rattle.al_rules.specs.Outcome.{preceded}
use Rattle.al_type_expr.specs.Lists.{each}
use Rattle.al_type_stmt.specs.Statements.{branch_at, part, places}
use Rattle.al_type_stmt.proofs.lists.branch_numbers.Given as goal

abbrev pub invariant-loop-s : goal.invariant-loop-s
invariant-loop-s l =
    each (map (branch_at l.w) (places (map (part l.w l.env l.here) l.branches)))
    ≡ preceded l.done (each (map (branch_at l.w) (places (map (part l.w l.env l.here) (drop l.s-index l.branches)))))
