use Rattle.std.proofs.Common.{◌≡◌, ◌+◌, ◌*◌, map, drop}
use Rattle.al_rules.specs.Outcome.{preceded}
use Rattle.al_tree.specs.declared.statement.Stmt.{size-Stmt}
use Rattle.al_type_expr.specs.Lists.{each}
use Rattle.al_type_stmt.specs.Statements.{in_choice, part}
use Rattle.al_type_stmt.proofs.stmt.+statements.Given as goal

abbrev pub invariant-statements-loop-s : goal.invariant-statements-loop-s
invariant-statements-loop-s l =
    (each (map (in_choice l.choice) (map (part l.w l.env l.fn.here) l.body))
    ≡ preceded l.done (each (map (in_choice l.choice) (map (part l.w l.env l.fn.here) (drop l.s-index l.body)))))
    × (l.here ≡ l.fn.here)

abbrev pub decreases-statement : goal.decreases-statement
decreases-statement l = 16 * size-Stmt l.s.now

abbrev pub decreases-statements : goal.decreases-statements
decreases-statements l = 16 * goal.size-statements l + 1

abbrev pub decreases-boxed : goal.decreases-boxed
decreases-boxed l = 16 * size-Stmt l.s.now + 1

abbrev pub decreases-optional_statement : goal.decreases-optional_statement
decreases-optional_statement l = 16 * goal.size-optional_statement l + 2

abbrev pub decreases-block_at : goal.decreases-block_at
decreases-block_at l = 16 * goal.size-block_at l + 2

abbrev pub decreases-label_at : goal.decreases-label_at
decreases-label_at l = 16 * size-Stmt l.body.now + 2

abbrev pub decreases-rescue_at : goal.decreases-rescue_at
decreases-rescue_at l = 16 * size-Stmt l.body.now + 2

abbrev pub decreases-while_at : goal.decreases-while_at
decreases-while_at l = 16 * size-Stmt l.body.now + 2

abbrev pub decreases-do_at : goal.decreases-do_at
decreases-do_at l = 16 * size-Stmt l.body.now + 2

abbrev pub decreases-for_at : goal.decreases-for_at
decreases-for_at l = 16 * size-Stmt l.body.now + 2

abbrev pub decreases-switch_in : goal.decreases-switch_in
decreases-switch_in l = 16 * goal.size-switch_in l + 2

abbrev pub decreases-switch_on : goal.decreases-switch_on
decreases-switch_on l = 16 * goal.size-switch_on l + 3

abbrev pub decreases-switch_at : goal.decreases-switch_at
decreases-switch_at l = 16 * goal.size-switch_at l + 4

abbrev pub decreases-alt_at : goal.decreases-alt_at
decreases-alt_at l = 16 * goal.size-alt_at l + 2
