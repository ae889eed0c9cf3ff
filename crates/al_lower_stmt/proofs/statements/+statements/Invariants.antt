use Rattle.std.proofs.Common.{◌≡◌, ◌+◌, ◌*◌, ◌++◌, max, drop}
use Rattle.al_typed.specs.declared.statement.TStmt.{size-TStmt}
use Rattle.al_lower_base.specs.Spots.{spot_of}
use Rattle.al_lower_stmt.specs.Bodies.{codes_from}
use Rattle.al_lower_stmt.specs.Leading.{targets_in}
use Rattle.al_lower_stmt.proofs.statements.+statements.Given as goal

abbrev pub invariant-all_statements-loop-a : goal.invariant-all_statements-loop-a
invariant-all_statements-loop-a l =
    l.code ++ codes_from (spot_of l.s) (targets_in l.c) (drop l.a-index l.body) l.at
    ≡ l.fn.code ++ codes_from (spot_of l.s) (targets_in l.c) l.body l.pc

abbrev pub decreases-statement : goal.decreases-statement
decreases-statement l = 16 * size-TStmt l.a.now

abbrev pub decreases-part : goal.decreases-part
decreases-part l = 16 * size-TStmt l.a.now + 1

abbrev pub decreases-all_statements : goal.decreases-all_statements
decreases-all_statements l = 16 * goal.size-all_statements l + 1

abbrev pub decreases-items : goal.decreases-items
decreases-items l = 16 * goal.size-items l + 2

abbrev pub decreases-in_loop : goal.decreases-in_loop
decreases-in_loop l = 16 * size-TStmt l.body.now + 2

abbrev pub decreases-in_cases : goal.decreases-in_cases
decreases-in_cases l = 16 * goal.size-in_cases l + 3

abbrev pub decreases-skipped : goal.decreases-skipped
decreases-skipped l = 16 * size-TStmt l.a.now + 2

abbrev pub decreases-other : goal.decreases-other
decreases-other l = 16 * goal.size-other l + 3

abbrev pub decreases-if_code : goal.decreases-if_code
decreases-if_code l = 16 * max (goal.size-if_code l) (size-TStmt l.chosen.now) + 4

abbrev pub decreases-while_code : goal.decreases-while_code
decreases-while_code l = 16 * size-TStmt l.body.now + 3

abbrev pub decreases-do_code : goal.decreases-do_code
decreases-do_code l = 16 * size-TStmt l.body.now + 3

abbrev pub decreases-rounds : goal.decreases-rounds
decreases-rounds l = 16 * size-TStmt l.body.now + 3

abbrev pub decreases-for_code : goal.decreases-for_code
decreases-for_code l = 16 * size-TStmt l.body.now + 4

abbrev pub decreases-switch_code : goal.decreases-switch_code
decreases-switch_code l = 16 * goal.size-switch_code l + 4

abbrev pub decreases-alt_code : goal.decreases-alt_code
decreases-alt_code l = 16 * goal.size-alt_code l + 4
