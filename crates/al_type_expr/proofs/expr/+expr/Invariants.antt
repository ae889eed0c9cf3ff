use Rattle.std.proofs.Common.{◌≡◌, ◌+◌, ◌*◌, max, map, drop}
use Rattle.al_tree.specs.declared.expression.Expr.{size-Expr}
use Rattle.al_rules.specs.Outcome.{preceded}
use Rattle.al_type_expr.specs.Lists.{columns, arguments, prints, each}
use Rattle.al_type_expr.specs.Nodes.{node, value_of, dropped_value, targets}
use Rattle.al_type_expr.proofs.ListsAre.{joined}
use Rattle.al_type_expr.proofs.expr.+expr.Given as goal

abbrev pub invariant-columns-loop-part : goal.invariant-columns-loop-part
invariant-columns-loop-part l =
    columns (map (value_of l.env l.here) l.parts)
    ≡ joined l.done (columns (map (value_of l.env l.here) (drop l.part-index l.parts)))

abbrev pub invariant-each_dropped-loop-part : goal.invariant-each_dropped-loop-part
invariant-each_dropped-loop-part l =
    each (map (dropped_value l.env l.here) l.parts) ≡ preceded l.done (each (map (dropped_value l.env l.here) (drop l.part-index l.parts)))

abbrev pub invariant-arguments-loop-part : goal.invariant-arguments-loop-part
invariant-arguments-loop-part l =
    arguments l.at l.fn.parameters (map (value_of l.env l.here) l.written)
    ≡ preceded l.done (arguments l.at l.parameters (map (value_of l.env l.here) (drop l.part-index l.written)))

abbrev pub invariant-prints-loop-part : goal.invariant-prints-loop-part
invariant-prints-loop-part l =
    prints (map (value_of l.env l.here) l.written) ≡ preceded l.done (prints (map (value_of l.env l.here) (drop l.part-index l.written)))

abbrev pub invariant-targets-loop-part : goal.invariant-targets-loop-part
invariant-targets-loop-part l =
    targets l.at (map (node l.env l.here) l.parts) l.fn.types
    ≡ preceded l.done (targets l.at (map (node l.env l.here) (drop l.part-index l.parts)) l.types)

abbrev pub decreases-found : goal.decreases-found
decreases-found l = 16 * size-Expr l.e.now

abbrev pub decreases-value_of : goal.decreases-value_of
decreases-value_of l = 16 * size-Expr l.e.now + 1

abbrev pub decreases-callee : goal.decreases-callee
decreases-callee l = 16 * size-Expr l.e.now + 2

abbrev pub decreases-target : goal.decreases-target
decreases-target l = 16 * size-Expr l.e.now + 2

abbrev pub decreases-values : goal.decreases-values
decreases-values l = 16 * max (size-Expr l.a.now) (size-Expr l.b.now) + 3

abbrev pub decreases-found_and_value : goal.decreases-found_and_value
decreases-found_and_value l = 16 * max (size-Expr l.a.now) (size-Expr l.b.now) + 3

abbrev pub decreases-assignment : goal.decreases-assignment
decreases-assignment l = 16 * max (size-Expr l.a.now) (size-Expr l.b.now) + 4

abbrev pub decreases-columns : goal.decreases-columns
decreases-columns l = 16 * goal.size-columns l + 2

abbrev pub decreases-each_dropped : goal.decreases-each_dropped
decreases-each_dropped l = 16 * goal.size-each_dropped l + 2

abbrev pub decreases-arguments : goal.decreases-arguments
decreases-arguments l = 16 * goal.size-arguments l + 3

abbrev pub decreases-prints : goal.decreases-prints
decreases-prints l = 16 * goal.size-prints l + 3

abbrev pub decreases-targets : goal.decreases-targets
decreases-targets l = 16 * goal.size-targets l + 4

abbrev pub decreases-tuple_target : goal.decreases-tuple_target
decreases-tuple_target l = 16 * goal.size-tuple_target l + 5

abbrev pub decreases-print_call : goal.decreases-print_call
decreases-print_call l = 16 * goal.size-print_call l + 7

abbrev pub decreases-print_with : goal.decreases-print_with
decreases-print_with l = 16 * goal.size-print_with l + 6

abbrev pub decreases-format_call : goal.decreases-format_call
decreases-format_call l = 16 * goal.size-format_call l + 5

abbrev pub decreases-terminate_call : goal.decreases-terminate_call
decreases-terminate_call l = 16 * goal.size-terminate_call l + 6

abbrev pub decreases-called : goal.decreases-called
decreases-called l = 16 * goal.size-called l + 8

abbrev pub decreases-dropped_value : goal.decreases-dropped_value
decreases-dropped_value l = 16 * size-Expr l.e.now + 1

abbrev pub decreases-argument : goal.decreases-argument
decreases-argument l = 16 * size-Expr l.written.now + 2

abbrev pub decreases-print_of : goal.decreases-print_of
decreases-print_of l = 16 * size-Expr l.written.now + 2

abbrev pub decreases-assigned : goal.decreases-assigned
decreases-assigned l = 16 * max (size-Expr l.a.now) (size-Expr l.b.now) + 3

abbrev pub decreases-tuple_node : goal.decreases-tuple_node
decreases-tuple_node l = 16 * goal.size-tuple_node l + 3

abbrev pub decreases-unary_node : goal.decreases-unary_node
decreases-unary_node l = 16 * size-Expr l.of.now + 2

abbrev pub decreases-cast_node : goal.decreases-cast_node
decreases-cast_node l = 16 * size-Expr l.of.now + 2

abbrev pub decreases-sizeof_node : goal.decreases-sizeof_node
decreases-sizeof_node l = 16 * size-Expr l.of.now + 2

abbrev pub decreases-index_node : goal.decreases-index_node
decreases-index_node l = 16 * max (size-Expr l.of.now) (size-Expr l.by.now) + 4

abbrev pub decreases-member_node : goal.decreases-member_node
decreases-member_node l = 16 * size-Expr l.of.now + 2

abbrev pub decreases-call_node : goal.decreases-call_node
decreases-call_node l = 16 * max (size-Expr l.f.now) (goal.size-call_node l) + 9

abbrev pub decreases-postfix_node : goal.decreases-postfix_node
decreases-postfix_node l = 16 * size-Expr l.of.now + 2

abbrev pub decreases-binary_node : goal.decreases-binary_node
decreases-binary_node l = 16 * max (size-Expr l.a.now) (size-Expr l.b.now) + 4

abbrev pub decreases-assign_node : goal.decreases-assign_node
decreases-assign_node l = 16 * max (size-Expr l.a.now) (size-Expr l.b.now) + 5

abbrev pub decreases-sequence_node : goal.decreases-sequence_node
decreases-sequence_node l = 16 * goal.size-sequence_node l + 3
