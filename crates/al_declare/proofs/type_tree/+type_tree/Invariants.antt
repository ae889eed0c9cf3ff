use Rattle.std.proofs.Common.{◌≡◌, drop}
use Rattle.al_declare.specs.Types.{each, type_tree}
use Rattle.al_declare.proofs.type_tree.+type_tree.Given as goal

abbrev pub invariant-type_trees-loop-t : goal.invariant-type_trees-loop-t
invariant-type_trees-loop-t l = each type_tree l.list l.c l.fn.w ≡ each type_tree (drop l.t-index l.list) l.c l.w
