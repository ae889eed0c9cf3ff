use Rattle.std.proofs.Common.{◌≡◌, ◌+◌, ◌*◌, ◌++◌, drop}
use Rattle.std.specs.List.{flat_map}
use Rattle.al_tree.specs.declared.type_tree.TypeTree.{size-TypeTree}
use Rattle.al_type_rules.specs.Written.{faults_of}
use Rattle.al_type_rules.proofs.written.+faults.Given as goal

abbrev pub invariant-children-loop-t : goal.invariant-children-loop-t
invariant-children-loop-t l =
    l.fn.faults ++ flat_map (faults_of l.env l.here l.stands l.at) l.list
    ≡ l.faults ++ flat_map (faults_of l.env l.here l.stands l.at) (drop l.t-index l.list)

abbrev pub decreases-push_faults : goal.decreases-push_faults
decreases-push_faults l = 8 * size-TypeTree l.t.now

abbrev pub decreases-child : goal.decreases-child
decreases-child l = 8 * size-TypeTree l.t.now + 1

abbrev pub decreases-children : goal.decreases-children
decreases-children l = 8 * goal.size-children l + 2
