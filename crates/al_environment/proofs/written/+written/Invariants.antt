use Rattle.std.proofs.Common.{◌≡◌, ◌+◌, ◌*◌, drop, map}
use Rattle.al_tree.specs.declared.type_tree.TypeTree.{size-TypeTree}
use Rattle.al_environment.specs.Written.{all_of, written}
use Rattle.al_environment.proofs.WrittenIs.{with_rest}
use Rattle.al_environment.proofs.written.+written.Given as goal

abbrev pub invariant-all_written-loop-t : goal.invariant-all_written-loop-t
invariant-all_written-loop-t l = all_of (map (written l.env l.here) l.list) ≡ with_rest l.types (all_of (map (written l.env l.here) (drop l.t-index l.list)))

abbrev pub decreases-written_type : goal.decreases-written_type
decreases-written_type l = 8 * size-TypeTree l.t.now

abbrev pub decreases-all_written : goal.decreases-all_written
decreases-all_written l = 8 * goal.size-all_written l + 1

abbrev pub decreases-type_named : goal.decreases-type_named
decreases-type_named l = 8 * goal.size-type_named l + 3
