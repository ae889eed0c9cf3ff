use Rattle.std.proofs.Common.{◌≡◌, ◌+◌, ◌*◌}
use Rattle.al_tree.specs.declared.item.Initializer.{size-Initializer}
use Rattle.al_rules.specs.Outcome.{preceded}
use Rattle.al_typed.specs.Layout.{size_of}
use Rattle.al_initial.specs.Initializers.{elements, members, all_started, initializer}
use Rattle.std.proofs.Common.{map}
use Rattle.al_initial.proofs.PartsAre.{left_from, elements_from, Left}
use Rattle.al_initial.proofs.initializer.+initializer.Given as goal

abbrev pub invariant-elements-loop-n : goal.invariant-elements-loop-n
invariant-elements-loop-n l =
    let f = initializer l.env l.here l.adts in
    let size = size_of l.env.aggregates l.element in
    all_started (map f l.list) (elements size l.element l.count) l.offset
    ≡ preceded l.done (left_from f l.list l.n (elements_from size l.element l.count l.n) l.offset)

abbrev pub invariant-members-loop-i : goal.invariant-members-loop-i
invariant-members-loop-i l =
    let f = initializer l.env l.here l.adts in
    Left f l.list l.env.aggregates l.offset (all_started (map f l.list) (members l.env.aggregates l.fn.types) l.offset) l.i-index l.end l.types l.done

abbrev pub decreases-initializer : goal.decreases-initializer
decreases-initializer l = 8 * size-Initializer l.i.now

abbrev pub decreases-elements : goal.decreases-elements
decreases-elements l = 8 * goal.size-elements l + 1

abbrev pub decreases-members : goal.decreases-members
decreases-members l = 8 * goal.size-members l + 1

abbrev pub decreases-in_array : goal.decreases-in_array
decreases-in_array l = 8 * goal.size-in_array l + 2

abbrev pub decreases-in_aggr : goal.decreases-in_aggr
decreases-in_aggr l = 8 * goal.size-in_aggr l + 2

abbrev pub decreases-in_aggregate : goal.decreases-in_aggregate
decreases-in_aggregate l = 8 * goal.size-in_aggregate l + 3

abbrev pub decreases-braces : goal.decreases-braces
decreases-braces l = 8 * goal.size-braces l + 4
