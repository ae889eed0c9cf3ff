use Rattle.std.proofs.Common.{◌∙◌, ◌++◌, List, ap, map}
use Rattle.al_meaning.specs.Execute as spec
use Rattle.al_control.specs.declared.work.Bounds.{Bounds}
use Rattle.al_control.specs.Models.{bounds_of}
use Rattle.al_walk_statements.proofs.TakenBounds.{bounds_over, bounds_taken}
use Rattle.al_walk_statements.proofs.iterators.bounds_from.Goals as goal

pub returns : goal.returns
returns c =
    ap (map bounds_of) (c.from_vec.ensures ∙ c.into_vec.ensures)
    ∙ bounds_over c.loop-bounds.all c.loop-bounds.values _ c.in_default.ensures c.loop-bounds.invariant

pub loop-bounds-preserved : goal.loop-bounds-preserved
loop-bounds-preserved c =
    ap (λ (l : List Bounds). map bounds_of l ++ spec.bounds_of c.next_bounds.new.values) c.in_ok-push.ensures.ok
    ∙ bounds_taken c.loop-bounds.all c.in-Some.bounds c.loop-bounds.values c.next_bounds.new.values _ c.in-Some.ensures.0 c.loop-bounds.invariant
