use Rattle.std.proofs.Common.{[], ◌∷◌, ◌∙◌, sym, ap}
use Rattle.al_typed.specs.declared.ty.Ty.{Ty}
use Rattle.al_typed.specs.Typed.{place_type}
use Rattle.al_meaning.specs.Evaluate.{leaves_of}
use Rattle.al_walk_places.specs.Referred.{referred}
use Rattle.al_walk_places.proofs.TargetPlaces.{leaves-Into, leaves-Dropped, leaves_more, leaves_over, put_behind, put_each}
use Rattle.al_walk_places.proofs.targets.+leaves.Goals as goal

pub put_all-loop-part-preserved : goal.put_all-loop-part-preserved
put_all-loop-part-preserved t c =
    leaves_more c.args.parts.now c.loop-part.part-index c.part-item.result (referred c.args.out.now) (referred c.loop-part.out) (referred c.put_leaves.new.out)
    c.loop-part-test.true c.part-item.is c.in_ok-put_leaves.ensures c.loop-part.invariant

pub put_all-returns : goal.put_all-returns
put_all-returns t c =
    leaves_over c.args.parts.now c.loop-part.part-index (referred c.args.out.now) (referred c.loop-part.out) c.loop-part-test.false c.loop-part.invariant

pub put_leaves-returns-in-Into : goal.put_leaves-returns-in-Into
put_leaves-returns-in-Into t c =
    put_behind c.push.result c.args.out.now c.push.new.self c.ty.result c.args.target.now
    (ap leaves_of c.in-Into.is ∙ leaves-Into c.in-Into.place ∙ ap (λ (u : Ty). u ∷ []) (sym (c.ty.ensures ∙ ap place_type c.get.ensures))) c.push.ensures.ok

pub put_leaves-returns-in-Dropped : goal.put_leaves-returns-in-Dropped
put_leaves-returns-in-Dropped t c =
    put_behind c.push-in-Dropped.result c.args.out.now c.push-in-Dropped.new.self _ c.args.target.now (ap leaves_of c.in-Dropped.is ∙ leaves-Dropped _)
    c.push-in-Dropped.ensures.ok

pub put_leaves-returns-in-Parts : goal.put_leaves-returns-in-Parts
put_leaves-returns-in-Parts t c =
    put_each c.put_all.result (referred c.args.out.now) (referred c.put_all.new.out) c.args.target.now c.in-Parts.ty c.in-Parts.parts c.as_slice.result.now c.in-Parts.is
    c.as_slice.ensures.value c.put_all.ensures
