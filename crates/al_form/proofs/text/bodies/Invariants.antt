use Rattle.std.proofs.Common.{◌≡◌, drop, fold}
use Rattle.al_form.specs.Forms.{with_item}
use Rattle.al_form.proofs.text.bodies.Given as goal

abbrev pub invariant-loop-item : goal.invariant-loop-item
invariant-loop-item l = fold (with_item l.names l.inside) l.fn.w l.items ≡ fold (with_item l.names l.inside) l.w (drop l.item-index l.items)
