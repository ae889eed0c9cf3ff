use Rattle.std.proofs.Common.{◌≡◌, drop, fold}
use Rattle.al_form.specs.Forms.{with_name}
use Rattle.al_form.proofs.text.names_alone.Given as goal

abbrev pub invariant-loop-item : goal.invariant-loop-item
invariant-loop-item l = fold with_name l.fn.w l.items ≡ fold with_name l.w (drop l.item-index l.items)
