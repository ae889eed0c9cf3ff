use Rattle.std.proofs.Common.{◌≡◌, [], drop, fold}
use Rattle.al_form.specs.Forms.{with_instance}
use Rattle.al_form.proofs.text.instances.Given as goal

abbrev pub invariant-loop-i : goal.invariant-loop-i
invariant-loop-i l =
    fold (with_instance l.names l.items) (record { found = l.fn.w; instances = [] }) l.list
    ≡ fold (with_instance l.names l.items) (record { found = l.w; instances = l.instances }) (drop l.i-index l.list)
