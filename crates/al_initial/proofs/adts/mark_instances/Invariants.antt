use Rattle.std.proofs.Common.{◌≡◌, drop, fold}
use Rattle.al_initial.specs.Adts.{with_instance}
use Rattle.al_initial.proofs.adts.mark_instances.Given as goal

abbrev pub invariant-loop-i : goal.invariant-loop-i
invariant-loop-i l = fold with_instance l.fn.adts l.instances ≡ fold with_instance l.adts (drop l.i-index l.instances)
