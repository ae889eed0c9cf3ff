use Rattle.std.proofs.Common.{◌≡◌, drop}
use Rattle.al_elements.specs.Elements.{each}
use Rattle.al_elements.specs.Named.{in_instance}
use Rattle.al_elements.proofs.named.in_instances.Given as goal

abbrev pub invariant-loop-instance : goal.invariant-loop-instance
invariant-loop-instance l = each in_instance l.instances l.fn.list ≡ each in_instance (drop l.instance-index l.instances) l.list
