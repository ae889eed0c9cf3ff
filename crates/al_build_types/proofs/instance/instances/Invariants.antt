use Rattle.std.proofs.Common.{◌≡◌, ◌++◌, drop}
use Rattle.std.specs.List.{flat_map}
use Rattle.al_build_types.specs.Built.{instance_if}
use Rattle.al_build_types.proofs.instance.instances.Given as goal

abbrev pub invariant-loop-i : goal.invariant-loop-i
invariant-loop-i l =
    flat_map (instance_if l.forms l.numbers) l.forms.instances
    ≡ l.out ++ flat_map (instance_if l.forms l.numbers) (drop l.i-index l.forms.instances)
