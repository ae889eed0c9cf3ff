use Rattle.std.proofs.Common.{◌≡◌, take}
use Rattle.al_typed.specs.Layout.{moved}
use Rattle.al_lower_parts.proofs.members.moved.Given as goal

abbrev pub invariant-loop-unit : goal.invariant-loop-unit
invariant-loop-unit l = l.further.items ≡ moved l.by (take l.unit-index l.units)
