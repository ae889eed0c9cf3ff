use Rattle.std.proofs.Common.{◌≡◌, drop}
use Rattle.al_lower_code.specs.Moving.{holder}
use Rattle.al_lower_base.proofs.conversions.unit_with.Given as goal

abbrev pub invariant-loop-unit : goal.invariant-loop-unit
invariant-loop-unit l = (holder l.number l.at (drop l.unit-index l.units)) ≡ holder l.index l.at l.units
