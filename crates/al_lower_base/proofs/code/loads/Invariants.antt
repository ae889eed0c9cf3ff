use Rattle.std.proofs.Common.{◌≡◌, ◌++◌, drop}
use Rattle.al_lower_code.specs.Moving.{loads}
use Rattle.al_lower_base.proofs.code.loads.Given as goal

abbrev pub invariant-loop-unit : goal.invariant-loop-unit
invariant-loop-unit l = l.code ++ loads l.line l.into l.slot l.offset (drop l.unit-index l.units) ≡ l.fn.code ++ loads l.line l.to l.slot l.offset l.units
