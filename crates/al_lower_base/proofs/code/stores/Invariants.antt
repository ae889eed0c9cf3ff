use Rattle.std.proofs.Common.{◌≡◌, ◌++◌, drop}
use Rattle.al_lower_code.specs.Moving.{stores}
use Rattle.al_lower_base.proofs.code.stores.Given as goal

abbrev pub invariant-loop-unit : goal.invariant-loop-unit
invariant-loop-unit l = l.code ++ stores l.line l.slot l.offset l.of (drop l.unit-index l.units) ≡ l.fn.code ++ stores l.line l.slot l.offset l.from l.units
