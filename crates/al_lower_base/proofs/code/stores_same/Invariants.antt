use Rattle.std.proofs.Common.{◌≡◌, ◌++◌, drop}
use Rattle.al_lower_code.specs.Moving.{stores_same}
use Rattle.al_lower_base.proofs.code.stores_same.Given as goal

abbrev pub invariant-loop-unit : goal.invariant-loop-unit
invariant-loop-unit l = l.code ++ stores_same l.line l.slot l.offset l.from (drop l.unit-index l.units) ≡ l.fn.code ++ stores_same l.line l.slot l.offset l.from l.units
