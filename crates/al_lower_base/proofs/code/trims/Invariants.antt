use Rattle.std.proofs.Common.{◌≡◌, ◌++◌, drop}
use Rattle.al_lower_code.specs.Moving.{trims}
use Rattle.al_lower_base.proofs.code.trims.Given as goal

abbrev pub invariant-loop-unit : goal.invariant-loop-unit
invariant-loop-unit l = l.code ++ trims l.line l.slot (drop l.unit-index l.units) ≡ l.fn.code ++ trims l.line l.at l.units
