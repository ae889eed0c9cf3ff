use Rattle.std.proofs.Common.{◌≡◌, ◌++◌, drop}
use Rattle.al_lower_code.specs.Moving.{extracts}
use Rattle.al_lower_base.proofs.conversions.extracts.Given as goal

abbrev pub invariant-loop-unit : goal.invariant-loop-unit
invariant-loop-unit l = l.code ++ extracts l.line l.slot l.from l.whole (drop l.unit-index l.part) ≡ l.fn.code ++ extracts l.line l.to l.from l.whole l.part
