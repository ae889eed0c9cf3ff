use Rattle.std.proofs.Common.{◌≡◌, drop}
use Rattle.al_meaning.specs.Words.{spelled}
use Rattle.al_control_values.proofs.members.spelled.Given as goal

abbrev pub invariant-loop-unit : goal.invariant-loop-unit
invariant-loop-unit l = spelled (drop l.unit-index l.units) l.rest l.bytes ≡ spelled l.units l.words l.fn.bytes
