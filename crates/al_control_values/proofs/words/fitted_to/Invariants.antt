use Rattle.std.proofs.Common.{◌≡◌, ◌++◌, drop}
use Rattle.al_meaning.specs.Words.{fitted_to}
use Rattle.al_control_values.proofs.words.fitted_to.Given as goal

abbrev pub invariant-loop-unit : goal.invariant-loop-unit
invariant-loop-unit l = l.fitted ++ fitted_to (drop l.unit-index l.units) l.rest ≡ fitted_to l.units l.words
