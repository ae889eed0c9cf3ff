use Rattle.std.proofs.Common.{◌≡◌, ◌+◌, map, take, drop}
use Rattle.al_typed.specs.declared.layout.Unit.{Unit}
use Rattle.al_typed.specs.Layout.{unit_at}
use Rattle.al_meaning.specs.Words.{unit_in}
use Rattle.al_control_values.specs.Units.{AreShort}
use Rattle.al_control_values.proofs.members.words_of_units.Given as goal

abbrev pub invariant-loop-unit : goal.invariant-loop-unit
invariant-loop-unit l = record {
  words : l.words ≡ map (λ (u : Unit). unit_in l.bytes (unit_at (l.at + u.at) u.size)) (take l.unit-index l.units);
  short : AreShort (drop l.unit-index l.units);
}
