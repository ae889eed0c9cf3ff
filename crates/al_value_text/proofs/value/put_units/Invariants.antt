use Rattle.std.proofs.Common.{◌≡◌, ◌++◌, ◌∷◌, map, drop}
use Rattle.std.specs.Prelude.{decimal, true}
use Rattle.al_value_text.specs.Values.{with_commas}
use Rattle.al_value_text.proofs.value.put_units.Given as goal

abbrev pub invariant-loop-unit : goal.invariant-loop-unit
invariant-loop-unit l =
    l.out ++ with_commas l.is_first (map decimal (drop l.unit-index l.units)) ≡ l.fn.out ++ 40 ∷ with_commas true (map decimal l.units)
