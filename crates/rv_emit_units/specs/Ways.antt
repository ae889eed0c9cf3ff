-- What is done with units, by the enum of the code.
use Rattle.std.specs.Prelude.{◌+◌, ◌*◌, ◌≤◌}
use Rattle.al_ir.specs.declared.ir.Run.{Run}
use Rattle.rv_form.specs.Units as form
use Rattle.rv_emit_units.specs.declared.units.Way.{Way}
use Rattle.rv_emit_units.specs.declared.units.Way.TheVariants.{Loads, Stores, Clears}

abbrev pub way_of : Way → form.Way
way_of Loads = form.Loads
way_of Stores = form.Stores
way_of Clears = form.Clears

-- the units of a value of at most 1,024 words
abbrev pub IsSmall : Run → Type 0
IsSmall r = r.at + r.count * r.size ≤ 1024
