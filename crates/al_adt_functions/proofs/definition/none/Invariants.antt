use Rattle.std.proofs.Common.{◌≡◌, take, map}
use Rattle.al_adt_functions.specs.Functions.{no_functions}
use Rattle.al_adt_functions.proofs.definition.none.Given as goal

abbrev pub invariant-loop-row : goal.invariant-loop-row
invariant-loop-row l = l.own ≡ map no_functions (take l._row-index l.rows)
