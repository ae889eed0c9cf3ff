use Rattle.std.proofs.Common.{◌≡◌, ◌++◌, map, take}
use Rattle.std.specs.Prelude.{filter}
use Rattle.al_meaning.specs.Places.{is_shared_global}
use Rattle.al_lower_code.specs.Functions.{shared_global}
use Rattle.al_lower.proofs.globals.add_shared.Given as goal

abbrev pub invariant-loop-row : goal.invariant-loop-row
invariant-loop-row l = l.globals ≡ l.fn.globals ++ map (shared_global l.p) (filter is_shared_global (take l.row-index l.rows))
