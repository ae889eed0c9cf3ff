use Rattle.std.proofs.Common.{◌≡◌, ◌++◌, map, take}
use Rattle.std.specs.Prelude.{filter}
use Rattle.al_lower_code.specs.Functions.{is_wide_parameter, local_runs}
use Rattle.al_lower.proofs.layouts.add_wide.Given as goal

abbrev pub invariant-loop-local : goal.invariant-loop-local
invariant-loop-local l = l.layouts ≡ l.fn.layouts ++ map (local_runs l.p) (filter (is_wide_parameter l.p) (take l.local-index l.parameters))
