use Rattle.std.proofs.Common.{◌≡◌, ◌++◌, map, take}
use Rattle.std.specs.List.{flat_map}
use Rattle.al_lower_code.specs.Functions.{local_runs, wide_in}
use Rattle.al_lower.proofs.layouts.add_parameters.Given as goal

abbrev pub invariant-loop-f : goal.invariant-loop-f
invariant-loop-f l = l.layouts ≡ l.fn.layouts ++ map (local_runs l.p) (flat_map (wide_in l.p) (take l.f-index l.p.functions))
