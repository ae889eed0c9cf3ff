use Rattle.std.proofs.Common.{◌≡◌, ◌++◌, drop}
use Rattle.al_lower_code.specs.Functions.{aggregate_runs}
use Rattle.al_lower.proofs.layouts.add_aggregates.Given as goal

abbrev pub invariant-loop-aggregate : goal.invariant-loop-aggregate
invariant-loop-aggregate l =
    l.layouts ++ aggregate_runs l.p l.number (drop l.aggregate-index l.p.aggregates) ≡ l.fn.layouts ++ aggregate_runs l.p 0 l.p.aggregates
