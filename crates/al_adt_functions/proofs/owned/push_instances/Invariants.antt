use Rattle.std.proofs.Common.{◌≡◌, drop}
use Rattle.al_adt_functions.specs.Owned.{with_instances}
use Rattle.al_adt_functions.proofs.owned.push_instances.Given as goal

abbrev pub invariant-loop-k : goal.invariant-loop-k
invariant-loop-k l =
    with_instances l.env l.items l.defined l.forms l.numbers 0 l.list l.fn.w
    ≡ with_instances l.env l.items l.defined l.forms l.numbers l.k (drop l.k l.list) l.w
