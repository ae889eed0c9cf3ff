use Rattle.std.proofs.Common.{◌≡◌, ◌++◌, drop}
use Rattle.al_declare.specs.Functions.{of_instances}
use Rattle.al_declare.proofs.function.add_instances.Given as goal

abbrev pub invariant-loop-number : goal.invariant-loop-number
invariant-loop-number l =
    l.fn.list ++ of_instances l.names l.items 0 l.instances ≡ l.list ++ of_instances l.names l.items l.number (drop l.number l.instances)
