use Rattle.std.proofs.Common.{◌≡◌, ◌++◌, drop}
use Rattle.al_declare.specs.Functions.{definitions}
use Rattle.al_declare.proofs.function.add_definitions.Given as goal

abbrev pub invariant-loop-item : goal.invariant-loop-item
invariant-loop-item l =
    l.fn.list ++ definitions l.names l.owner l.instance 0 l.items ≡ l.list ++ definitions l.names l.owner l.instance l.item (drop l.item l.items)
