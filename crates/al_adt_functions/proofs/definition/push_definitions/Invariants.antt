use Rattle.std.proofs.Common.{◌≡◌, ◌++◌, drop}
use Rattle.al_adt_functions.specs.Functions.{faults_of_definitions}
use Rattle.al_adt_functions.proofs.definition.push_definitions.Given as goal

abbrev pub invariant-loop-k : goal.invariant-loop-k
invariant-loop-k l =
    l.fn.faults ++ faults_of_definitions l.env l.items l.defined l.list 0 l.defined
    ≡ l.faults ++ faults_of_definitions l.env l.items l.defined l.list l.k (drop l.k l.defined)
