use Rattle.std.proofs.Common.{◌≡◌, length}
use Rattle.al_adt_functions.specs.Functions.{placed}
use Rattle.al_adt_functions.proofs.definition.put_all.Given as goal

abbrev pub invariant-loop-a : goal.invariant-loop-a
invariant-loop-a l = placed l.fn.own l.fn.list ≡ placed l.own l.rest

abbrev pub decreases-loop-a : goal.decreases-loop-a
decreases-loop-a l = length l.rest
