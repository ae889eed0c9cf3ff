use Rattle.std.proofs.Common.{◌≡◌, take, map}
use Rattle.al_adt_functions.specs.Owned.{number_of}
use Rattle.al_type_function.proofs.own.numbers_of.Given as goal

abbrev pub invariant-loop-n : goal.invariant-loop-n
invariant-loop-n l = l.numbers ≡ map number_of (take l.n-index l.list)
