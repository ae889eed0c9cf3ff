use Rattle.std.proofs.Common.{◌≡◌, take, map}
use Rattle.al_declare.specs.Asking.{number_of}
use Rattle.al_declare.proofs.text.numbers_of.Given as goal

abbrev pub invariant-loop-n : goal.invariant-loop-n
invariant-loop-n l = l.numbers ≡ map number_of (take l.n-index l.list)
