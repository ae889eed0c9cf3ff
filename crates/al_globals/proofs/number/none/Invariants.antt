use Rattle.std.proofs.Common.{◌≡◌, take, map}
use Rattle.al_globals.specs.Numbers.{no_number}
use Rattle.al_globals.proofs.number.none.Given as goal

abbrev pub invariant-loop-name : goal.invariant-loop-name
invariant-loop-name l = l.numbers ≡ map no_number (take l._name-index l.names)
