use Rattle.std.proofs.Common.{◌≡◌, ◌++◌, drop}
use Rattle.al_branches.specs.Numbers.{numbered}
use Rattle.al_branches.proofs.number.numbered.Given as goal

abbrev pub invariant-loop-at : goal.invariant-loop-at
invariant-loop-at l = numbered l.from l.apart l.places ≡ l.numbers ++ numbered l.number l.apart (drop l.at-index l.places)
