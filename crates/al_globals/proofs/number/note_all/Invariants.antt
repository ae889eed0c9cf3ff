use Rattle.std.proofs.Common.{◌≡◌, drop}
use Rattle.al_globals.specs.Numbers.{with_definitions}
use Rattle.al_globals.proofs.number.note_all.Given as goal

abbrev pub invariant-loop-k : goal.invariant-loop-k
invariant-loop-k l = with_definitions l.items 0 l.defined l.fn.numbers ≡ with_definitions l.items l.k (drop l.k l.defined) l.numbers
