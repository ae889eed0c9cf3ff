use Rattle.std.proofs.Common.{◌≡◌, ◌++◌, drop}
use Rattle.al_initial.specs.Whole.{numbered}
use Rattle.al_initial.proofs.texts.numbered.Given as goal

abbrev pub invariant-loop-n : goal.invariant-loop-n
invariant-loop-n l = numbered 0 l.texts ≡ l.numbers ++ numbered l.n (drop l.n l.texts)
