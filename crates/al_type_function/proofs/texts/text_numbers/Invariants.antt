use Rattle.std.proofs.Common.{◌≡◌, ◌+◌, ◌++◌, drop}
use Rattle.al_type_function.specs.Texts.{numbered}
use Rattle.al_type_function.proofs.texts.text_numbers.Given as goal

abbrev pub invariant-loop-k : goal.invariant-loop-k
invariant-loop-k l = numbered l.from l.texts ≡ l.numbers ++ numbered (l.from + l.k) (drop l.k l.texts)
