use Rattle.std.proofs.Common.{◌≡◌, drop}
use Rattle.al_declare.specs.Rules.{same_numbers}
use Rattle.al_declare.proofs.rules.same_numbers.Given as goal

abbrev pub invariant-loop-i : goal.invariant-loop-i
invariant-loop-i l = same_numbers l.written l.numbers ≡ same_numbers (drop l.i l.written) (drop l.i l.numbers)
