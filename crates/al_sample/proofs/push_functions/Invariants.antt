use Rattle.std.proofs.Common.{◌≡◌, ◌++◌}
use Rattle.al_sample.specs.Sample.{joined, function_line}
use Rattle.al_sample.proofs.push_functions.Given as goal

abbrev pub invariant-loop-j : goal.invariant-loop-j
invariant-loop-j l = l.text.items ≡ l.initial.text.items ++ joined function_line l.j
