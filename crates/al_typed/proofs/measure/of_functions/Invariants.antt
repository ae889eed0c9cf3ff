use Rattle.std.proofs.Common.{◌≡◌, take}
use Rattle.std.specs.Prelude.{fold}
use Rattle.al_typed.specs.Measures.{with_function, no_functions}
use Rattle.al_typed.proofs.measure.of_functions.Given as goal

abbrev pub invariant-loop-f : goal.invariant-loop-f
invariant-loop-f l = l.totals ≡ fold (with_function l.p) no_functions (take l.f-index l.p.functions)
