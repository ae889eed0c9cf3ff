use Rattle.std.proofs.Common.{◌≡◌, drop}
use Rattle.al_elements.specs.Elements.{each}
use Rattle.al_elements.specs.Named.{in_function}
use Rattle.al_elements.proofs.named.in_functions.Given as goal

abbrev pub invariant-loop-function : goal.invariant-loop-function
invariant-loop-function l = each in_function l.functions l.fn.list ≡ each in_function (drop l.function-index l.functions) l.list
