use Rattle.std.proofs.Common.{◌≡◌, drop}
use Rattle.al_elements.specs.Elements.{each}
use Rattle.al_elements.specs.Named.{in_body}
use Rattle.al_elements.proofs.named.in_bodies.Given as goal

abbrev pub invariant-loop-function : goal.invariant-loop-function
invariant-loop-function l = each in_body l.functions l.fn.list ≡ each in_body (drop l.function-index l.functions) l.list
