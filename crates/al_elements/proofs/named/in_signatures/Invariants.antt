use Rattle.std.proofs.Common.{◌≡◌, drop}
use Rattle.al_elements.specs.Elements.{each}
use Rattle.al_elements.specs.Named.{in_signature}
use Rattle.al_elements.proofs.named.in_signatures.Given as goal

abbrev pub invariant-loop-s : goal.invariant-loop-s
invariant-loop-s l = each in_signature l.functions l.fn.list ≡ each in_signature (drop l.s-index l.functions) l.list
