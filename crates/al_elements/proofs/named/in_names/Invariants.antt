use Rattle.std.proofs.Common.{◌≡◌, drop}
use Rattle.al_elements.specs.Elements.{each}
use Rattle.al_elements.specs.Named.{in_names}
use Rattle.al_elements.proofs.named.in_names.Given as goal

abbrev pub invariant-loop-named : goal.invariant-loop-named
invariant-loop-named l = each in_names l.names l.fn.list ≡ each in_names (drop l.named-index l.names) l.list
