use Rattle.std.proofs.Common.{◌≡◌, drop}
use Rattle.al_elements.specs.Elements.{each}
use Rattle.al_elements.specs.Named.{in_global}
use Rattle.al_elements.proofs.named.in_globals.Given as goal

abbrev pub invariant-loop-global : goal.invariant-loop-global
invariant-loop-global l = each in_global l.globals l.fn.list ≡ each in_global (drop l.global-index l.globals) l.list
