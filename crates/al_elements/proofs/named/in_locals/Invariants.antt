use Rattle.std.proofs.Common.{◌≡◌, drop}
use Rattle.al_elements.specs.Elements.{each}
use Rattle.al_elements.specs.Named.{in_local}
use Rattle.al_elements.proofs.named.in_locals.Given as goal

abbrev pub invariant-loop-local : goal.invariant-loop-local
invariant-loop-local l = each in_local l.locals l.fn.list ≡ each in_local (drop l.local-index l.locals) l.list
