use Rattle.std.proofs.Common.{◌≡◌, drop}
use Rattle.al_called.specs.Expressions.{each}
use Rattle.al_called.specs.Items.{declarator_way}
use Rattle.al_called.proofs.item.declarators.Given as goal

abbrev pub invariant-loop-d : goal.invariant-loop-d
invariant-loop-d l = each (declarator_way l.names) l.list l.fn.faults ≡ each (declarator_way l.names) (drop l.d-index l.list) l.faults
