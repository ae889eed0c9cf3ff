use Rattle.std.proofs.Common.{◌≡◌, drop}
use Rattle.al_type_limits.specs.Expressions.{each}
use Rattle.al_type_limits.specs.Items.{declarator_way}
use Rattle.al_type_limits.proofs.item.declarators.Given as goal

abbrev pub invariant-loop-d : goal.invariant-loop-d
invariant-loop-d l = each (declarator_way l.names l.base) l.list l.fn.sum ≡ each (declarator_way l.names l.base) (drop l.d-index l.list) l.sum
