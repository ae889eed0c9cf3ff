use Rattle.std.proofs.Common.{◌≡◌, drop}
use Rattle.al_declare.specs.Types.{each}
use Rattle.al_declare.specs.Items.{declarator_way}
use Rattle.al_declare.proofs.item.declarators.Given as goal

abbrev pub invariant-loop-d : goal.invariant-loop-d
invariant-loop-d l = each declarator_way l.list l.c l.fn.w ≡ each declarator_way (drop l.d-index l.list) l.c l.w
