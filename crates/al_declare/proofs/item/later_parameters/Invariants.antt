use Rattle.std.proofs.Common.{◌≡◌, drop, None}
use Rattle.al_declare.specs.Types.{each}
use Rattle.al_declare.specs.Items.{parameter_way}
use Rattle.al_declare.proofs.item.later_parameters.Given as goal

abbrev pub invariant-loop-p : goal.invariant-loop-p
invariant-loop-p l = each (parameter_way None) l.list l.c l.fn.w ≡ each (parameter_way None) (drop l.p-index l.list) l.c l.w
