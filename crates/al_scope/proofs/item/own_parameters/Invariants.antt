use Rattle.std.proofs.Common.{◌≡◌, ◌+◌, ◌*◌, drop}
use Rattle.al_scope.specs.Types.{each}
use Rattle.al_scope.specs.Items.{own_parameter}
use Rattle.al_scope.proofs.item.own_parameters.Given as goal

abbrev pub invariant-loop-p : goal.invariant-loop-p
invariant-loop-p l = each own_parameter l.list l.c l.fn.w ≡ each own_parameter (drop l.p-index l.list) l.c l.w
