use Rattle.std.proofs.Common.{◌≡◌, ◌+◌, ◌*◌, drop}
use Rattle.al_scope.specs.Types.{each}
use Rattle.al_scope.specs.Items.{parameter_bounds}
use Rattle.al_scope.proofs.item.all_parameter_bounds.Given as goal

abbrev pub invariant-loop-p : goal.invariant-loop-p
invariant-loop-p l = each parameter_bounds l.list l.c l.fn.w ≡ each parameter_bounds (drop l.p-index l.list) l.c l.w
