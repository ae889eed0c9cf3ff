use Rattle.std.proofs.Common.{◌≡◌, ◌+◌, ◌*◌, drop}
use Rattle.al_scope.specs.Types.{each}
use Rattle.al_scope.specs.Items.{bound_if}
use Rattle.al_scope.proofs.item.bounds.Given as goal

abbrev pub invariant-loop-b : goal.invariant-loop-b
invariant-loop-b l = each bound_if l.list l.c l.fn.w ≡ each bound_if (drop l.b-index l.list) l.c l.w
