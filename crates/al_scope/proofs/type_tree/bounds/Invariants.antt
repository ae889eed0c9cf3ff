use Rattle.std.proofs.Common.{◌≡◌, ◌+◌, ◌*◌, drop}
use Rattle.al_scope.specs.Types.{each, bound}
use Rattle.al_scope.proofs.type_tree.bounds.Given as goal

abbrev pub invariant-loop-b : goal.invariant-loop-b
invariant-loop-b l = each bound l.list l.c l.fn.w ≡ each bound (drop l.b-index l.list) l.c l.w
