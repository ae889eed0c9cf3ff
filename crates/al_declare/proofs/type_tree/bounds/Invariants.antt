use Rattle.std.proofs.Common.{◌≡◌, drop}
use Rattle.al_declare.specs.Types.{each, bound}
use Rattle.al_declare.proofs.type_tree.bounds.Given as goal

abbrev pub invariant-loop-b : goal.invariant-loop-b
invariant-loop-b l = each (bound l.at) l.list l.c l.fn.w ≡ each (bound l.at) (drop l.b-index l.list) l.c l.w
