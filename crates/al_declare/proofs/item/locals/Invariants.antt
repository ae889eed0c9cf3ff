use Rattle.std.proofs.Common.{◌≡◌, drop}
use Rattle.al_declare.specs.Types.{each}
use Rattle.al_declare.specs.Asking.{local}
use Rattle.al_declare.proofs.item.locals.Given as goal

abbrev pub invariant-loop-n : goal.invariant-loop-n
invariant-loop-n l = each local l.list l.c l.fn.w ≡ each local (drop l.n-index l.list) l.c l.w
