use Rattle.std.proofs.Common.{◌≡◌, drop}
use Rattle.al_declare.specs.Types.{each}
use Rattle.al_declare.specs.Items.{initializer}
use Rattle.al_declare.proofs.item.+initializer.Given as goal

abbrev pub invariant-initializers-loop-i : goal.invariant-initializers-loop-i
invariant-initializers-loop-i l = each initializer l.list l.c l.fn.w ≡ each initializer (drop l.i-index l.list) l.c l.w
