use Rattle.std.proofs.Common.{◌≡◌, drop}
use Rattle.al_declare.specs.Types.{each}
use Rattle.al_declare.specs.Items.{later_bound}
use Rattle.al_declare.proofs.item.later_bounds.Given as goal

abbrev pub invariant-loop-b : goal.invariant-loop-b
invariant-loop-b l = each (later_bound l.at) l.list l.c l.fn.w ≡ each (later_bound l.at) (drop l.b-index l.list) l.c l.w
