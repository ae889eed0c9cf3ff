use Rattle.std.proofs.Common.{◌≡◌, ◌+◌, ◌*◌, drop}
use Rattle.al_scope.specs.Types.{each}
use Rattle.al_scope.specs.Items.{adt_member}
use Rattle.al_scope.proofs.item.adt_members.Given as goal

abbrev pub invariant-loop-m : goal.invariant-loop-m
invariant-loop-m l = each adt_member l.list l.c l.fn.w ≡ each adt_member (drop l.m-index l.list) l.c l.w
