use Rattle.std.proofs.Common.{◌≡◌, drop}
use Rattle.al_declare.specs.Types.{each}
use Rattle.al_declare.specs.Items.{adt_member}
use Rattle.al_declare.proofs.item.adt_members.Given as goal

abbrev pub invariant-loop-m : goal.invariant-loop-m
invariant-loop-m l = each (adt_member l.own) l.list l.c l.fn.w ≡ each (adt_member l.own) (drop l.m-index l.list) l.c l.w
