use Rattle.std.proofs.Common.{◌≡◌, drop}
use Rattle.al_declare.specs.Types.{each}
use Rattle.al_declare.specs.Items.{member}
use Rattle.al_declare.proofs.item.+member.Given as goal

abbrev pub invariant-members-loop-m : goal.invariant-members-loop-m
invariant-members-loop-m l = each member l.list l.c l.fn.w ≡ each member (drop l.m-index l.list) l.c l.w
