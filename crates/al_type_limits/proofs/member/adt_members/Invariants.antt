use Rattle.std.proofs.Common.{◌≡◌, drop}
use Rattle.al_type_limits.specs.Expressions.{each}
use Rattle.al_type_limits.specs.Items.{adt_member}
use Rattle.al_type_limits.proofs.member.adt_members.Given as goal

abbrev pub invariant-loop-m : goal.invariant-loop-m
invariant-loop-m l = each (adt_member l.names) l.list l.fn.sum ≡ each (adt_member l.names) (drop l.m-index l.list) l.sum
