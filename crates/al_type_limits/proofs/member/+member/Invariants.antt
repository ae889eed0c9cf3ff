use Rattle.std.proofs.Common.{◌≡◌, drop}
use Rattle.al_type_limits.specs.Expressions.{each}
use Rattle.al_type_limits.specs.Items.{member}
use Rattle.al_type_limits.proofs.member.+member.Given as goal

abbrev pub invariant-members-loop-m : goal.invariant-members-loop-m
invariant-members-loop-m l = each (member l.names) l.list l.fn.sum ≡ each (member l.names) (drop l.m-index l.list) l.sum
