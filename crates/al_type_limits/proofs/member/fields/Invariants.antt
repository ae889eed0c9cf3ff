use Rattle.std.proofs.Common.{◌≡◌, drop}
use Rattle.al_type_limits.specs.Expressions.{each}
use Rattle.al_type_limits.specs.Items.{field}
use Rattle.al_type_limits.proofs.member.fields.Given as goal

abbrev pub invariant-loop-dcl : goal.invariant-loop-dcl
invariant-loop-dcl l = each (field l.base) l.list l.fn.sum ≡ each (field l.base) (drop l.dcl-index l.list) l.sum
