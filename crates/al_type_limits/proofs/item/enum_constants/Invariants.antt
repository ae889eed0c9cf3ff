use Rattle.std.proofs.Common.{◌≡◌, drop}
use Rattle.al_type_limits.specs.Expressions.{each}
use Rattle.al_type_limits.specs.Items.{enum_constant}
use Rattle.al_type_limits.proofs.item.enum_constants.Given as goal

abbrev pub invariant-loop-constant : goal.invariant-loop-constant
invariant-loop-constant l = each (enum_constant l.names) l.list l.fn.sum ≡ each (enum_constant l.names) (drop l.constant-index l.list) l.sum
