use Rattle.std.proofs.Common.{◌≡◌, drop}
use Rattle.al_called.specs.Expressions.{each}
use Rattle.al_called.specs.Items.{enum_constant}
use Rattle.al_called.proofs.item.enum_constants.Given as goal

abbrev pub invariant-loop-constant : goal.invariant-loop-constant
invariant-loop-constant l = each (enum_constant l.names) l.list l.fn.faults ≡ each (enum_constant l.names) (drop l.constant-index l.list) l.faults
