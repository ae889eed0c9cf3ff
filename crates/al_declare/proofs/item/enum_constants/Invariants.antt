use Rattle.std.proofs.Common.{◌≡◌, drop}
use Rattle.al_declare.specs.Types.{each}
use Rattle.al_declare.specs.Items.{enum_constant}
use Rattle.al_declare.proofs.item.enum_constants.Given as goal

abbrev pub invariant-loop-constant : goal.invariant-loop-constant
invariant-loop-constant l = each enum_constant l.list l.c l.fn.w ≡ each enum_constant (drop l.constant-index l.list) l.c l.w
