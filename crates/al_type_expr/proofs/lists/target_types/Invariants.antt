use Rattle.std.proofs.Common.{◌≡◌, take, map}
use Rattle.al_typed.specs.Typed.{target_type}
use Rattle.al_type_expr.proofs.lists.target_types.Given as goal

abbrev pub invariant-loop-part : goal.invariant-loop-part
invariant-loop-part l = l.out ≡ map target_type (take l.part-index l.parts)
