use Rattle.std.proofs.Common.{◌≡◌}
use Rattle.al_type_rules.specs.Types.{pointers}
use Rattle.al_type_rules.proofs.variable.pointers_to.Given as goal

abbrev pub invariant-loop-made : goal.invariant-loop-made
invariant-loop-made l = l.found ≡ pointers l._made l.fn.ty
