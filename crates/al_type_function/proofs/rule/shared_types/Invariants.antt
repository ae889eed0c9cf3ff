use Rattle.std.proofs.Common.{◌≡◌, take}
use Rattle.al_typed.specs.WellTyped.{shared_types}
use Rattle.al_type_function.proofs.rule.shared_types.Given as goal

abbrev pub invariant-loop-l : goal.invariant-loop-l
invariant-loop-l l = l.types ≡ shared_types (take l.l-index l.locals)
