use Rattle.std.proofs.Common.{◌≡◌, drop}
use Rattle.std.specs.Prelude.{false}
use Rattle.al_typed.specs.Typed.{local_types}
use Rattle.al_convert.specs.Same.{same_list}
use Rattle.al_lower.proofs.classes.same_types.Given as goal

abbrev pub invariant-loop-i : goal.invariant-loop-i
invariant-loop-i l = same_list false (local_types l.xs) (local_types l.ys) ≡ same_list false (local_types (drop l.i l.xs)) (local_types (drop l.i l.ys))
