use Rattle.std.proofs.Common.{◌≡◌, drop}
use Rattle.al_poly.specs.Concrete.{same_list}
use Rattle.al_layout.proofs.lookup.same_types.Given as goal

abbrev pub invariant-loop-i : goal.invariant-loop-i
invariant-loop-i l = same_list l.xs l.ys ≡ same_list (drop l.i l.xs) (drop l.i l.ys)
