use Rattle.std.proofs.Common.{◌≡◌, ◌++◌, take}
use Rattle.std.specs.List.{flat_map}
use Rattle.al_poly.specs.Written.{in_expr}
use Rattle.al_poly.proofs.written.+expressions.Given as goal

abbrev pub invariant-in_exprs-loop-e : goal.invariant-in_exprs-loop-e
invariant-in_exprs-loop-e l = l.types ≡ l.fn.types ++ flat_map in_expr (take l.e-index l.exprs)
