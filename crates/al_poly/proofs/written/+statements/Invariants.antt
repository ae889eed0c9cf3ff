use Rattle.std.proofs.Common.{◌≡◌, ◌++◌, take}
use Rattle.std.specs.List.{flat_map}
use Rattle.al_poly.specs.Written.{in_stmt}
use Rattle.al_poly.proofs.written.+statements.Given as goal

abbrev pub invariant-in_stmts-loop-s : goal.invariant-in_stmts-loop-s
invariant-in_stmts-loop-s l = l.types ≡ l.fn.types ++ flat_map in_stmt (take l.s-index l.body)
