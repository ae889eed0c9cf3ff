use Rattle.std.proofs.Common.{◌≡◌, ◌++◌}
use Rattle.rv_long.specs.Code.{lines_of, repeated}
use Rattle.rv_long.specs.declared.blocks.TheConstants.{DIVIDE}
use Rattle.rv_long.proofs.routines.add_division.Given as goal

abbrev pub invariant-loop : goal.invariant-loop
invariant-loop l = l.lines.items ≡ l.initial.lines.items ++ lines_of (repeated l.counter DIVIDE)
