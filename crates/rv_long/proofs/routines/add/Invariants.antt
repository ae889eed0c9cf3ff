use Rattle.std.proofs.Common.{◌≡◌, ◌++◌, take}
use Rattle.rv_long.specs.Code.{lines_of}
use Rattle.rv_long.proofs.routines.add.Given as goal

abbrev pub invariant-loop-step : goal.invariant-loop-step
invariant-loop-step l = l.lines.items ≡ l.fn.lines.items ++ lines_of (take l.step-index l.steps)
