use Rattle.std.proofs.Common.{◌≡◌, ◌++◌}
use Rattle.al_step_text.specs.Frames.{variable_lines}
use Rattle.al_step_text.proofs.frame.put_variables.Given as goal

abbrev pub invariant-loop-number : goal.invariant-loop-number
invariant-loop-number l = l.out ≡ l.fn.out ++ variable_lines l.rows l.locals l.values l.number
