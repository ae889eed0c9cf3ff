use Rattle.std.proofs.Common.{◌≡◌, ◌++◌}
use Rattle.al_script.specs.declared.world.Made.{Made}
use Rattle.al_script.specs.Worlds.{shared_of}
use Rattle.al_tasks.specs.Tables.{tasks_of}
use Rattle.al_step_text.specs.StepText.{proc_lines}
use Rattle.al_step_text.proofs.text.put_proc.Given as goal

abbrev pub invariant-loop-number : goal.invariant-loop-number
invariant-loop-number l = (made : Made) → l.out ≡ l.fn.out ++ proc_lines l.p (shared_of made l.state) (tasks_of l.tasks) l.proc l.number
