use Rattle.std.proofs.Common.{◌≡◌, ◌++◌}
use Rattle.al_script.specs.declared.world.Made.{Made}
use Rattle.al_script.specs.Worlds.{shared_of}
use Rattle.al_tasks.specs.Tables.{tasks_of}
use Rattle.al_step_text.specs.StepText.{procs_lines}
use Rattle.al_step_text.proofs.text.put_procs.Given as goal

abbrev pub invariant-loop-proc : goal.invariant-loop-proc
invariant-loop-proc l = (made : Made) → l.out ≡ l.fn.out ++ procs_lines l.p (shared_of made l.state) (tasks_of l.tasks) l.proc
