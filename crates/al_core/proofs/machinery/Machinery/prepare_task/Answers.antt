use Rattle.std.proofs.Common.{sym, ◌∙◌}
use Rattle.al_core.proofs.Prepared.{task_full, task_fits}
use Rattle.al_core.proofs.machinery.Machinery.prepare_task.Goals as goal

pub returns-then-is_full : goal.returns-then-is_full
returns-then-is_full c = task_full _ _ _ (sym c.is_full.ensures ∙ c.if-is_full.true)

pub returns : goal.returns
returns c = task_fits _ _ _ c.in_ok-hart.hart (sym c.is_full.ensures ∙ c.if-is_full.false) c.in_ok-hart.ensures
