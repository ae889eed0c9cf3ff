use Rattle.std.proofs.Common.{sym, ◌∙◌}
use Rattle.al_core.proofs.Prepared.{proc_full, proc_fits}
use Rattle.al_core.proofs.machinery.Machinery.prepare_proc.Goals as goal

pub returns-then-is_full : goal.returns-then-is_full
returns-then-is_full c = proc_full _ _ _ (sym c.is_full.ensures ∙ c.if-is_full.true)

pub returns : goal.returns
returns c = proc_fits _ _ _ c.in_ok-begun.begun (sym c.is_full.ensures ∙ c.if-is_full.false) c.in_ok-begun.ensures
