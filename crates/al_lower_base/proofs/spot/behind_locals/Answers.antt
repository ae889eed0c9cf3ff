use Rattle.std.proofs.Common.{rules, ◌∙◌}
use Rattle.al_lower_base.proofs.Behind.{behind_all, behind_more}
use Rattle.al_lower_base.proofs.spot.behind_locals.Goals as goal

pub loop-local-preserved : goal.loop-local-preserved
loop-local-preserved c =
    rw (c.in_ok-slot.ensures, c.in_ok-local_slots.ensures, c.saturating_sub-first.ensures)
    (behind_more c.args.s.program.now c.loop-local.slot c.loop-local.first c.loop-local.left c.args.locals.now c.loop-local.local-index c.local-item.result
    c.loop-local-test.true c.local-item.is (search rules) ∙ c.loop-local.invariant)

pub returns : goal.returns
returns c =
    behind_all c.args.s.program.now c.loop-local.slot c.loop-local.first c.loop-local.left c.args.locals.now c.loop-local.local-index (search rules)
    ∙ c.loop-local.invariant
