use Rattle.std.proofs.lemmas.Option.{slice_get-get_or}
use Rattle.al_script.proofs.Schedules.{runs_to, refused_at, full_at}
use Rattle.al_script.proofs.run.run_script.Goals as goal

pub returns-in-Ok-Refused-clause-stopped : goal.returns-in-Ok-Refused-clause-stopped
returns-in-Ok-Refused-clause-stopped c =
    refused_at c.args.script.now c.args.schedule.now c.loop-at.at _ _ c.loop-at.world _ c.in-Ok-Refused.field-0-is c.in-Ok-Refused.ensures c.loop-at.invariant (slice_get-get_or _ _ _ c.loop-at-test.true)

pub returns-in-Ok-TooLarge-clause-stopped : goal.returns-in-Ok-TooLarge-clause-stopped
returns-in-Ok-TooLarge-clause-stopped c =
    full_at c.args.script.now c.args.schedule.now c.loop-at.at _ _ c.loop-at.world _ c.in-Ok-TooLarge.field-0-is c.in-Ok-TooLarge.ensures c.loop-at.invariant (slice_get-get_or _ _ _ c.loop-at-test.true)

pub loop-at-preserved : goal.loop-at-preserved
loop-at-preserved c =
    runs_to c.args.script.now c.args.schedule.now c.loop-at.at _ _ c.loop-at.world c.in-Ok-To.next _ c.in-Ok-To.field-0-is c.in-Ok-To.ensures c.loop-at.invariant (slice_get-get_or _ _ _ c.loop-at-test.true)
