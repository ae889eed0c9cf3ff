use Rattle.std.proofs.Common.{Err, ap, ◌∙◌}
use Rattle.alef_run.proofs.Alongs.{stopped_at, over_none}
use Rattle.alef_run.proofs.along.make_entries.Goals as goal

pub returns-in-Err-NotPermitted : goal.returns-in-Err-NotPermitted
returns-in-Err-NotPermitted c =
    let s = stopped_at c.args.world.now c.loop-entry.world c.step.new.self c.args.entries.now c.loop-entry.entry-index _ c.loop-entry-test.true c.loop-entry.invariant c.in-Err-NotPermitted.ensures.same
    (c.step.ensures.not_permitted (c.in-Err-NotPermitted.is ∙ ap Err c.in-Err-NotPermitted.field-0-is)) in
    record { first = s.first; all = λ e. absurd (cc); stop = λ e. s.stop }

pub returns-in-Err-Over : goal.returns-in-Err-Over
returns-in-Err-Over c =
    let s = stopped_at c.args.world.now c.loop-entry.world c.step.new.self c.args.entries.now c.loop-entry.entry-index record { proc = 0; pick = 0; worker = 0 } c.loop-entry-test.true c.loop-entry.invariant c.in-Err-Over.ensures.same
    (over_none c.loop-entry.world _ (c.step.ensures.over.0 (c.in-Err-Over.is ∙ ap Err c.in-Err-Over.field-0-is))) in
    record { first = s.first; all = λ e. absurd (cc); stop = λ e. s.stop }
