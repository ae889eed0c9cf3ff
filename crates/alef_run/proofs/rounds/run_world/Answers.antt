use Rattle.std.proofs.Common.{length, sym, ap, ◌∙◌}
use Rattle.alef_run.proofs.Between.{between_first, legal, lacked, whole, part_written, fault_later, legal_next, over_next, spent_next, full_round, smaller, between_next}
use Rattle.alef_run.proofs.rounds.run_world.Goals as goal

pub loop-alloc-init : goal.loop-alloc-init
loop-alloc-init g c = between_first c.args.workers c.args.limit c.args.world _ _ c.requires.first c.requires.some

pub returns-then-is_some-clause-legal : goal.returns-then-is_some-clause-legal
returns-then-is_some-clause-legal g c = legal _ _ _ _ _ _ _ _ _ _ _ _ c.loop-alloc.invariant c.next_quota-quota.ensures c.round-later.ensures.merged c.entries.ensures.runs c.entries.ensures.quota

pub returns-then-is_some-clause-ran : goal.returns-then-is_some-clause-ran
returns-then-is_some-clause-ran g c = (lacked _ _ _ _ _ _ _ _ _ _ _ _ c.loop-alloc.invariant c.next_quota-quota.ensures c.round-later.ensures.merged c.entries.ensures.runs c.entries.ensures.quota, c.loop-alloc.invariant.calm)

pub returns-in-Err-clause-legal : goal.returns-in-Err-clause-legal
returns-in-Err-clause-legal g c = legal _ _ _ _ _ _ _ _ _ _ _ _ c.loop-alloc.invariant c.next_quota-quota.ensures c.round-later.ensures.merged c.entries.ensures.runs c.entries.ensures.quota

pub returns-in-Err-clause-ran : goal.returns-in-Err-clause-ran
returns-in-Err-clause-ran g c = (
  whole _ _ _ _ _ _ _ _ _ _ _ _ c.loop-alloc.invariant c.next_quota-quota.ensures c.round-later.ensures.merged c.entries.ensures.runs c.entries.ensures.quota (c.round-later.ensures.done (sym c.is_some.ensures ∙ c.if-is_some.false)),
  part_written _ _ _ _ _ _ _ _ _ _ _ _ c.loop-alloc.invariant c.next_quota-quota.ensures c.round-later.ensures.merged c.entries.ensures.runs c.entries.ensures.quota _ (rw c.output.ensures at c.in-Err.ensures.part),
  fault_later _ _ _ _ _ _ _ _ _ _ _ _ c.loop-alloc.invariant c.next_quota-quota.ensures c.round-later.ensures.merged c.entries.ensures.runs c.entries.ensures.quota _ c.in-Err.ensures.cause,
)

pub returns-in-Some-clause-legal : goal.returns-in-Some-clause-legal
returns-in-Some-clause-legal g c = legal_next _ _ _ _ _ _ _ _ _ _ _ _ c.loop-alloc.invariant c.next_quota-quota.ensures c.round-later.ensures.merged c.entries.ensures.runs c.entries.ensures.quota _ c.clear_output.ensures

pub returns-in-Some-clause-ran : goal.returns-in-Some-clause-ran
returns-in-Some-clause-ran g c =
    over_next _ _ _ _ _ _ _ _ _ _ _ _ c.loop-alloc.invariant c.next_quota-quota.ensures c.round-later.ensures.merged c.entries.ensures.runs c.entries.ensures.quota _ c.clear_output.ensures c.in-Some.over _ _ c.in-Some.ensures.over (rw c.output.ensures at c.in-Ok.ensures.all) c.in-Ok.ensures.ok

pub returns-then-made-limit-clause-legal : goal.returns-then-made-limit-clause-legal
returns-then-made-limit-clause-legal g c = legal_next _ _ _ _ _ _ _ _ _ _ _ _ c.loop-alloc.invariant c.next_quota-quota.ensures c.round-later.ensures.merged c.entries.ensures.runs c.entries.ensures.quota _ c.clear_output.ensures

pub returns-then-made-limit-clause-ran : goal.returns-then-made-limit-clause-ran
returns-then-made-limit-clause-ran g c =
    spent_next _ _ _ _ _ _ _ _ _ _ _ _ c.loop-alloc.invariant c.next_quota-quota.ensures c.round-later.ensures.merged c.entries.ensures.runs c.entries.ensures.quota _ c.clear_output.ensures _ _ (sym c.over.ensures.over ∙ c.in_default.is) (sym (ap length c.entries.ensures.entries) ∙ c.if-made-limit.true) (rw c.output.ensures at c.in-Ok.ensures.all) c.in-Ok.ensures.ok

pub loop-alloc-smaller : goal.loop-alloc-smaller
loop-alloc-smaller g c =
    smaller _ _ _ _ _ _ _ _ _ _ _ _ c.loop-alloc.invariant c.next_quota-quota.ensures c.round-later.ensures.merged c.entries.ensures.runs c.entries.ensures.quota _ c.clear_output.ensures
    (full_round _ _ _ _ _ _ _ _ _ _ _ _ c.loop-alloc.invariant c.next_quota-quota.ensures c.round-later.ensures.merged c.entries.ensures.runs c.entries.ensures.quota _ c.clear_output.ensures (c.round-later.ensures.done (sym c.is_some.ensures ∙ c.if-is_some.false)) (sym c.over.ensures.over ∙ c.in_default.is))

pub loop-alloc-preserved : goal.loop-alloc-preserved
loop-alloc-preserved g c =
    between_next _ _ _ _ _ _ _ _ _ _ _ _ c.loop-alloc.invariant c.next_quota-quota.ensures c.round-later.ensures.merged c.entries.ensures.runs c.entries.ensures.quota _ c.clear_output.ensures
    (full_round _ _ _ _ _ _ _ _ _ _ _ _ c.loop-alloc.invariant c.next_quota-quota.ensures c.round-later.ensures.merged c.entries.ensures.runs c.entries.ensures.quota _ c.clear_output.ensures (c.round-later.ensures.done (sym c.is_some.ensures ∙ c.if-is_some.false)) (sym c.over.ensures.over ∙ c.in_default.is)) _ _ _
    (ap length c.entries.ensures.entries) (c.round-later.ensures.here (sym c.is_some.ensures ∙ c.if-is_some.false)) c.if-made-limit.false (rw c.output.ensures at c.in-Ok.ensures.all) c.in-Ok.ensures.ok
