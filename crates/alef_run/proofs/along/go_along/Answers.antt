use Rattle.std.proofs.Common.{refl}
use Rattle.alef_run.proofs.Alongs.{first_going, ended_at_once, round_legal, round_lacked, round_broken, next_legal, round_stopped, round_ended, round_smaller, round_goes_on}
use Rattle.alef_run.proofs.along.go_along.Goals as goal

pub loop-all-init : goal.loop-all-init
loop-all-init g c =
    first_going _ _ _ _ c.requires.first _ c.entries-made.ensures.entries c.if-made-entries.false

pub returns-then-made-entries-clause-went : goal.returns-then-made-entries-clause-went
returns-then-made-entries-clause-went g c =
    ended_at_once _ _ _ _ c.requires.first _ c.entries-made.ensures.entries c.if-made-entries.true _ c.end_of-end.ensures

pub returns-in-Err-clause-legal : goal.returns-in-Err-clause-legal
returns-in-Err-clause-legal g c =
    round_legal _ _ _ _ _ _ _ _ _ _ _ _ _ c.loop-all.invariant c.requires.entries c.next_count-count.ensures c.allow.ensures refl c.make_entries-answer.ensures.first c.entries-made-in-loop-all.ensures.runs c.entries-made-in-loop-all.ensures.quota

pub returns-in-Err-clause-went : goal.returns-in-Err-clause-went
returns-in-Err-clause-went g c =
    round_lacked _ _ _ _ _ _ _ _ _ _ _ _ _ c.loop-all.invariant c.requires.entries c.next_count-count.ensures c.allow.ensures refl c.make_entries-answer.ensures.first c.entries-made-in-loop-all.ensures.runs c.entries-made-in-loop-all.ensures.quota

pub returns-in-Err-write_all-clause-legal : goal.returns-in-Err-write_all-clause-legal
returns-in-Err-write_all-clause-legal g c =
    round_legal _ _ _ _ _ _ _ _ _ _ _ _ _ c.loop-all.invariant c.requires.entries c.next_count-count.ensures c.allow.ensures refl c.make_entries-answer.ensures.first c.entries-made-in-loop-all.ensures.runs c.entries-made-in-loop-all.ensures.quota

pub returns-in-Err-write_all-clause-went : goal.returns-in-Err-write_all-clause-went
returns-in-Err-write_all-clause-went g c =
    round_broken _ _ _ _ _ _ _ _ _ _ _ _ _ c.loop-all.invariant c.requires.entries c.next_count-count.ensures c.allow.ensures refl c.make_entries-answer.ensures.first c.entries-made-in-loop-all.ensures.runs c.entries-made-in-loop-all.ensures.quota _ _ (rw c.output.ensures at c.in-Err-write_all.ensures.part) c.in-Err-write_all.ensures.cause

pub returns-then-not-all-clause-legal : goal.returns-then-not-all-clause-legal
returns-then-not-all-clause-legal g c =
    next_legal _ _ _ _ _ _ _ _ _ _ _ _ _ c.loop-all.invariant c.requires.entries c.next_count-count.ensures c.allow.ensures refl c.make_entries-answer.ensures.first c.entries-made-in-loop-all.ensures.runs c.entries-made-in-loop-all.ensures.quota _ c.clear_output.ensures _ _ (rw c.output.ensures at c.in-Ok-write_all.ensures.all) c.in-Ok-write_all.ensures.ok _ c.entries-made-in-loop-all.ensures.entries

pub returns-then-not-all-clause-went : goal.returns-then-not-all-clause-went
returns-then-not-all-clause-went g c =
    round_stopped _ _ _ _ _ _ _ _ _ _ _ _ _ c.loop-all.invariant c.requires.entries c.next_count-count.ensures c.allow.ensures refl c.make_entries-answer.ensures.first c.entries-made-in-loop-all.ensures.runs c.entries-made-in-loop-all.ensures.quota _ c.clear_output.ensures _ _ (rw c.output.ensures at c.in-Ok-write_all.ensures.all) c.in-Ok-write_all.ensures.ok _ c.entries-made-in-loop-all.ensures.entries (c.in-Ok.ensures.stop c.if-not-all.true)

pub returns-then-made-entries-2-clause-legal : goal.returns-then-made-entries-2-clause-legal
returns-then-made-entries-2-clause-legal g c =
    next_legal _ _ _ _ _ _ _ _ _ _ _ _ _ c.loop-all.invariant c.requires.entries c.next_count-count.ensures c.allow.ensures refl c.make_entries-answer.ensures.first c.entries-made-in-loop-all.ensures.runs c.entries-made-in-loop-all.ensures.quota _ c.clear_output.ensures _ _ (rw c.output.ensures at c.in-Ok-write_all.ensures.all) c.in-Ok-write_all.ensures.ok _ c.entries-made-in-loop-all.ensures.entries

pub returns-then-made-entries-2-clause-went : goal.returns-then-made-entries-2-clause-went
returns-then-made-entries-2-clause-went g c =
    round_ended _ _ _ _ _ _ _ _ _ _ _ _ _ c.loop-all.invariant c.requires.entries c.next_count-count.ensures c.allow.ensures refl c.make_entries-answer.ensures.first c.entries-made-in-loop-all.ensures.runs c.entries-made-in-loop-all.ensures.quota _ c.clear_output.ensures _ _ (rw c.output.ensures at c.in-Ok-write_all.ensures.all) c.in-Ok-write_all.ensures.ok _ c.entries-made-in-loop-all.ensures.entries _ c.end_of-end-then-made-entries-2.ensures c.if-made-entries-2.true

pub loop-all-smaller : goal.loop-all-smaller
loop-all-smaller g c =
    round_smaller _ _ _ _ _ _ _ _ _ _ _ _ _ c.loop-all.invariant c.requires.entries c.next_count-count.ensures c.allow.ensures refl c.make_entries-answer.ensures.first c.entries-made-in-loop-all.ensures.runs c.entries-made-in-loop-all.ensures.quota _ c.clear_output.ensures _ _ (rw c.output.ensures at c.in-Ok-write_all.ensures.all) c.in-Ok-write_all.ensures.ok _ c.entries-made-in-loop-all.ensures.entries (c.in-Ok.ensures.all c.if-not-all.false)

pub loop-all-preserved : goal.loop-all-preserved
loop-all-preserved g c =
    round_goes_on _ _ _ _ _ _ _ _ _ _ _ _ _ c.loop-all.invariant c.requires.entries c.next_count-count.ensures c.allow.ensures refl c.make_entries-answer.ensures.first c.entries-made-in-loop-all.ensures.runs c.entries-made-in-loop-all.ensures.quota _ c.clear_output.ensures _ _ (rw c.output.ensures at c.in-Ok-write_all.ensures.all) c.in-Ok-write_all.ensures.ok _ c.entries-made-in-loop-all.ensures.entries (c.in-Ok.ensures.all c.if-not-all.false) c.if-made-entries-2.false
