use Rattle.std.proofs.Common.{List, All, refl, sym, subst}
use Rattle.al_event.specs.declared.entry.Entry.{Entry}
use Rattle.al_trace.specs.Schedule.{IsEntry}
use Rattle.alef_texts.proofs.Reports.{no_image}
use Rattle.alef_run.proofs.Replays.{replay_lacks, replay_lacks_schedule, replay_ends}
use Rattle.alef_run.proofs.replay.replay.Goals as goal

pub returns-in-Err-clause-end : goal.returns-in-Err-clause-end
returns-in-Err-clause-end g c =
    let done = c.nothing.ensures in
    replay_lacks c.args.job.now _ c.as_str.result.now _ _ c.as_str.ensures done.end c.in-Err.ensures.none
    (record { schedule = done.schedule; work = done.work; image = no_image _ done.image; got = refl; calm = refl })

pub returns-in-Err-load_schedule-clause-end : goal.returns-in-Err-load_schedule-clause-end
returns-in-Err-load_schedule-clause-end g c =
    let done = c.nothing-in-Err-load_schedule.ensures in
    let compiled = c.in-Ok.ensures.image in
    replay_lacks_schedule c.args.job.now _ compiled.0 c.in-Ok.image c.as_str.result.now c.as_str-2.result.now _ _ c.as_str.ensures c.as_str-2.ensures compiled.1 c.in-Ok.ensures.same
    _ _ done.end c.in-Err-load_schedule.ensures.none
    (record { schedule = done.schedule; work = done.work; image = no_image _ done.image; got = refl; calm = refl })

pub replay_image-requires-clause-entries : goal.replay_image-requires-clause-entries
replay_image-requires-clause-entries g c =
    let P : List Entry → Type 0 = λ entries. All IsEntry entries in subst P (sym c.as_slice.ensures.value) c.in-Ok-load_schedule.ensures.entries

pub returns-clause-end : goal.returns-clause-end
returns-clause-end g c =
    let compiled = c.in-Ok.ensures.image in
    replay_ends c.args.job.now _ compiled.0 c.in-Ok.image c.as_str.result.now c.as_str-2.result.now _ _ c.as_str.ensures c.as_str-2.ensures compiled.1 c.in-Ok.ensures.same
    _ c.in-Ok-load_schedule.ensures.read c.as_slice.result.now _ c.as_slice.ensures.value
    (c.replay_image.ensures.end (g.H.Host.content c.args.host.now) (g.H.Host.content c.load_schedule.new.host) (g.H.Host.faults c.args.host.now) (g.H.Host.faults c.load_schedule.new.host))
