use Rattle.std.proofs.Common.{Option, sym, ap, ◌∙◌}
use Rattle.al_words.specs.declared.job.Job.{Job}
use Rattle.alef_texts.specs.Call.{Call, call_by}
use Rattle.alef_run.specs.Modes.{line_by}
use Rattle.alef_run.proofs.Jobs.{job_bounded}
use Rattle.alef_run.proofs.Causes.{run_end, replay_end, record_end, sample_end, build_end, check_end, step_end}
use Rattle.alef_run.proofs.call.serve.Goals as goal

pub returns-in-Run-clause-end : goal.returns-in-Run-clause-end
returns-in-Run-clause-end g c = run_end _ c.run.result.0.end _ c.in-Ok.job c.in-Ok.ensures c.in-Run.is c.run.ensures.end

pub returns-in-Build-clause-end : goal.returns-in-Build-clause-end
returns-in-Build-clause-end g c = build_end _ c.build.result.end _ c.in-Ok.job c.as_str.result.now c.in-Ok.ensures c.in-Build.is c.as_str.ensures c.build.ensures.end

pub returns-in-Check-clause-end : goal.returns-in-Check-clause-end
returns-in-Check-clause-end g c =
    check_end _ c.check.result.end _ c.in-Ok.job c.as_str-in-Check.result.now c.in-Ok.ensures c.in-Check.is c.as_str-in-Check.ensures (c.check.ensures.end (g.K.Sink.got c.args.out.now) (g.K.Sink.faults c.args.out.now))

pub run-requires-clause-some_workers : goal.run-requires-clause-some_workers
run-requires-clause-some_workers g c κs within = (job_bounded _ c.in-Ok.job c.in-Ok.ensures).some_workers

pub exec-requires-clause-some_workers : goal.exec-requires-clause-some_workers
exec-requires-clause-some_workers g c κs within = (job_bounded _ c.in-Ok.job c.in-Ok.ensures).some_workers

pub run-requires-clause-few_workers : goal.run-requires-clause-few_workers
run-requires-clause-few_workers g c κs within = (job_bounded _ c.in-Ok.job c.in-Ok.ensures).workers

pub exec-requires-clause-few_workers : goal.exec-requires-clause-few_workers
exec-requires-clause-few_workers g c κs within = (job_bounded _ c.in-Ok.job c.in-Ok.ensures).workers

pub run-requires-clause-some_region : goal.run-requires-clause-some_region
run-requires-clause-some_region g c κs within = (job_bounded _ c.in-Ok.job c.in-Ok.ensures).some_region

pub exec-requires-clause-some_region : goal.exec-requires-clause-some_region
exec-requires-clause-some_region g c κs within = (job_bounded _ c.in-Ok.job c.in-Ok.ensures).some_region

pub run-requires-clause-region : goal.run-requires-clause-region
run-requires-clause-region g c κs within = (job_bounded _ c.in-Ok.job c.in-Ok.ensures).region

pub exec-requires-clause-region : goal.exec-requires-clause-region
exec-requires-clause-region g c κs within = (job_bounded _ c.in-Ok.job c.in-Ok.ensures).region

pub run-requires-clause-some_entries : goal.run-requires-clause-some_entries
run-requires-clause-some_entries g c κs within = (job_bounded _ c.in-Ok.job c.in-Ok.ensures).some_entries

pub exec-requires-clause-some_entries : goal.exec-requires-clause-some_entries
exec-requires-clause-some_entries g c κs within = (job_bounded _ c.in-Ok.job c.in-Ok.ensures).some_entries

pub run-requires-clause-entries : goal.run-requires-clause-entries
run-requires-clause-entries g c κs within = (job_bounded _ c.in-Ok.job c.in-Ok.ensures).entries

pub exec-requires-clause-entries : goal.exec-requires-clause-entries
exec-requires-clause-entries g c κs within = (job_bounded _ c.in-Ok.job c.in-Ok.ensures).entries

pub returns-in-Step-clause-end : goal.returns-in-Step-clause-end
returns-in-Step-clause-end g c = step_end _ c.step.result.end _ c.in-Ok.job c.in-Ok.ensures c.in-Step.is c.step.ensures.end

pub step-requires-clause-some_region : goal.step-requires-clause-some_region
step-requires-clause-some_region g c = (job_bounded _ c.in-Ok.job c.in-Ok.ensures).some_region

pub step-requires-clause-region : goal.step-requires-clause-region
step-requires-clause-region g c = (job_bounded _ c.in-Ok.job c.in-Ok.ensures).region

pub returns-in-Replay-clause-end : goal.returns-in-Replay-clause-end
returns-in-Replay-clause-end g c = replay_end _ c.replay.result.0.end _ c.in-Ok.job c.in-Ok.ensures c.in-Replay.is c.replay.ensures.end

pub returns-in-Recorded-clause-end : goal.returns-in-Recorded-clause-end
returns-in-Recorded-clause-end g c = record_end _ c.record.result.0.end _ c.in-Ok.job c.in-Ok.ensures c.in-Recorded.is c.record.ensures.end

pub returns-in-Sample-clause-end : goal.returns-in-Sample-clause-end
returns-in-Sample-clause-end g c =
    sample_end _ c.run_sample.result.0.end _ c.in-Ok.job c.in-Ok.ensures c.in-Sample.is (c.run_sample.ensures.end (g.H.Host.content c.args.host.now) (g.H.Host.faults c.args.host.now))

pub replay-requires-clause-some_region : goal.replay-requires-clause-some_region
replay-requires-clause-some_region g c = (job_bounded _ c.in-Ok.job c.in-Ok.ensures).some_region

pub replay-requires-clause-region : goal.replay-requires-clause-region
replay-requires-clause-region g c = (job_bounded _ c.in-Ok.job c.in-Ok.ensures).region

pub record-requires-clause-some_workers : goal.record-requires-clause-some_workers
record-requires-clause-some_workers g c κs within = (job_bounded _ c.in-Ok.job c.in-Ok.ensures).some_workers

pub record-requires-clause-few_workers : goal.record-requires-clause-few_workers
record-requires-clause-few_workers g c κs within = (job_bounded _ c.in-Ok.job c.in-Ok.ensures).workers

pub record-requires-clause-some_region : goal.record-requires-clause-some_region
record-requires-clause-some_region g c κs within = (job_bounded _ c.in-Ok.job c.in-Ok.ensures).some_region

pub record-requires-clause-region : goal.record-requires-clause-region
record-requires-clause-region g c κs within = (job_bounded _ c.in-Ok.job c.in-Ok.ensures).region

pub record-requires-clause-some_entries : goal.record-requires-clause-some_entries
record-requires-clause-some_entries g c κs within = (job_bounded _ c.in-Ok.job c.in-Ok.ensures).some_entries

pub record-requires-clause-entries : goal.record-requires-clause-entries
record-requires-clause-entries g c κs within = (job_bounded _ c.in-Ok.job c.in-Ok.ensures).entries

pub run_sample-requires-clause-some_workers : goal.run_sample-requires-clause-some_workers
run_sample-requires-clause-some_workers g c κs within = (job_bounded _ c.in-Ok.job c.in-Ok.ensures).some_workers

pub run_sample-requires-clause-few_workers : goal.run_sample-requires-clause-few_workers
run_sample-requires-clause-few_workers g c κs within = (job_bounded _ c.in-Ok.job c.in-Ok.ensures).workers

pub run_sample-requires-clause-some_region : goal.run_sample-requires-clause-some_region
run_sample-requires-clause-some_region g c κs within = (job_bounded _ c.in-Ok.job c.in-Ok.ensures).some_region

pub run_sample-requires-clause-region : goal.run_sample-requires-clause-region
run_sample-requires-clause-region g c κs within = (job_bounded _ c.in-Ok.job c.in-Ok.ensures).region

pub run_sample-requires-clause-some_entries : goal.run_sample-requires-clause-some_entries
run_sample-requires-clause-some_entries g c κs within = (job_bounded _ c.in-Ok.job c.in-Ok.ensures).some_entries

pub run_sample-requires-clause-entries : goal.run_sample-requires-clause-entries
run_sample-requires-clause-entries g c κs within = (job_bounded _ c.in-Ok.job c.in-Ok.ensures).entries

pub returns-in-Sample-clause-line : goal.returns-in-Sample-clause-line
returns-in-Sample-clause-line g c =
    let content = g.H.Host.content c.args.host.now in
    let faults = g.H.Host.faults c.args.host.now in
    let call : Call =
    call_by content content faults faults (g.K.Sink.got c.args.out.now) (g.K.Sink.got c.run_sample.new.out) (g.K.Sink.faults c.args.out.now) (g.K.Sink.faults c.run_sample.new.out) c.run_sample.result.0 in
    c.run_sample.ensures.line content faults ∙ ap (λ (o : Option Job). line_by o call.image call) (sym c.in-Ok.ensures)
