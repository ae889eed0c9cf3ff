use Rattle.std.proofs.Common.{ap}
use Rattle.std.specs.Prelude.{option_map}
use Rattle.alef_run.proofs.Records.{recorded_from}
use Rattle.alef_run.proofs.record.record.Goals as goal

pub returns-clause-end : goal.returns-clause-end
returns-clause-end g c =
    let done = c.write_schedule.ensures in
    recorded_from c.args.job.now _ c.run-report.result.0.schedule c.run-report.result.0.work _ done.schedule done.work (ap (option_map (λ image. image.value)) done.image)
    c.run-report.result.0.end _ c.run-report.ensures.end done.end
