use Rattle.std.proofs.Common.{ℕ, List, refl, ap, ◌∙◌, subst}
use Rattle.std.specs.Prelude.{option_map}
use Rattle.alef_run.specs.Compiling.{IsCompiled}
use Rattle.alef_texts.specs.Call.{call_by}
use Rattle.alef_run.proofs.Samples.{sample_from, same_line}
use Rattle.alef_run.proofs.sample.run_sample.Goals as goal

pub returns-clause-end : goal.returns-clause-end
returns-clause-end g c = λ told faults.
    let done = c.write_count.ensures in
    let T : List ℕ → Type 0 = λ text. IsCompiled text c.in-Ok-compiled.image in
    sample_from c.args.job.now _ (record { told = refl; calm = refl }) c.in-Ok-compiled.image (subst T (c.as_slice.ensures.value ∙ c.in-Ok.ensures) c.in-Ok-compiled.ensures)
    (record { got = g.K.Sink.got c.run_image-report.new.out; faults = g.K.Sink.faults c.run_image-report.new.out })
    c.run_image-report.result.0.schedule c.run_image-report.result.0.work _ done.schedule done.work (ap (option_map (λ image. image.value)) done.image)
    c.run_image-report.result.0.end _ (c.run_image-report.ensures.end told told faults faults) done.end

pub returns-clause-line : goal.returns-clause-line
returns-clause-line g c = λ told faults.
    let done = c.write_count.ensures in
    c.run_image-report.ensures.line told told faults faults
    ∙ same_line c.args.job.now (option_map (λ image. image.value) c.run_image-report.result.0.image) (option_map (λ image. image.value) c.write_count.result.image)
    (call_by told told faults faults (g.K.Sink.got c.args.out.now) (g.K.Sink.got c.run_image-report.new.out) (g.K.Sink.faults c.args.out.now) (g.K.Sink.faults c.run_image-report.new.out) c.run_image-report.result.0)
    (call_by told told faults faults (g.K.Sink.got c.args.out.now) (g.K.Sink.got c.write_count.new.out) (g.K.Sink.faults c.args.out.now) (g.K.Sink.faults c.write_count.new.out) c.write_count.result)
    (ap (option_map (λ image. image.value)) done.image) done.schedule
