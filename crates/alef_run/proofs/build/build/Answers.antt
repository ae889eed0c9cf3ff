use Rattle.std.proofs.Common.{refl}
use Rattle.alef_run.proofs.Builds.{build_lacks, was_written}
use Rattle.alef_texts.proofs.Reports.{no_image}
use Rattle.alef_run.proofs.build.build.Goals as goal

pub returns-in-Err-clause-end : goal.returns-in-Err-clause-end
returns-in-Err-clause-end g c =
    let done = c.nothing.ensures in
    build_lacks c.args.file.now _ _ _ done.end c.in-Err.ensures.none
    (record { schedule = done.schedule; work = done.work; image = no_image _ done.image; got = refl; calm = refl })

pub returns-clause-end : goal.returns-clause-end
returns-clause-end g c =
    let done = c.nothing-2.ensures in
    let compiled = c.in-Ok.ensures.image in
    was_written c.args.file.now _ compiled.0 c.in-Ok.image compiled.1 done.schedule done.work (no_image _ done.image) _ _ done.end c.write_image-end.ensures
