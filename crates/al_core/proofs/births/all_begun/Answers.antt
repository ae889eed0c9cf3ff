use Rattle.std.proofs.Common.{take}
use Rattle.std.proofs.lemmas.List.{take_more}
use Rattle.al_core.proofs.Parting.{begun_more}
use Rattle.al_core.proofs.births.all_begun.Goals as goal

pub loop-start-preserved : goal.loop-start-preserved
loop-start-preserved c =
    rw (take_more c.args.starts.now c.loop-start.start-index c.start-item.result c.loop-start-test.true, ← c.start-item.is, c.in_ok-push.ensures.items) (begun_more c.args.image.now (take c.loop-start.start-index c.args.starts.now) c.loop-start.all.items c.start-item.result c.in_ok-begun.field-0 c.loop-start.invariant c.in_ok-begun.ensures)
