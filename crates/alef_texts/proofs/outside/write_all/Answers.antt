use Rattle.std.proofs.Common.{◌∙◌, arith}
use Rattle.alef_texts.proofs.Told.{told_got}
use Rattle.alef_texts.proofs.outside.write_all.Goals as goal

pub loop-preserved : goal.loop-preserved
loop-preserved g c =
    let i = c.loop.invariant in let w = c.in_ok-done.ensures in (
      omega (arith, i, w.within),
      omega (arith, i, w.some),
      w.count.ok ∙ i.2,
      told_got c.loop.done c.in_ok-done.field-0 c.args.piece.now (g.S.Sink.got c.args.sink.now) (g.S.Sink.got c.loop.sink) (g.S.Sink.got c.write.new.self) i.3 w.got,
    )
