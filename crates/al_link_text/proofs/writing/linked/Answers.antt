use Rattle.std.proofs.Common.{arith}
use Rattle.al_link_text.proofs.Alike.{linked_step}
use Rattle.al_link_text.proofs.writing.linked.Goals as goal

pub loop-file-preserved : goal.loop-file-preserved
loop-file-preserved c =
    let count = c.loop-file.invariant.1 in (
      linked_step c.args.files.now c.loop-file.file-index c.file-item.result c.loop-file.text.items c.push_file.new.text.items c.loop-file.earlier
          c.add_types.new.texts c.loop-file.k _ c.loop-file-test.true c.file-item.is c.in_ok-push_file.ensures c.in_ok-add_types.ensures c.loop-file.invariant.0,
      omega (arith, count),
    )
