use Rattle.rv_exec.proofs.LineRows.{lines_rise}
use Rattle.rv_exec.proofs.lines.line_of.Goals as goal

pub line_at-requires : goal.line_at-requires
line_at-requires c = rw c.as_slice.ensures.value (lines_rise c.args.image.now c.requires)
