use Rattle.std.proofs.Common.{arith}
use Rattle.alef_texts.proofs.Lines.{short_trap}
use Rattle.alef_texts.proofs.line.trap_line.Goals as goal

pub name_line-requires-clause-room : goal.name_line-requires-clause-room
name_line-requires-clause-room c =
    let short = short_trap c.args.trap c.args.proc c.args.at c.ranges.proc.fits c.ranges.at.fits in
    let len = c.over_line-len.ensures.len in
    let room = c.over_line-len.auto.buf in
    let fits = c.fits-buf in
    omega (arith, short, len, room, fits)

pub returns-clause-within : goal.returns-clause-within
returns-clause-within c =
    let short = short_trap c.args.trap c.args.proc c.args.at c.ranges.proc.fits c.ranges.at.fits in
    let len = c.over_line-len.ensures.len in
    let within = c.name_line.ensures.within in
    omega (arith, short, len, within)
