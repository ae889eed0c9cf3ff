use Rattle.std.proofs.Common.{arith}
use Rattle.al_trace.proofs.BadLines.{too_long, whole_byte, stop_later, text_byte, long_line, part_byte}
use Rattle.al_trace.proofs.lines.Lines.push_byte.Goals as goal

pub returns-then-len-eq-MOST_ENTRIES-clause-stop : goal.returns-then-len-eq-MOST_ENTRIES-clause-stop
returns-then-len-eq-MOST_ENTRIES-clause-stop c = too_long c.args.self.now c.args.byte c.requires (omega (arith, c.len.ensures))

pub end_line-requires : goal.end_line-requires
end_line-requires c =
    let few = c.requires.lines.few in let size = c.requires.lines.size in let short = c.requires.short in
    whole_byte c.args.self.now c.args.byte c.requires (omega (arith, c.len.ensures)) c.if-byte-eq10.true (omega arith)

pub returns-then-byte-eq10-clause-stop : goal.returns-then-byte-eq10-clause-stop
returns-then-byte-eq10-clause-stop c =
    let size = c.requires.lines.size in let short = c.requires.short in
    stop_later c.end_line.result _ _ c.args.byte (text_byte c.args.self.now c.args.byte (omega arith)) c.end_line.ensures.stop

pub returns-then-self-eq-MOST_BYTES-clause-stop : goal.returns-then-self-eq-MOST_BYTES-clause-stop
returns-then-self-eq-MOST_BYTES-clause-stop c =
    let few = c.requires.lines.few in
    long_line c.args.self.now c.args.byte c.bad_line.result c.requires (omega (arith, c.len.ensures)) c.if-byte-eq10.false (omega arith) c.bad_line.ensures

pub returns-clause-part : goal.returns-clause-part
returns-clause-part c =
    let few = c.requires.lines.few in let size = c.requires.lines.size in let short = c.requires.short in
    part_byte c.args.self.now c.args.byte c.requires (omega (arith, c.len.ensures)) c.if-byte-eq10.false (omega arith) (omega arith)
