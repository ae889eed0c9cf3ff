use Rattle.std.proofs.Common.{◌∙◌, [], arith}
use Rattle.std.proofs.lemmas.List.{length-take}
use Rattle.std.proofs.lemmas.Result.{err_from_is_err_and}
use Rattle.al_trace.specs.Lines.{text_of}
use Rattle.al_trace.proofs.FromHost.{nearer, told_stop, no_fault}
use Rattle.al_trace.proofs.reading.read_lines.Goals as goal

pub loop-len-smaller : goal.loop-len-smaller
loop-len-smaller g c =
    nearer c.push_piece.new.self (text_of c.loop-len.lines) _ c.in_ok-push_piece.ensures.part c.in_ok-push_piece.ensures.text
    (omega (arith, length-take c.in_ok-len.len c.read.new.buf, c.in_ok-len.ensures.within, c.read.auto.buf, c.if-len-eq0.false))

pub returns-in_err-push_piece-clause-stop : goal.returns-in_err-push_piece-clause-stop
returns-in_err-push_piece-clause-stop g c =
    let p = err_from_is_err_and c.from_residual-in_err-push_piece.result c.from_residual-in_err-push_piece.ensures.1 in
    rw (p.1, p.2)
    (told_stop (text_of c.args.lines.now) (text_of c.loop-len.lines) c.read.new.buf c.in_ok-len.len c.in_err-push_piece.field-0.0
    (g.H.Host.content c.args.host.now) (g.H.Host.content c.loop-len.host) (g.H.Host.content c.read.new.self)
    c.in_err-push_piece.ensures.stop c.loop-len.invariant.told c.in_ok-len.ensures.read)

pub returns-in_err-push_piece-clause-faults : goal.returns-in_err-push_piece-clause-faults
returns-in_err-push_piece-clause-faults g c =
    let p = err_from_is_err_and c.from_residual-in_err-push_piece.result c.from_residual-in_err-push_piece.ensures.1 in
    rw (p.1, p.2)
    (no_fault c.in_err-push_piece.field-0.0 _ (g.H.Host.faults c.args.host.now) (g.H.Host.faults c.read.new.self)
    (c.in_err-push_piece.ensures.stop []) (c.in_ok-len.ensures.count.ok ∙ c.loop-len.invariant.faults))
