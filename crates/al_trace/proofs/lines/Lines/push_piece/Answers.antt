use Rattle.std.proofs.Common.{refl}
use Rattle.std.proofs.lemmas.Result.{err_from_is_err_and}
use Rattle.al_trace.specs.Lines.{text_of}
use Rattle.al_trace.proofs.BadLines.{stop_in_piece}
use Rattle.al_trace.proofs.lines.Lines.push_piece.Goals as goal

pub returns-in_err-push_byte-clause-stop : goal.returns-in_err-push_byte-clause-stop
returns-in_err-push_byte-clause-stop c =
    let p = err_from_is_err_and c.from_residual.result c.from_residual.ensures.1 in
    rw (p.1, p.2)
    (λ more. stop_in_piece c.in_err-push_byte.field-0.0 (text_of c.loop-byte.self) (text_of c.args.self.now) c.args.piece.now more c.loop-byte.byte-index _ c.loop-byte-test.true refl
    c.loop-byte.invariant.text c.in_err-push_byte.ensures.stop)
