use Rattle.std.proofs.Common.{inl, inr, arith}
use Rattle.al_trace.proofs.BadLines.{unfinished}
use Rattle.al_trace.proofs.lines.Lines.finish.Goals as goal
use Rattle.al_trace.proofs.lines.Lines.finish.Goals.{else-self-via-then-self+else-self-eq0, else-self-via-else-self}

pub returns-else-self-clause-text : goal.returns-else-self-clause-text
returns-else-self-clause-text c =
    elim c.else-self.branch [
      | else-self-via-then-self+else-self-eq0 w ↦ unfinished c.args.self c.bad_line.result c.requires (inr (omega arith)) c.bad_line.ensures
      | else-self-via-else-self w ↦ unfinished c.args.self c.bad_line.result c.requires (inl w.if-self.false) c.bad_line.ensures
    ]
