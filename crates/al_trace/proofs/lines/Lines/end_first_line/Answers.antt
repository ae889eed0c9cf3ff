use Rattle.std.proofs.lemmas.Bool.{iff_false}
use Rattle.al_trace.proofs.BadLines.{wrong_first}
use Rattle.al_trace.proofs.lines.Lines.end_first_line.Goals as goal

pub returns-else-is_first_line-clause-stop : goal.returns-else-is_first_line-clause-stop
returns-else-is_first_line-clause-stop c = wrong_first c.args.self.now c.bad_line.result c.requires.whole c.requires.started (iff_false c.is_first_line.ensures c.if-is_first_line.false) c.bad_line.ensures
