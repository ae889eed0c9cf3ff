use Rattle.al_type_limits.proofs.StatementsAre.{stmt-If}
use Rattle.al_type_limits.proofs.statement.+statement.Goals as goal

pub stmt-returns-in-If : goal.stmt-returns-in-If
stmt-returns-in-If t c = rw (c.in-If.is, stmt-If, ← c.expr.ensures, ← c.get.ensures, ← c.stmt.ensures) c.other.ensures
