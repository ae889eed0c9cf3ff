use Rattle.al_called.proofs.StatementsAre.{stmt-If}
use Rattle.al_called.proofs.statement.+statement.Goals as goal

pub stmt-returns-in_ok-stmt-in-If : goal.stmt-returns-in_ok-stmt-in-If
stmt-returns-in_ok-stmt-in-If t c =
    rw (c.in-If.is, stmt-If, ← c.in_ok-expr-in-If.ensures, ← c.get.ensures, ← c.in_ok-stmt-in-If.ensures) c.other.ensures
