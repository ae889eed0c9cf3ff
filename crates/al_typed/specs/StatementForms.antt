-- The forms of typed statements with single parts, for definitions that go by cases: each hides the boxes.
use Rattle.std.specs.Prelude.{ℕ, Option}
use Rattle.al_typed.specs.declared.expression.TExpr.{TExpr}
use Rattle.al_typed.specs.declared.statement.TStmt.{TStmt, Label', While', Do', For', Rescue', end_of-TStmt, more_of-TStmt}

pattern abbrev pub label : ℕ → ℕ → TStmt → TStmt
label line number body = Label' line number tt (more_of-TStmt body end_of-TStmt)

pattern abbrev pub while_loop : ℕ → TExpr → TStmt → TStmt
while_loop line condition body = While' line condition tt (more_of-TStmt body end_of-TStmt)

pattern abbrev pub do_loop : ℕ → TStmt → TExpr → TStmt
do_loop line body condition = Do' line tt (more_of-TStmt body end_of-TStmt) condition

pattern abbrev pub for_loop : ℕ → Option TExpr → Option TExpr → Option TExpr → TStmt → TStmt
for_loop line start condition step body = For' line start condition step tt (more_of-TStmt body end_of-TStmt)

pattern abbrev pub rescue : ℕ → ℕ → TStmt → TStmt
rescue line number body = Rescue' line number tt (more_of-TStmt body end_of-TStmt)
