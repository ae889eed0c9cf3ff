-- Expressions in statements. Types and labels have none.
use Rattle.std.specs.Prelude.{ℕ, List}
use Rattle.al_tree.specs.declared.statement.Variable.{Variable}
use Rattle.al_tree.specs.declared.statement.Stmt.{Stmt, fold-Stmt}
use Rattle.al_tree.specs.declared.statement.Stmt.TheOpen.{Stmt-F}
use Rattle.al_called.specs.Expressions.{Way, nothing, each, optional, expr}

-- the parts of a statement
abbrev pub all : List Way → Way
all = each (λ way. way)

-- The names of a text.
module _ (names : List (List ℕ)) where
  -- a local with the value that it starts with
  abbrev pub variable : Variable → Way
  variable v = optional (expr names) v.value

  abbrev pub stmt_step : Stmt-F Way → Way
  stmt_step (Stmt-F.Empty at) = nothing
  stmt_step (Stmt-F.Block at body) = all body
  stmt_step (Stmt-F.Declare at base variables) = each variable variables
  stmt_step (Stmt-F.Value at value) = expr names value
  stmt_step (Stmt-F.Label at name body) = body
  stmt_step (Stmt-F.If at condition met other) = λ faults. optional (λ way. way) other (met (expr names condition faults))
  stmt_step (Stmt-F.While at condition body) = λ faults. body (expr names condition faults)
  stmt_step (Stmt-F.Do at body condition) = λ faults. expr names condition (body faults)
  stmt_step (Stmt-F.For at start condition next body) =
      λ faults. body (optional (expr names) next (optional (expr names) condition (optional (expr names) start faults)))
  stmt_step (Stmt-F.Switch at value body) = λ faults. all body (expr names value faults)
  stmt_step (Stmt-F.Alt at body) = all body
  stmt_step (Stmt-F.Case at value) = expr names value
  stmt_step (Stmt-F.Default at) = nothing
  stmt_step (Stmt-F.Par at branches) = all branches
  stmt_step (Stmt-F.Rescue at name body) = body
  stmt_step (Stmt-F.Raise at name) = nothing
  stmt_step (Stmt-F.Return at value) = optional (expr names) value
  stmt_step (Stmt-F.Become at value) = expr names value
  stmt_step (Stmt-F.Break at count) = nothing
  stmt_step (Stmt-F.Continue at count) = nothing
  stmt_step (Stmt-F.Goto at label) = nothing
  stmt_step (Stmt-F.Alloc at places) = each (expr names) places
  stmt_step (Stmt-F.Unalloc at values) = each (expr names) values
  stmt_step (Stmt-F.Check at value text) = expr names value
  stmt_step (Stmt-F.Proc at calls) = each (expr names) calls
  stmt_step (Stmt-F.Task at calls) = each (expr names) calls

  unfoldable pub stmt : Stmt → Way
  stmt = fold-Stmt Way stmt_step
