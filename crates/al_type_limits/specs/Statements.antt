-- The types that statements write: those of locals, and those in expressions.
use Rattle.al_tree.specs.declared.statement.Variable.{Variable}
use Rattle.al_tree.specs.declared.statement.Stmt.{Stmt, fold-Stmt}
use Rattle.al_tree.specs.declared.statement.Stmt.TheOpen.{Stmt-F}
use Rattle.al_type_limits.specs.declared.size.Size.{Size}
use Rattle.al_type_limits.specs.Sizes.{beside}
use Rattle.al_type_limits.specs.Types.{Names, type_size, declared}
use Rattle.al_type_limits.specs.Expressions.{Way, none, each, all, optional, expr}

module _ (names : Names) where
  -- a local of that base type, with the value that it starts with
  abbrev pub variable : Size → Variable → Way
  variable base v sum = optional (expr names) v.value (beside sum (declared base v.dcl))

  abbrev pub stmt_step : Stmt-F Way → Way
  stmt_step (Stmt-F.Empty at) = none
  stmt_step (Stmt-F.Block at body) = all body
  stmt_step (Stmt-F.Declare at base variables) = each (variable (type_size names base)) variables
  stmt_step (Stmt-F.Value at value) = expr names value
  stmt_step (Stmt-F.Label at name body) = body
  stmt_step (Stmt-F.If at condition met other) = λ sum. optional (λ way. way) other (met (expr names condition sum))
  stmt_step (Stmt-F.While at condition body) = λ sum. body (expr names condition sum)
  stmt_step (Stmt-F.Do at body condition) = λ sum. expr names condition (body sum)
  stmt_step (Stmt-F.For at start condition next body) =
      λ sum. body (optional (expr names) next (optional (expr names) condition (optional (expr names) start sum)))
  stmt_step (Stmt-F.Switch at value body) = λ sum. all body (expr names value sum)
  stmt_step (Stmt-F.Alt at body) = all body
  stmt_step (Stmt-F.Case at value) = expr names value
  stmt_step (Stmt-F.Default at) = none
  stmt_step (Stmt-F.Par at branches) = all branches
  stmt_step (Stmt-F.Rescue at name body) = body
  stmt_step (Stmt-F.Raise at name) = none
  stmt_step (Stmt-F.Return at value) = optional (expr names) value
  stmt_step (Stmt-F.Become at value) = expr names value
  stmt_step (Stmt-F.Break at count) = none
  stmt_step (Stmt-F.Continue at count) = none
  stmt_step (Stmt-F.Goto at label) = none
  stmt_step (Stmt-F.Alloc at places) = each (expr names) places
  stmt_step (Stmt-F.Unalloc at values) = each (expr names) values
  stmt_step (Stmt-F.Check at value text) = expr names value
  stmt_step (Stmt-F.Proc at calls) = each (expr names) calls
  stmt_step (Stmt-F.Task at calls) = each (expr names) calls

  unfoldable pub stmt : Stmt → Way
  stmt = fold-Stmt Way stmt_step
