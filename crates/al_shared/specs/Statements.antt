-- Which locals of a function its body makes shared.
use Rattle.std.specs.Prelude.{ℕ, Bool, true, false, replicate, List}
use Rattle.al_tree.specs.declared.expression.Expr.{Expr}
use Rattle.al_tree.specs.declared.statement.Variable.{Variable}
use Rattle.al_tree.specs.declared.statement.Stmt.{Stmt, fold-Stmt}
use Rattle.al_tree.specs.declared.statement.Stmt.TheOpen.{Stmt-F}
use Rattle.al_scope.specs.declared.declaration.Resolved.{Resolved}
use Rattle.al_shared.specs.Expressions.{Way, each, optional, expr}

module _ (names : List Resolved) (round : ℕ) where
  abbrev pub e : Expr → Way
  e = expr names round

  -- a local with the value that it starts with
  abbrev pub variable : Variable → Way
  variable v = optional e v.value

  -- a statement in a branch of a par
  abbrev pub branch : Way → Way
  branch way inside bs = way true bs

  abbrev pub stmt_step : Stmt-F Way → Way
  stmt_step (Stmt-F.Block at body) = each (λ way. way) body
  stmt_step (Stmt-F.Declare at base variables) = each variable variables
  stmt_step (Stmt-F.Value at value) = e value
  stmt_step (Stmt-F.Label at name body) = body
  stmt_step (Stmt-F.If at condition met other) = λ inside bs. optional (λ way. way) other inside (met inside (e condition inside bs))
  stmt_step (Stmt-F.While at condition body) = λ inside bs. body inside (e condition inside bs)
  stmt_step (Stmt-F.Do at body condition) = λ inside bs. e condition inside (body inside bs)
  stmt_step (Stmt-F.For at start condition next body) =
      λ inside bs. body inside (optional e next inside (optional e condition inside (optional e start inside bs)))
  stmt_step (Stmt-F.Switch at value body) = λ inside bs. each (λ way. way) body inside (e value inside bs)
  stmt_step (Stmt-F.Alt at body) = each (λ way. way) body
  stmt_step (Stmt-F.Case at value) = e value
  stmt_step (Stmt-F.Par at branches) = each branch branches
  stmt_step (Stmt-F.Rescue at name body) = body
  stmt_step (Stmt-F.Return at value) = optional e value
  stmt_step (Stmt-F.Become at value) = e value
  stmt_step (Stmt-F.Alloc at places) = each e places
  stmt_step (Stmt-F.Unalloc at values) = each e values
  stmt_step (Stmt-F.Check at value text) = e value
  stmt_step (Stmt-F.Proc at calls) = each e calls
  stmt_step (Stmt-F.Task at calls) = each e calls
  stmt_step _ = λ inside bs. bs

  unfoldable pub stmt : Stmt → Way
  stmt = fold-Stmt Way stmt_step

  abbrev pub in_branch : Stmt → Way
  in_branch s = branch (stmt s)

  -- of the first `count` parameters and locals of a function with that body, which are shared beside those of types that
  -- always are
  unfoldable pub shared : (count : ℕ) → Stmt → List Bool
  shared count body = stmt body false (replicate count false)
