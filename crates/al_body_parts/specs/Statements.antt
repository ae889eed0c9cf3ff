-- What is gathered of a body.
use Rattle.std.specs.Prelude.{true, false, List, Option}
use Rattle.al_tree.specs.declared.type_tree.TypeTree.{TypeTree}
use Rattle.al_tree.specs.declared.expression.Expr.{Expr}
use Rattle.al_tree.specs.declared.statement.Variable.{Variable}
use Rattle.al_tree.specs.declared.statement.Stmt.{Stmt, fold-Stmt}
use Rattle.al_tree.specs.declared.statement.Stmt.TheOpen.{Stmt-F}
use Rattle.al_typed.specs.declared.ty.Ty.{Ty}
use Rattle.al_environment.specs.declared.environment.Environment.{Environment}
use Rattle.al_environment.specs.declared.environment.Here.{Here}
use Rattle.al_environment.specs.Written.{written}
use Rattle.al_body_parts.specs.declared.parts.Parts.{Parts}
use Rattle.al_body_parts.specs.Parts.{nothing, with_label, with_base, with_local}
use Rattle.al_body_parts.specs.Expressions.{Way, each, optional, expr}

module _ (env : Environment) (here : Here) where
  abbrev pub e : Expr → Way
  e = expr env here

  -- a local of a base type, then the value that it starts with
  abbrev pub variable : Option Ty → Variable → Way
  variable base v inside q = optional e v.value inside (with_local env base inside v.dcl q)

  abbrev pub variables : TypeTree → List Variable → Way
  variables base vs inside q = each (variable (written env here base)) vs inside (with_base env here base q)

  -- what stands between the parentheses of a for
  abbrev pub head : Option Expr → Option Expr → Option Expr → Way
  head start condition next inside q = optional e next inside (optional e condition inside (optional e start inside q))

  -- a statement in a branch of a par
  abbrev pub branch : Way → Way
  branch way inside q = way true q

  abbrev pub stmt_step : Stmt-F Way → Way
  stmt_step (Stmt-F.Block at body) = each (λ way. way) body
  stmt_step (Stmt-F.Declare at base vs) = variables base vs
  stmt_step (Stmt-F.Value at value) = e value
  stmt_step (Stmt-F.Label at name body) = λ inside q. body inside (with_label inside at q)
  stmt_step (Stmt-F.If at condition met other) = λ inside q. optional (λ way. way) other inside (met inside (e condition inside q))
  stmt_step (Stmt-F.While at condition body) = λ inside q. body inside (e condition inside q)
  stmt_step (Stmt-F.Do at body condition) = λ inside q. e condition inside (body inside q)
  stmt_step (Stmt-F.For at start condition next body) =
      λ inside q. body inside (head start condition next inside q)
  stmt_step (Stmt-F.Switch at value body) = λ inside q. each (λ way. way) body inside (e value inside q)
  stmt_step (Stmt-F.Alt at body) = each (λ way. way) body
  stmt_step (Stmt-F.Case at value) = e value
  stmt_step (Stmt-F.Par at branches) = each branch branches
  stmt_step (Stmt-F.Rescue at name body) = λ inside q. body inside (with_label inside at q)
  stmt_step (Stmt-F.Return at value) = optional e value
  stmt_step (Stmt-F.Become at value) = e value
  stmt_step (Stmt-F.Alloc at places) = each e places
  stmt_step (Stmt-F.Unalloc at values) = each e values
  stmt_step (Stmt-F.Check at value text) = e value
  stmt_step (Stmt-F.Proc at calls) = each e calls
  stmt_step (Stmt-F.Task at calls) = each e calls
  stmt_step _ = λ inside q. q

  unfoldable pub stmt : Stmt → Way
  stmt = fold-Stmt Way stmt_step

  abbrev pub in_branch : Stmt → Way
  in_branch s = branch (stmt s)

  -- what the body of a function or a branch declares and writes
  unfoldable pub parts : Stmt → Parts
  parts body = stmt body false nothing
