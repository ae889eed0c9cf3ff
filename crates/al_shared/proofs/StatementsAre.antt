-- What each kind of statement does.
use Rattle.std.proofs.Common.{◌≡◌, ℕ, Bool, List, [], ◌∷◌, map, fold, Option, Some, None, refl, ap, ◌∙◌, sym}
use Rattle.al_base.specs.declared.place.Place.{Place}
use Rattle.al_tree.specs.declared.type_tree.TypeTree.{TypeTree}
use Rattle.al_tree.specs.declared.expression.Name.{Name}
use Rattle.al_tree.specs.declared.expression.Expr.{Expr}
use Rattle.al_tree.specs.declared.statement.Variable.{Variable}
use Rattle.al_tree.specs.declared.statement.Stmt.{Stmt, fold-Stmt, fold-roll-Stmt}
use Rattle.al_tree.specs.declared.statement.Stmt.TheVariants as n
use Rattle.al_tree.specs.declared.statement.Stmt.TheOpen.{Stmt-F}
use Rattle.al_scope.specs.declared.declaration.Resolved.{Resolved}
use Rattle.al_shared.specs.Expressions.{Way, each, optional, expr}
use Rattle.al_shared.specs.Statements.{variable, branch, in_branch, stmt_step, stmt}
use Rattle.al_shared.proofs.Marking.{each_map}

module _ (names : List Resolved) (round : ℕ) where
  pub stmt-Empty : (at : Place) (inside : Bool) (bs : List Bool) → stmt names round (n.Empty at) inside bs ≡ bs
  unfolding stmt
  stmt-Empty at inside bs = ap (λ s. fold-Stmt Way (stmt_step names round) s inside bs) (sym (n.rolls-Empty at)) ∙ ap (λ (way : Way). way inside bs) (fold-roll-Stmt Way (stmt_step names round) (Stmt-F.Empty at))

  pub stmt-Block : (at : Place) (body : List Stmt) (inside : Bool) (bs : List Bool) → stmt names round (n.Block at body) inside bs ≡ each (stmt names round) body inside bs
  unfolding stmt
  stmt-Block at body inside bs = ap (λ s. fold-Stmt Way (stmt_step names round) s inside bs) (sym (n.rolls-Block at body)) ∙ ap (λ (way : Way). way inside bs) (fold-roll-Stmt Way (stmt_step names round) (Stmt-F.Block at body)) ∙ each_map (λ way. way) (stmt names round) body inside bs

  pub stmt-Declare : (at : Place) (base : TypeTree) (variables : List Variable) (inside : Bool) (bs : List Bool) → stmt names round (n.Declare at base variables) inside bs ≡ each (variable names round) variables inside bs
  unfolding stmt
  stmt-Declare at base variables inside bs = ap (λ s. fold-Stmt Way (stmt_step names round) s inside bs) (sym (n.rolls-Declare at base variables)) ∙ ap (λ (way : Way). way inside bs) (fold-roll-Stmt Way (stmt_step names round) (Stmt-F.Declare at base variables))

  pub stmt-Value : (at : Place) (value : Expr) (inside : Bool) (bs : List Bool) → stmt names round (n.Value at value) inside bs ≡ expr names round value inside bs
  unfolding stmt
  stmt-Value at value inside bs = ap (λ s. fold-Stmt Way (stmt_step names round) s inside bs) (sym (n.rolls-Value at value)) ∙ ap (λ (way : Way). way inside bs) (fold-roll-Stmt Way (stmt_step names round) (Stmt-F.Value at value))

  pub stmt-Label : (at : Place) (name : ℕ) (body : Stmt) (inside : Bool) (bs : List Bool) → stmt names round (n.Label at name body) inside bs ≡ stmt names round body inside bs
  unfolding stmt
  stmt-Label at name body inside bs = ap (λ s. fold-Stmt Way (stmt_step names round) s inside bs) (sym (n.rolls-Label at name body)) ∙ ap (λ (way : Way). way inside bs) (fold-roll-Stmt Way (stmt_step names round) (Stmt-F.Label at name body))

  pub stmt-If : (at : Place) (condition : Expr) (met : Stmt) (other : Option Stmt) (inside : Bool) (bs : List Bool) → stmt names round (n.If at condition met other) inside bs ≡ optional (stmt names round) other inside (stmt names round met inside (expr names round condition inside bs))
  unfolding stmt
  stmt-If at condition met None inside bs = ap (λ s. fold-Stmt Way (stmt_step names round) s inside bs) (sym (n.rolls-If at condition met None)) ∙ ap (λ (way : Way). way inside bs) (fold-roll-Stmt Way (stmt_step names round) (Stmt-F.If at condition met None))
  stmt-If at condition met (Some o) inside bs = ap (λ s. fold-Stmt Way (stmt_step names round) s inside bs) (sym (n.rolls-If at condition met (Some o))) ∙ ap (λ (way : Way). way inside bs) (fold-roll-Stmt Way (stmt_step names round) (Stmt-F.If at condition met (Some o)))

  pub stmt-While : (at : Place) (condition : Expr) (body : Stmt) (inside : Bool) (bs : List Bool) → stmt names round (n.While at condition body) inside bs ≡ stmt names round body inside (expr names round condition inside bs)
  unfolding stmt
  stmt-While at condition body inside bs = ap (λ s. fold-Stmt Way (stmt_step names round) s inside bs) (sym (n.rolls-While at condition body)) ∙ ap (λ (way : Way). way inside bs) (fold-roll-Stmt Way (stmt_step names round) (Stmt-F.While at condition body))

  pub stmt-Do : (at : Place) (body : Stmt) (condition : Expr) (inside : Bool) (bs : List Bool) → stmt names round (n.Do at body condition) inside bs ≡ expr names round condition inside (stmt names round body inside bs)
  unfolding stmt
  stmt-Do at body condition inside bs = ap (λ s. fold-Stmt Way (stmt_step names round) s inside bs) (sym (n.rolls-Do at body condition)) ∙ ap (λ (way : Way). way inside bs) (fold-roll-Stmt Way (stmt_step names round) (Stmt-F.Do at body condition))

  pub stmt-For : (at : Place) (start : Option Expr) (condition : Option Expr) (next : Option Expr) (body : Stmt) (inside : Bool) (bs : List Bool) → stmt names round (n.For at start condition next body) inside bs ≡ stmt names round body inside (optional (expr names round) next inside (optional (expr names round) condition inside (optional (expr names round) start inside bs)))
  unfolding stmt
  stmt-For at start condition next body inside bs = ap (λ s. fold-Stmt Way (stmt_step names round) s inside bs) (sym (n.rolls-For at start condition next body)) ∙ ap (λ (way : Way). way inside bs) (fold-roll-Stmt Way (stmt_step names round) (Stmt-F.For at start condition next body))

  pub stmt-Switch : (at : Place) (value : Expr) (body : List Stmt) (inside : Bool) (bs : List Bool) → stmt names round (n.Switch at value body) inside bs ≡ each (stmt names round) body inside (expr names round value inside bs)
  unfolding stmt
  stmt-Switch at value body inside bs = ap (λ s. fold-Stmt Way (stmt_step names round) s inside bs) (sym (n.rolls-Switch at value body)) ∙ ap (λ (way : Way). way inside bs) (fold-roll-Stmt Way (stmt_step names round) (Stmt-F.Switch at value body)) ∙ each_map (λ way. way) (stmt names round) body inside (expr names round value inside bs)

  pub stmt-Alt : (at : Place) (body : List Stmt) (inside : Bool) (bs : List Bool) → stmt names round (n.Alt at body) inside bs ≡ each (stmt names round) body inside bs
  unfolding stmt
  stmt-Alt at body inside bs = ap (λ s. fold-Stmt Way (stmt_step names round) s inside bs) (sym (n.rolls-Alt at body)) ∙ ap (λ (way : Way). way inside bs) (fold-roll-Stmt Way (stmt_step names round) (Stmt-F.Alt at body)) ∙ each_map (λ way. way) (stmt names round) body inside bs

  pub stmt-Case : (at : Place) (value : Expr) (inside : Bool) (bs : List Bool) → stmt names round (n.Case at value) inside bs ≡ expr names round value inside bs
  unfolding stmt
  stmt-Case at value inside bs = ap (λ s. fold-Stmt Way (stmt_step names round) s inside bs) (sym (n.rolls-Case at value)) ∙ ap (λ (way : Way). way inside bs) (fold-roll-Stmt Way (stmt_step names round) (Stmt-F.Case at value))

  pub stmt-Default : (at : Place) (inside : Bool) (bs : List Bool) → stmt names round (n.Default at) inside bs ≡ bs
  unfolding stmt
  stmt-Default at inside bs = ap (λ s. fold-Stmt Way (stmt_step names round) s inside bs) (sym (n.rolls-Default at)) ∙ ap (λ (way : Way). way inside bs) (fold-roll-Stmt Way (stmt_step names round) (Stmt-F.Default at))

  pub stmt-Par : (at : Place) (bodies : List Stmt) (inside : Bool) (bs : List Bool) → stmt names round (n.Par at bodies) inside bs ≡ each (in_branch names round) bodies inside bs
  unfolding stmt
  stmt-Par at bodies inside bs = ap (λ s. fold-Stmt Way (stmt_step names round) s inside bs) (sym (n.rolls-Par at bodies)) ∙ ap (λ (way : Way). way inside bs) (fold-roll-Stmt Way (stmt_step names round) (Stmt-F.Par at bodies)) ∙ each_map (branch names round) (stmt names round) bodies inside bs

  pub stmt-Rescue : (at : Place) (name : Option Name) (body : Stmt) (inside : Bool) (bs : List Bool) → stmt names round (n.Rescue at name body) inside bs ≡ stmt names round body inside bs
  unfolding stmt
  stmt-Rescue at name body inside bs = ap (λ s. fold-Stmt Way (stmt_step names round) s inside bs) (sym (n.rolls-Rescue at name body)) ∙ ap (λ (way : Way). way inside bs) (fold-roll-Stmt Way (stmt_step names round) (Stmt-F.Rescue at name body))

  pub stmt-Raise : (at : Place) (name : Option Name) (inside : Bool) (bs : List Bool) → stmt names round (n.Raise at name) inside bs ≡ bs
  unfolding stmt
  stmt-Raise at name inside bs = ap (λ s. fold-Stmt Way (stmt_step names round) s inside bs) (sym (n.rolls-Raise at name)) ∙ ap (λ (way : Way). way inside bs) (fold-roll-Stmt Way (stmt_step names round) (Stmt-F.Raise at name))

  pub stmt-Return : (at : Place) (value : Option Expr) (inside : Bool) (bs : List Bool) → stmt names round (n.Return at value) inside bs ≡ optional (expr names round) value inside bs
  unfolding stmt
  stmt-Return at value inside bs = ap (λ s. fold-Stmt Way (stmt_step names round) s inside bs) (sym (n.rolls-Return at value)) ∙ ap (λ (way : Way). way inside bs) (fold-roll-Stmt Way (stmt_step names round) (Stmt-F.Return at value))

  pub stmt-Become : (at : Place) (value : Expr) (inside : Bool) (bs : List Bool) → stmt names round (n.Become at value) inside bs ≡ expr names round value inside bs
  unfolding stmt
  stmt-Become at value inside bs = ap (λ s. fold-Stmt Way (stmt_step names round) s inside bs) (sym (n.rolls-Become at value)) ∙ ap (λ (way : Way). way inside bs) (fold-roll-Stmt Way (stmt_step names round) (Stmt-F.Become at value))

  pub stmt-Break : (at : Place) (count : Option ℕ) (inside : Bool) (bs : List Bool) → stmt names round (n.Break at count) inside bs ≡ bs
  unfolding stmt
  stmt-Break at count inside bs = ap (λ s. fold-Stmt Way (stmt_step names round) s inside bs) (sym (n.rolls-Break at count)) ∙ ap (λ (way : Way). way inside bs) (fold-roll-Stmt Way (stmt_step names round) (Stmt-F.Break at count))

  pub stmt-Continue : (at : Place) (count : Option ℕ) (inside : Bool) (bs : List Bool) → stmt names round (n.Continue at count) inside bs ≡ bs
  unfolding stmt
  stmt-Continue at count inside bs = ap (λ s. fold-Stmt Way (stmt_step names round) s inside bs) (sym (n.rolls-Continue at count)) ∙ ap (λ (way : Way). way inside bs) (fold-roll-Stmt Way (stmt_step names round) (Stmt-F.Continue at count))

  pub stmt-Goto : (at : Place) (label : Name) (inside : Bool) (bs : List Bool) → stmt names round (n.Goto at label) inside bs ≡ bs
  unfolding stmt
  stmt-Goto at label inside bs = ap (λ s. fold-Stmt Way (stmt_step names round) s inside bs) (sym (n.rolls-Goto at label)) ∙ ap (λ (way : Way). way inside bs) (fold-roll-Stmt Way (stmt_step names round) (Stmt-F.Goto at label))

  pub stmt-Alloc : (at : Place) (places : List Expr) (inside : Bool) (bs : List Bool) → stmt names round (n.Alloc at places) inside bs ≡ each (expr names round) places inside bs
  unfolding stmt
  stmt-Alloc at places inside bs = ap (λ s. fold-Stmt Way (stmt_step names round) s inside bs) (sym (n.rolls-Alloc at places)) ∙ ap (λ (way : Way). way inside bs) (fold-roll-Stmt Way (stmt_step names round) (Stmt-F.Alloc at places))

  pub stmt-Unalloc : (at : Place) (values : List Expr) (inside : Bool) (bs : List Bool) → stmt names round (n.Unalloc at values) inside bs ≡ each (expr names round) values inside bs
  unfolding stmt
  stmt-Unalloc at values inside bs = ap (λ s. fold-Stmt Way (stmt_step names round) s inside bs) (sym (n.rolls-Unalloc at values)) ∙ ap (λ (way : Way). way inside bs) (fold-roll-Stmt Way (stmt_step names round) (Stmt-F.Unalloc at values))

  pub stmt-Check : (at : Place) (value : Expr) (text : Option (List ℕ)) (inside : Bool) (bs : List Bool) → stmt names round (n.Check at value text) inside bs ≡ expr names round value inside bs
  unfolding stmt
  stmt-Check at value text inside bs = ap (λ s. fold-Stmt Way (stmt_step names round) s inside bs) (sym (n.rolls-Check at value text)) ∙ ap (λ (way : Way). way inside bs) (fold-roll-Stmt Way (stmt_step names round) (Stmt-F.Check at value text))

  pub stmt-Proc : (at : Place) (calls : List Expr) (inside : Bool) (bs : List Bool) → stmt names round (n.Proc at calls) inside bs ≡ each (expr names round) calls inside bs
  unfolding stmt
  stmt-Proc at calls inside bs = ap (λ s. fold-Stmt Way (stmt_step names round) s inside bs) (sym (n.rolls-Proc at calls)) ∙ ap (λ (way : Way). way inside bs) (fold-roll-Stmt Way (stmt_step names round) (Stmt-F.Proc at calls))

  pub stmt-Task : (at : Place) (calls : List Expr) (inside : Bool) (bs : List Bool) → stmt names round (n.Task at calls) inside bs ≡ each (expr names round) calls inside bs
  unfolding stmt
  stmt-Task at calls inside bs = ap (λ s. fold-Stmt Way (stmt_step names round) s inside bs) (sym (n.rolls-Task at calls)) ∙ ap (λ (way : Way). way inside bs) (fold-roll-Stmt Way (stmt_step names round) (Stmt-F.Task at calls))

pub ruleset stmt_is = (stmt-Empty, stmt-Block, stmt-Declare, stmt-Value, stmt-Label, stmt-If, stmt-While, stmt-Do, stmt-For, stmt-Switch, stmt-Alt, stmt-Case, stmt-Default, stmt-Par, stmt-Rescue, stmt-Raise, stmt-Return, stmt-Become, stmt-Break, stmt-Continue, stmt-Goto, stmt-Alloc, stmt-Unalloc, stmt-Check, stmt-Proc, stmt-Task)
