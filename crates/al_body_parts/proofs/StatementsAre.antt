-- What each kind of statement does.
use Rattle.std.proofs.Common.{◌≡◌, ℕ, Bool, List, Option, Some, None, ap, ◌∙◌, sym}
use Rattle.al_base.specs.declared.place.Place.{Place}
use Rattle.al_tree.specs.declared.type_tree.TypeTree.{TypeTree}
use Rattle.al_tree.specs.declared.expression.Name.{Name}
use Rattle.al_tree.specs.declared.expression.Expr.{Expr}
use Rattle.al_tree.specs.declared.statement.Variable.{Variable}
use Rattle.al_tree.specs.declared.statement.Stmt.{Stmt, fold-Stmt, fold-roll-Stmt}
use Rattle.al_tree.specs.declared.statement.Stmt.TheVariants as n
use Rattle.al_tree.specs.declared.statement.Stmt.TheOpen.{Stmt-F}
use Rattle.al_environment.specs.declared.environment.Environment.{Environment}
use Rattle.al_environment.specs.declared.environment.Here.{Here}
use Rattle.al_body_parts.specs.declared.parts.Parts.{Parts}
use Rattle.al_body_parts.specs.Parts.{with_label}
use Rattle.al_body_parts.specs.Expressions.{Way, each, optional, expr}
use Rattle.al_body_parts.specs.Statements.{variables, branch, in_branch, stmt_step, stmt}
use Rattle.al_body_parts.proofs.Gathering.{each_map}

module _ (env : Environment) (here : Here) where
  pub stmt-Empty : (at : Place) (inside : Bool) (q : Parts) → stmt env here (n.Empty at) inside q ≡ q
  unfolding stmt
  stmt-Empty at inside q = ap (λ s. fold-Stmt Way (stmt_step env here) s inside q) (sym (n.rolls-Empty at)) ∙ ap (λ (way : Way). way inside q) (fold-roll-Stmt Way (stmt_step env here) (Stmt-F.Empty at))

  pub stmt-Block : (at : Place) (body : List Stmt) (inside : Bool) (q : Parts) → stmt env here (n.Block at body) inside q ≡ each (stmt env here) body inside q
  unfolding stmt
  stmt-Block at body inside q = ap (λ s. fold-Stmt Way (stmt_step env here) s inside q) (sym (n.rolls-Block at body)) ∙ ap (λ (way : Way). way inside q) (fold-roll-Stmt Way (stmt_step env here) (Stmt-F.Block at body)) ∙ each_map (λ way. way) (stmt env here) body inside q

  pub stmt-Declare : (at : Place) (base : TypeTree) (vs : List Variable) (inside : Bool) (q : Parts) → stmt env here (n.Declare at base vs) inside q ≡ variables env here base vs inside q
  unfolding stmt
  stmt-Declare at base vs inside q = ap (λ s. fold-Stmt Way (stmt_step env here) s inside q) (sym (n.rolls-Declare at base vs)) ∙ ap (λ (way : Way). way inside q) (fold-roll-Stmt Way (stmt_step env here) (Stmt-F.Declare at base vs))

  pub stmt-Value : (at : Place) (value : Expr) (inside : Bool) (q : Parts) → stmt env here (n.Value at value) inside q ≡ expr env here value inside q
  unfolding stmt
  stmt-Value at value inside q = ap (λ s. fold-Stmt Way (stmt_step env here) s inside q) (sym (n.rolls-Value at value)) ∙ ap (λ (way : Way). way inside q) (fold-roll-Stmt Way (stmt_step env here) (Stmt-F.Value at value))

  pub stmt-Label : (at : Place) (name : ℕ) (body : Stmt) (inside : Bool) (q : Parts) → stmt env here (n.Label at name body) inside q ≡ stmt env here body inside (with_label inside at q)
  unfolding stmt
  stmt-Label at name body inside q = ap (λ s. fold-Stmt Way (stmt_step env here) s inside q) (sym (n.rolls-Label at name body)) ∙ ap (λ (way : Way). way inside q) (fold-roll-Stmt Way (stmt_step env here) (Stmt-F.Label at name body))

  pub stmt-If : (at : Place) (condition : Expr) (met : Stmt) (other : Option Stmt) (inside : Bool) (q : Parts) → stmt env here (n.If at condition met other) inside q ≡ optional (stmt env here) other inside (stmt env here met inside (expr env here condition inside q))
  unfolding stmt
  stmt-If at condition met None inside q = ap (λ s. fold-Stmt Way (stmt_step env here) s inside q) (sym (n.rolls-If at condition met None)) ∙ ap (λ (way : Way). way inside q) (fold-roll-Stmt Way (stmt_step env here) (Stmt-F.If at condition met None))
  stmt-If at condition met (Some o) inside q = ap (λ s. fold-Stmt Way (stmt_step env here) s inside q) (sym (n.rolls-If at condition met (Some o))) ∙ ap (λ (way : Way). way inside q) (fold-roll-Stmt Way (stmt_step env here) (Stmt-F.If at condition met (Some o)))

  pub stmt-While : (at : Place) (condition : Expr) (body : Stmt) (inside : Bool) (q : Parts) → stmt env here (n.While at condition body) inside q ≡ stmt env here body inside (expr env here condition inside q)
  unfolding stmt
  stmt-While at condition body inside q = ap (λ s. fold-Stmt Way (stmt_step env here) s inside q) (sym (n.rolls-While at condition body)) ∙ ap (λ (way : Way). way inside q) (fold-roll-Stmt Way (stmt_step env here) (Stmt-F.While at condition body))

  pub stmt-Do : (at : Place) (body : Stmt) (condition : Expr) (inside : Bool) (q : Parts) → stmt env here (n.Do at body condition) inside q ≡ expr env here condition inside (stmt env here body inside q)
  unfolding stmt
  stmt-Do at body condition inside q = ap (λ s. fold-Stmt Way (stmt_step env here) s inside q) (sym (n.rolls-Do at body condition)) ∙ ap (λ (way : Way). way inside q) (fold-roll-Stmt Way (stmt_step env here) (Stmt-F.Do at body condition))

  pub stmt-For : (at : Place) (start : Option Expr) (condition : Option Expr) (next : Option Expr) (body : Stmt) (inside : Bool) (q : Parts) → stmt env here (n.For at start condition next body) inside q ≡ stmt env here body inside (optional (expr env here) next inside (optional (expr env here) condition inside (optional (expr env here) start inside q)))
  unfolding stmt
  stmt-For at start condition next body inside q = ap (λ s. fold-Stmt Way (stmt_step env here) s inside q) (sym (n.rolls-For at start condition next body)) ∙ ap (λ (way : Way). way inside q) (fold-roll-Stmt Way (stmt_step env here) (Stmt-F.For at start condition next body))

  pub stmt-Switch : (at : Place) (value : Expr) (body : List Stmt) (inside : Bool) (q : Parts) → stmt env here (n.Switch at value body) inside q ≡ each (stmt env here) body inside (expr env here value inside q)
  unfolding stmt
  stmt-Switch at value body inside q = ap (λ s. fold-Stmt Way (stmt_step env here) s inside q) (sym (n.rolls-Switch at value body)) ∙ ap (λ (way : Way). way inside q) (fold-roll-Stmt Way (stmt_step env here) (Stmt-F.Switch at value body)) ∙ each_map (λ way. way) (stmt env here) body inside (expr env here value inside q)

  pub stmt-Alt : (at : Place) (body : List Stmt) (inside : Bool) (q : Parts) → stmt env here (n.Alt at body) inside q ≡ each (stmt env here) body inside q
  unfolding stmt
  stmt-Alt at body inside q = ap (λ s. fold-Stmt Way (stmt_step env here) s inside q) (sym (n.rolls-Alt at body)) ∙ ap (λ (way : Way). way inside q) (fold-roll-Stmt Way (stmt_step env here) (Stmt-F.Alt at body)) ∙ each_map (λ way. way) (stmt env here) body inside q

  pub stmt-Case : (at : Place) (value : Expr) (inside : Bool) (q : Parts) → stmt env here (n.Case at value) inside q ≡ expr env here value inside q
  unfolding stmt
  stmt-Case at value inside q = ap (λ s. fold-Stmt Way (stmt_step env here) s inside q) (sym (n.rolls-Case at value)) ∙ ap (λ (way : Way). way inside q) (fold-roll-Stmt Way (stmt_step env here) (Stmt-F.Case at value))

  pub stmt-Default : (at : Place) (inside : Bool) (q : Parts) → stmt env here (n.Default at) inside q ≡ q
  unfolding stmt
  stmt-Default at inside q = ap (λ s. fold-Stmt Way (stmt_step env here) s inside q) (sym (n.rolls-Default at)) ∙ ap (λ (way : Way). way inside q) (fold-roll-Stmt Way (stmt_step env here) (Stmt-F.Default at))

  pub stmt-Par : (at : Place) (bodies : List Stmt) (inside : Bool) (q : Parts) → stmt env here (n.Par at bodies) inside q ≡ each (in_branch env here) bodies inside q
  unfolding stmt
  stmt-Par at bodies inside q = ap (λ s. fold-Stmt Way (stmt_step env here) s inside q) (sym (n.rolls-Par at bodies)) ∙ ap (λ (way : Way). way inside q) (fold-roll-Stmt Way (stmt_step env here) (Stmt-F.Par at bodies)) ∙ each_map (branch env here) (stmt env here) bodies inside q

  pub stmt-Rescue : (at : Place) (name : Option Name) (body : Stmt) (inside : Bool) (q : Parts) → stmt env here (n.Rescue at name body) inside q ≡ stmt env here body inside (with_label inside at q)
  unfolding stmt
  stmt-Rescue at name body inside q = ap (λ s. fold-Stmt Way (stmt_step env here) s inside q) (sym (n.rolls-Rescue at name body)) ∙ ap (λ (way : Way). way inside q) (fold-roll-Stmt Way (stmt_step env here) (Stmt-F.Rescue at name body))

  pub stmt-Raise : (at : Place) (name : Option Name) (inside : Bool) (q : Parts) → stmt env here (n.Raise at name) inside q ≡ q
  unfolding stmt
  stmt-Raise at name inside q = ap (λ s. fold-Stmt Way (stmt_step env here) s inside q) (sym (n.rolls-Raise at name)) ∙ ap (λ (way : Way). way inside q) (fold-roll-Stmt Way (stmt_step env here) (Stmt-F.Raise at name))

  pub stmt-Return : (at : Place) (value : Option Expr) (inside : Bool) (q : Parts) → stmt env here (n.Return at value) inside q ≡ optional (expr env here) value inside q
  unfolding stmt
  stmt-Return at value inside q = ap (λ s. fold-Stmt Way (stmt_step env here) s inside q) (sym (n.rolls-Return at value)) ∙ ap (λ (way : Way). way inside q) (fold-roll-Stmt Way (stmt_step env here) (Stmt-F.Return at value))

  pub stmt-Become : (at : Place) (value : Expr) (inside : Bool) (q : Parts) → stmt env here (n.Become at value) inside q ≡ expr env here value inside q
  unfolding stmt
  stmt-Become at value inside q = ap (λ s. fold-Stmt Way (stmt_step env here) s inside q) (sym (n.rolls-Become at value)) ∙ ap (λ (way : Way). way inside q) (fold-roll-Stmt Way (stmt_step env here) (Stmt-F.Become at value))

  pub stmt-Break : (at : Place) (count : Option ℕ) (inside : Bool) (q : Parts) → stmt env here (n.Break at count) inside q ≡ q
  unfolding stmt
  stmt-Break at count inside q = ap (λ s. fold-Stmt Way (stmt_step env here) s inside q) (sym (n.rolls-Break at count)) ∙ ap (λ (way : Way). way inside q) (fold-roll-Stmt Way (stmt_step env here) (Stmt-F.Break at count))

  pub stmt-Continue : (at : Place) (count : Option ℕ) (inside : Bool) (q : Parts) → stmt env here (n.Continue at count) inside q ≡ q
  unfolding stmt
  stmt-Continue at count inside q = ap (λ s. fold-Stmt Way (stmt_step env here) s inside q) (sym (n.rolls-Continue at count)) ∙ ap (λ (way : Way). way inside q) (fold-roll-Stmt Way (stmt_step env here) (Stmt-F.Continue at count))

  pub stmt-Goto : (at : Place) (label : Name) (inside : Bool) (q : Parts) → stmt env here (n.Goto at label) inside q ≡ q
  unfolding stmt
  stmt-Goto at label inside q = ap (λ s. fold-Stmt Way (stmt_step env here) s inside q) (sym (n.rolls-Goto at label)) ∙ ap (λ (way : Way). way inside q) (fold-roll-Stmt Way (stmt_step env here) (Stmt-F.Goto at label))

  pub stmt-Alloc : (at : Place) (places : List Expr) (inside : Bool) (q : Parts) → stmt env here (n.Alloc at places) inside q ≡ each (expr env here) places inside q
  unfolding stmt
  stmt-Alloc at places inside q = ap (λ s. fold-Stmt Way (stmt_step env here) s inside q) (sym (n.rolls-Alloc at places)) ∙ ap (λ (way : Way). way inside q) (fold-roll-Stmt Way (stmt_step env here) (Stmt-F.Alloc at places))

  pub stmt-Unalloc : (at : Place) (values : List Expr) (inside : Bool) (q : Parts) → stmt env here (n.Unalloc at values) inside q ≡ each (expr env here) values inside q
  unfolding stmt
  stmt-Unalloc at values inside q = ap (λ s. fold-Stmt Way (stmt_step env here) s inside q) (sym (n.rolls-Unalloc at values)) ∙ ap (λ (way : Way). way inside q) (fold-roll-Stmt Way (stmt_step env here) (Stmt-F.Unalloc at values))

  pub stmt-Check : (at : Place) (value : Expr) (text : Option (List ℕ)) (inside : Bool) (q : Parts) → stmt env here (n.Check at value text) inside q ≡ expr env here value inside q
  unfolding stmt
  stmt-Check at value text inside q = ap (λ s. fold-Stmt Way (stmt_step env here) s inside q) (sym (n.rolls-Check at value text)) ∙ ap (λ (way : Way). way inside q) (fold-roll-Stmt Way (stmt_step env here) (Stmt-F.Check at value text))

  pub stmt-Proc : (at : Place) (calls : List Expr) (inside : Bool) (q : Parts) → stmt env here (n.Proc at calls) inside q ≡ each (expr env here) calls inside q
  unfolding stmt
  stmt-Proc at calls inside q = ap (λ s. fold-Stmt Way (stmt_step env here) s inside q) (sym (n.rolls-Proc at calls)) ∙ ap (λ (way : Way). way inside q) (fold-roll-Stmt Way (stmt_step env here) (Stmt-F.Proc at calls))

  pub stmt-Task : (at : Place) (calls : List Expr) (inside : Bool) (q : Parts) → stmt env here (n.Task at calls) inside q ≡ each (expr env here) calls inside q
  unfolding stmt
  stmt-Task at calls inside q = ap (λ s. fold-Stmt Way (stmt_step env here) s inside q) (sym (n.rolls-Task at calls)) ∙ ap (λ (way : Way). way inside q) (fold-roll-Stmt Way (stmt_step env here) (Stmt-F.Task at calls))

pub ruleset stmt_is = (stmt-Empty, stmt-Block, stmt-Declare, stmt-Value, stmt-Label, stmt-If, stmt-While, stmt-Do, stmt-For, stmt-Switch, stmt-Alt, stmt-Case, stmt-Default, stmt-Par, stmt-Rescue, stmt-Raise, stmt-Return, stmt-Become, stmt-Break, stmt-Continue, stmt-Goto, stmt-Alloc, stmt-Unalloc, stmt-Check, stmt-Proc, stmt-Task)
