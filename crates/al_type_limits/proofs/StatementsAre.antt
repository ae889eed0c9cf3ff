-- What a statement of each kind adds.
use Rattle.std.proofs.Common.{◌≡◌, ℕ, List, Option, Some, None, ap, ◌∙◌, sym}
use Rattle.al_base.specs.declared.place.Place.{Place}
use Rattle.al_tree.specs.declared.type_tree.TypeTree.{TypeTree}
use Rattle.al_tree.specs.declared.expression.Name.{Name}
use Rattle.al_tree.specs.declared.expression.Expr.{Expr}
use Rattle.al_tree.specs.declared.statement.Variable.{Variable}
use Rattle.al_tree.specs.declared.statement.Stmt.{Stmt, fold-Stmt, fold-roll-Stmt}
use Rattle.al_tree.specs.declared.statement.Stmt.TheVariants as n
use Rattle.al_tree.specs.declared.statement.Stmt.TheOpen.{Stmt-F}
use Rattle.al_type_limits.specs.declared.size.Size.{Size}
use Rattle.al_type_limits.specs.Types.{Names, type_size}
use Rattle.al_type_limits.specs.Expressions.{Way, each, optional, expr}
use Rattle.al_type_limits.specs.Statements.{variable, stmt_step, stmt}
use Rattle.al_type_limits.proofs.Each.{each_map}

module _ (names : Names) where
  abbrev S : Stmt → Way
  S = stmt names

  pub stmt-Empty : (at : Place) (w : Size) → S (n.Empty at) w ≡ w
  unfolding stmt
  stmt-Empty at w = ap (λ s. fold-Stmt Way (stmt_step names) s w) (sym (n.rolls-Empty at)) ∙ ap (λ (way : Way). way w) (fold-roll-Stmt Way (stmt_step names) (Stmt-F.Empty at))

  pub stmt-Block : (at : Place) (body : List Stmt) (w : Size) → S (n.Block at body) w ≡ each S body w
  unfolding stmt
  stmt-Block at body w = ap (λ s. fold-Stmt Way (stmt_step names) s w) (sym (n.rolls-Block at body)) ∙ ap (λ (way : Way). way w) (fold-roll-Stmt Way (stmt_step names) (Stmt-F.Block at body)) ∙ each_map (λ way. way) S body w

  pub stmt-Declare : (at : Place) (base : TypeTree) (variables : List Variable) (w : Size) → S (n.Declare at base variables) w ≡ each (variable names (type_size names base)) variables w
  unfolding stmt
  stmt-Declare at base variables w = ap (λ s. fold-Stmt Way (stmt_step names) s w) (sym (n.rolls-Declare at base variables)) ∙ ap (λ (way : Way). way w) (fold-roll-Stmt Way (stmt_step names) (Stmt-F.Declare at base variables))

  pub stmt-Value : (at : Place) (value : Expr) (w : Size) → S (n.Value at value) w ≡ expr names value w
  unfolding stmt
  stmt-Value at value w = ap (λ s. fold-Stmt Way (stmt_step names) s w) (sym (n.rolls-Value at value)) ∙ ap (λ (way : Way). way w) (fold-roll-Stmt Way (stmt_step names) (Stmt-F.Value at value))

  pub stmt-Label : (at : Place) (name : ℕ) (body : Stmt) (w : Size) → S (n.Label at name body) w ≡ S body w
  unfolding stmt
  stmt-Label at name body w = ap (λ s. fold-Stmt Way (stmt_step names) s w) (sym (n.rolls-Label at name body)) ∙ ap (λ (way : Way). way w) (fold-roll-Stmt Way (stmt_step names) (Stmt-F.Label at name body))

  pub stmt-If : (at : Place) (condition : Expr) (met : Stmt) (other : Option Stmt) (w : Size) → S (n.If at condition met other) w ≡ optional S other (S met (expr names condition w))
  unfolding stmt
  stmt-If at condition met None w = ap (λ s. fold-Stmt Way (stmt_step names) s w) (sym (n.rolls-If at condition met None)) ∙ ap (λ (way : Way). way w) (fold-roll-Stmt Way (stmt_step names) (Stmt-F.If at condition met None))
  stmt-If at condition met (Some o) w = ap (λ s. fold-Stmt Way (stmt_step names) s w) (sym (n.rolls-If at condition met (Some o))) ∙ ap (λ (way : Way). way w) (fold-roll-Stmt Way (stmt_step names) (Stmt-F.If at condition met (Some o)))

  pub stmt-While : (at : Place) (condition : Expr) (body : Stmt) (w : Size) → S (n.While at condition body) w ≡ S body (expr names condition w)
  unfolding stmt
  stmt-While at condition body w = ap (λ s. fold-Stmt Way (stmt_step names) s w) (sym (n.rolls-While at condition body)) ∙ ap (λ (way : Way). way w) (fold-roll-Stmt Way (stmt_step names) (Stmt-F.While at condition body))

  pub stmt-Do : (at : Place) (body : Stmt) (condition : Expr) (w : Size) → S (n.Do at body condition) w ≡ expr names condition (S body w)
  unfolding stmt
  stmt-Do at body condition w = ap (λ s. fold-Stmt Way (stmt_step names) s w) (sym (n.rolls-Do at body condition)) ∙ ap (λ (way : Way). way w) (fold-roll-Stmt Way (stmt_step names) (Stmt-F.Do at body condition))

  pub stmt-For : (at : Place) (start : Option Expr) (condition : Option Expr) (next : Option Expr) (body : Stmt) (w : Size) → S (n.For at start condition next body) w ≡ S body (optional (expr names) next (optional (expr names) condition (optional (expr names) start w)))
  unfolding stmt
  stmt-For at start condition next body w = ap (λ s. fold-Stmt Way (stmt_step names) s w) (sym (n.rolls-For at start condition next body)) ∙ ap (λ (way : Way). way w) (fold-roll-Stmt Way (stmt_step names) (Stmt-F.For at start condition next body))

  pub stmt-Switch : (at : Place) (value : Expr) (body : List Stmt) (w : Size) → S (n.Switch at value body) w ≡ each S body (expr names value w)
  unfolding stmt
  stmt-Switch at value body w = ap (λ s. fold-Stmt Way (stmt_step names) s w) (sym (n.rolls-Switch at value body)) ∙ ap (λ (way : Way). way w) (fold-roll-Stmt Way (stmt_step names) (Stmt-F.Switch at value body)) ∙ each_map (λ way. way) S body (expr names value w)

  pub stmt-Alt : (at : Place) (body : List Stmt) (w : Size) → S (n.Alt at body) w ≡ each S body w
  unfolding stmt
  stmt-Alt at body w = ap (λ s. fold-Stmt Way (stmt_step names) s w) (sym (n.rolls-Alt at body)) ∙ ap (λ (way : Way). way w) (fold-roll-Stmt Way (stmt_step names) (Stmt-F.Alt at body)) ∙ each_map (λ way. way) S body w

  pub stmt-Case : (at : Place) (value : Expr) (w : Size) → S (n.Case at value) w ≡ expr names value w
  unfolding stmt
  stmt-Case at value w = ap (λ s. fold-Stmt Way (stmt_step names) s w) (sym (n.rolls-Case at value)) ∙ ap (λ (way : Way). way w) (fold-roll-Stmt Way (stmt_step names) (Stmt-F.Case at value))

  pub stmt-Default : (at : Place) (w : Size) → S (n.Default at) w ≡ w
  unfolding stmt
  stmt-Default at w = ap (λ s. fold-Stmt Way (stmt_step names) s w) (sym (n.rolls-Default at)) ∙ ap (λ (way : Way). way w) (fold-roll-Stmt Way (stmt_step names) (Stmt-F.Default at))

  pub stmt-Par : (at : Place) (branches : List Stmt) (w : Size) → S (n.Par at branches) w ≡ each S branches w
  unfolding stmt
  stmt-Par at branches w = ap (λ s. fold-Stmt Way (stmt_step names) s w) (sym (n.rolls-Par at branches)) ∙ ap (λ (way : Way). way w) (fold-roll-Stmt Way (stmt_step names) (Stmt-F.Par at branches)) ∙ each_map (λ way. way) S branches w

  pub stmt-Rescue : (at : Place) (name : Option Name) (body : Stmt) (w : Size) → S (n.Rescue at name body) w ≡ S body w
  unfolding stmt
  stmt-Rescue at name body w = ap (λ s. fold-Stmt Way (stmt_step names) s w) (sym (n.rolls-Rescue at name body)) ∙ ap (λ (way : Way). way w) (fold-roll-Stmt Way (stmt_step names) (Stmt-F.Rescue at name body))

  pub stmt-Raise : (at : Place) (name : Option Name) (w : Size) → S (n.Raise at name) w ≡ w
  unfolding stmt
  stmt-Raise at name w = ap (λ s. fold-Stmt Way (stmt_step names) s w) (sym (n.rolls-Raise at name)) ∙ ap (λ (way : Way). way w) (fold-roll-Stmt Way (stmt_step names) (Stmt-F.Raise at name))

  pub stmt-Return : (at : Place) (value : Option Expr) (w : Size) → S (n.Return at value) w ≡ optional (expr names) value w
  unfolding stmt
  stmt-Return at value w = ap (λ s. fold-Stmt Way (stmt_step names) s w) (sym (n.rolls-Return at value)) ∙ ap (λ (way : Way). way w) (fold-roll-Stmt Way (stmt_step names) (Stmt-F.Return at value))

  pub stmt-Become : (at : Place) (value : Expr) (w : Size) → S (n.Become at value) w ≡ expr names value w
  unfolding stmt
  stmt-Become at value w = ap (λ s. fold-Stmt Way (stmt_step names) s w) (sym (n.rolls-Become at value)) ∙ ap (λ (way : Way). way w) (fold-roll-Stmt Way (stmt_step names) (Stmt-F.Become at value))

  pub stmt-Break : (at : Place) (count : Option ℕ) (w : Size) → S (n.Break at count) w ≡ w
  unfolding stmt
  stmt-Break at count w = ap (λ s. fold-Stmt Way (stmt_step names) s w) (sym (n.rolls-Break at count)) ∙ ap (λ (way : Way). way w) (fold-roll-Stmt Way (stmt_step names) (Stmt-F.Break at count))

  pub stmt-Continue : (at : Place) (count : Option ℕ) (w : Size) → S (n.Continue at count) w ≡ w
  unfolding stmt
  stmt-Continue at count w = ap (λ s. fold-Stmt Way (stmt_step names) s w) (sym (n.rolls-Continue at count)) ∙ ap (λ (way : Way). way w) (fold-roll-Stmt Way (stmt_step names) (Stmt-F.Continue at count))

  pub stmt-Goto : (at : Place) (label : Name) (w : Size) → S (n.Goto at label) w ≡ w
  unfolding stmt
  stmt-Goto at label w = ap (λ s. fold-Stmt Way (stmt_step names) s w) (sym (n.rolls-Goto at label)) ∙ ap (λ (way : Way). way w) (fold-roll-Stmt Way (stmt_step names) (Stmt-F.Goto at label))

  pub stmt-Alloc : (at : Place) (places : List Expr) (w : Size) → S (n.Alloc at places) w ≡ each (expr names) places w
  unfolding stmt
  stmt-Alloc at places w = ap (λ s. fold-Stmt Way (stmt_step names) s w) (sym (n.rolls-Alloc at places)) ∙ ap (λ (way : Way). way w) (fold-roll-Stmt Way (stmt_step names) (Stmt-F.Alloc at places))

  pub stmt-Unalloc : (at : Place) (values : List Expr) (w : Size) → S (n.Unalloc at values) w ≡ each (expr names) values w
  unfolding stmt
  stmt-Unalloc at values w = ap (λ s. fold-Stmt Way (stmt_step names) s w) (sym (n.rolls-Unalloc at values)) ∙ ap (λ (way : Way). way w) (fold-roll-Stmt Way (stmt_step names) (Stmt-F.Unalloc at values))

  pub stmt-Check : (at : Place) (value : Expr) (text : Option (List ℕ)) (w : Size) → S (n.Check at value text) w ≡ expr names value w
  unfolding stmt
  stmt-Check at value text w = ap (λ s. fold-Stmt Way (stmt_step names) s w) (sym (n.rolls-Check at value text)) ∙ ap (λ (way : Way). way w) (fold-roll-Stmt Way (stmt_step names) (Stmt-F.Check at value text))

  pub stmt-Proc : (at : Place) (calls : List Expr) (w : Size) → S (n.Proc at calls) w ≡ each (expr names) calls w
  unfolding stmt
  stmt-Proc at calls w = ap (λ s. fold-Stmt Way (stmt_step names) s w) (sym (n.rolls-Proc at calls)) ∙ ap (λ (way : Way). way w) (fold-roll-Stmt Way (stmt_step names) (Stmt-F.Proc at calls))

  pub stmt-Task : (at : Place) (calls : List Expr) (w : Size) → S (n.Task at calls) w ≡ each (expr names) calls w
  unfolding stmt
  stmt-Task at calls w = ap (λ s. fold-Stmt Way (stmt_step names) s w) (sym (n.rolls-Task at calls)) ∙ ap (λ (way : Way). way w) (fold-roll-Stmt Way (stmt_step names) (Stmt-F.Task at calls))

pub ruleset stmt_is = (stmt-Empty, stmt-Block, stmt-Declare, stmt-Value, stmt-Label, stmt-If, stmt-While, stmt-Do, stmt-For, stmt-Switch, stmt-Alt, stmt-Case, stmt-Default, stmt-Par, stmt-Rescue, stmt-Raise, stmt-Return, stmt-Become, stmt-Break, stmt-Continue, stmt-Goto, stmt-Alloc, stmt-Unalloc, stmt-Check, stmt-Proc, stmt-Task)
