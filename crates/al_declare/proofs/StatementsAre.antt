-- What a statement of each kind does.
use Rattle.std.proofs.Common.{◌≡◌, ℕ, List, [], Option, Some, None, ap, ◌∙◌, sym}
use Rattle.al_base.specs.declared.place.Place.{Place}
use Rattle.al_declare.specs.declared.text.Text.{Text}
use Rattle.al_declare.specs.declared.asked.Asked.{Asked}
use Rattle.al_tree.specs.declared.type_tree.TypeTree.{TypeTree}
use Rattle.al_tree.specs.declared.expression.Name.{Name}
use Rattle.al_tree.specs.declared.expression.Expr.{Expr}
use Rattle.al_tree.specs.declared.statement.Variable.{Variable}
use Rattle.al_tree.specs.declared.statement.Stmt.{Stmt, fold-Stmt, fold-roll-Stmt}
use Rattle.al_tree.specs.declared.statement.Stmt.TheVariants as n
use Rattle.al_tree.specs.declared.statement.Stmt.TheOpen.{Stmt-F}
use Rattle.al_declare.specs.Asking.{inner}
use Rattle.al_declare.specs.Types.{Way, each, optional, type_tree}
use Rattle.al_declare.specs.Expressions.{expr}
use Rattle.al_declare.specs.Statements.{variable, scoped, stmt_step, stmt}
use Rattle.al_declare.proofs.Each.{each_map}

-- behind a scope that began at the first, and ends at the second
abbrev closed : Asked → Asked → Asked
closed w u = record u { scope = w.scope }

pub stmt-Empty : (at : Place) (c : Text) (w : Asked) → stmt (n.Empty at) c w ≡ w
unfolding stmt
stmt-Empty at c w = ap (λ n. fold-Stmt Way stmt_step n c w) (sym (n.rolls-Empty at)) ∙ ap (λ (a : Way). a c w) (fold-roll-Stmt Way stmt_step (Stmt-F.Empty at))

pub stmt-Block : (at : Place) (body : List Stmt) (c : Text) (w : Asked) → stmt (n.Block at body) c w ≡ scoped (each stmt body) c w
unfolding stmt inner
stmt-Block at body c w = ap (λ n. fold-Stmt Way stmt_step n c w) (sym (n.rolls-Block at body)) ∙ ap (λ (a : Way). a c w) (fold-roll-Stmt Way stmt_step (Stmt-F.Block at body)) ∙ ap (closed w) (each_map (λ a. a) stmt body c (record w { scope = [] }))

pub stmt-Declare : (at : Place) (base : TypeTree) (variables : List Variable) (c : Text) (w : Asked) → stmt (n.Declare at base variables) c w ≡ each variable variables c (type_tree base c w)
unfolding stmt
stmt-Declare at base variables c w = ap (λ n. fold-Stmt Way stmt_step n c w) (sym (n.rolls-Declare at base variables)) ∙ ap (λ (a : Way). a c w) (fold-roll-Stmt Way stmt_step (Stmt-F.Declare at base variables))

pub stmt-Value : (at : Place) (value : Expr) (c : Text) (w : Asked) → stmt (n.Value at value) c w ≡ expr value c w
unfolding stmt
stmt-Value at value c w = ap (λ n. fold-Stmt Way stmt_step n c w) (sym (n.rolls-Value at value)) ∙ ap (λ (a : Way). a c w) (fold-roll-Stmt Way stmt_step (Stmt-F.Value at value))

pub stmt-Label : (at : Place) (name : ℕ) (body : Stmt) (c : Text) (w : Asked) → stmt (n.Label at name body) c w ≡ stmt body c w
unfolding stmt
stmt-Label at name body c w = ap (λ n. fold-Stmt Way stmt_step n c w) (sym (n.rolls-Label at name body)) ∙ ap (λ (a : Way). a c w) (fold-roll-Stmt Way stmt_step (Stmt-F.Label at name body))

pub stmt-If : (at : Place) (condition : Expr) (met : Stmt) (other : Option Stmt) (c : Text) (w : Asked) → stmt (n.If at condition met other) c w ≡ optional stmt other c (stmt met c (expr condition c w))
unfolding stmt
stmt-If at condition met None c w = ap (λ n. fold-Stmt Way stmt_step n c w) (sym (n.rolls-If at condition met None)) ∙ ap (λ (a : Way). a c w) (fold-roll-Stmt Way stmt_step (Stmt-F.If at condition met None))
stmt-If at condition met (Some o) c w = ap (λ n. fold-Stmt Way stmt_step n c w) (sym (n.rolls-If at condition met (Some o))) ∙ ap (λ (a : Way). a c w) (fold-roll-Stmt Way stmt_step (Stmt-F.If at condition met (Some o)))

pub stmt-While : (at : Place) (condition : Expr) (body : Stmt) (c : Text) (w : Asked) → stmt (n.While at condition body) c w ≡ stmt body c (expr condition c w)
unfolding stmt
stmt-While at condition body c w = ap (λ n. fold-Stmt Way stmt_step n c w) (sym (n.rolls-While at condition body)) ∙ ap (λ (a : Way). a c w) (fold-roll-Stmt Way stmt_step (Stmt-F.While at condition body))

pub stmt-Do : (at : Place) (body : Stmt) (condition : Expr) (c : Text) (w : Asked) → stmt (n.Do at body condition) c w ≡ expr condition c (stmt body c w)
unfolding stmt
stmt-Do at body condition c w = ap (λ n. fold-Stmt Way stmt_step n c w) (sym (n.rolls-Do at body condition)) ∙ ap (λ (a : Way). a c w) (fold-roll-Stmt Way stmt_step (Stmt-F.Do at body condition))

pub stmt-For : (at : Place) (start : Option Expr) (condition : Option Expr) (next : Option Expr) (body : Stmt) (c : Text) (w : Asked) → stmt (n.For at start condition next body) c w ≡ stmt body c (optional expr next c (optional expr condition c (optional expr start c w)))
unfolding stmt
stmt-For at start condition next body c w = ap (λ n. fold-Stmt Way stmt_step n c w) (sym (n.rolls-For at start condition next body)) ∙ ap (λ (a : Way). a c w) (fold-roll-Stmt Way stmt_step (Stmt-F.For at start condition next body))

pub stmt-Switch : (at : Place) (value : Expr) (body : List Stmt) (c : Text) (w : Asked) → stmt (n.Switch at value body) c w ≡ scoped (each stmt body) c (expr value c w)
unfolding stmt inner
stmt-Switch at value body c w = ap (λ n. fold-Stmt Way stmt_step n c w) (sym (n.rolls-Switch at value body)) ∙ ap (λ (a : Way). a c w) (fold-roll-Stmt Way stmt_step (Stmt-F.Switch at value body)) ∙ ap (closed (expr value c w)) (each_map (λ a. a) stmt body c (record (expr value c w) { scope = [] }))

pub stmt-Alt : (at : Place) (body : List Stmt) (c : Text) (w : Asked) → stmt (n.Alt at body) c w ≡ scoped (each stmt body) c w
unfolding stmt inner
stmt-Alt at body c w = ap (λ n. fold-Stmt Way stmt_step n c w) (sym (n.rolls-Alt at body)) ∙ ap (λ (a : Way). a c w) (fold-roll-Stmt Way stmt_step (Stmt-F.Alt at body)) ∙ ap (closed w) (each_map (λ a. a) stmt body c (record w { scope = [] }))

pub stmt-Case : (at : Place) (value : Expr) (c : Text) (w : Asked) → stmt (n.Case at value) c w ≡ expr value c w
unfolding stmt
stmt-Case at value c w = ap (λ n. fold-Stmt Way stmt_step n c w) (sym (n.rolls-Case at value)) ∙ ap (λ (a : Way). a c w) (fold-roll-Stmt Way stmt_step (Stmt-F.Case at value))

pub stmt-Default : (at : Place) (c : Text) (w : Asked) → stmt (n.Default at) c w ≡ w
unfolding stmt
stmt-Default at c w = ap (λ n. fold-Stmt Way stmt_step n c w) (sym (n.rolls-Default at)) ∙ ap (λ (a : Way). a c w) (fold-roll-Stmt Way stmt_step (Stmt-F.Default at))

pub stmt-Par : (at : Place) (bodies : List Stmt) (c : Text) (w : Asked) → stmt (n.Par at bodies) c w ≡ each stmt bodies c w
unfolding stmt
stmt-Par at bodies c w = ap (λ n. fold-Stmt Way stmt_step n c w) (sym (n.rolls-Par at bodies)) ∙ ap (λ (a : Way). a c w) (fold-roll-Stmt Way stmt_step (Stmt-F.Par at bodies)) ∙ each_map (λ a. a) stmt bodies c w

pub stmt-Rescue : (at : Place) (name : Option Name) (body : Stmt) (c : Text) (w : Asked) → stmt (n.Rescue at name body) c w ≡ stmt body c w
unfolding stmt
stmt-Rescue at name body c w = ap (λ n. fold-Stmt Way stmt_step n c w) (sym (n.rolls-Rescue at name body)) ∙ ap (λ (a : Way). a c w) (fold-roll-Stmt Way stmt_step (Stmt-F.Rescue at name body))

pub stmt-Raise : (at : Place) (name : Option Name) (c : Text) (w : Asked) → stmt (n.Raise at name) c w ≡ w
unfolding stmt
stmt-Raise at name c w = ap (λ n. fold-Stmt Way stmt_step n c w) (sym (n.rolls-Raise at name)) ∙ ap (λ (a : Way). a c w) (fold-roll-Stmt Way stmt_step (Stmt-F.Raise at name))

pub stmt-Return : (at : Place) (value : Option Expr) (c : Text) (w : Asked) → stmt (n.Return at value) c w ≡ optional expr value c w
unfolding stmt
stmt-Return at value c w = ap (λ n. fold-Stmt Way stmt_step n c w) (sym (n.rolls-Return at value)) ∙ ap (λ (a : Way). a c w) (fold-roll-Stmt Way stmt_step (Stmt-F.Return at value))

pub stmt-Become : (at : Place) (value : Expr) (c : Text) (w : Asked) → stmt (n.Become at value) c w ≡ expr value c w
unfolding stmt
stmt-Become at value c w = ap (λ n. fold-Stmt Way stmt_step n c w) (sym (n.rolls-Become at value)) ∙ ap (λ (a : Way). a c w) (fold-roll-Stmt Way stmt_step (Stmt-F.Become at value))

pub stmt-Break : (at : Place) (count : Option ℕ) (c : Text) (w : Asked) → stmt (n.Break at count) c w ≡ w
unfolding stmt
stmt-Break at count c w = ap (λ n. fold-Stmt Way stmt_step n c w) (sym (n.rolls-Break at count)) ∙ ap (λ (a : Way). a c w) (fold-roll-Stmt Way stmt_step (Stmt-F.Break at count))

pub stmt-Continue : (at : Place) (count : Option ℕ) (c : Text) (w : Asked) → stmt (n.Continue at count) c w ≡ w
unfolding stmt
stmt-Continue at count c w = ap (λ n. fold-Stmt Way stmt_step n c w) (sym (n.rolls-Continue at count)) ∙ ap (λ (a : Way). a c w) (fold-roll-Stmt Way stmt_step (Stmt-F.Continue at count))

pub stmt-Goto : (at : Place) (label : Name) (c : Text) (w : Asked) → stmt (n.Goto at label) c w ≡ w
unfolding stmt
stmt-Goto at label c w = ap (λ n. fold-Stmt Way stmt_step n c w) (sym (n.rolls-Goto at label)) ∙ ap (λ (a : Way). a c w) (fold-roll-Stmt Way stmt_step (Stmt-F.Goto at label))

pub stmt-Alloc : (at : Place) (places : List Expr) (c : Text) (w : Asked) → stmt (n.Alloc at places) c w ≡ each expr places c w
unfolding stmt
stmt-Alloc at places c w = ap (λ n. fold-Stmt Way stmt_step n c w) (sym (n.rolls-Alloc at places)) ∙ ap (λ (a : Way). a c w) (fold-roll-Stmt Way stmt_step (Stmt-F.Alloc at places))

pub stmt-Unalloc : (at : Place) (values : List Expr) (c : Text) (w : Asked) → stmt (n.Unalloc at values) c w ≡ each expr values c w
unfolding stmt
stmt-Unalloc at values c w = ap (λ n. fold-Stmt Way stmt_step n c w) (sym (n.rolls-Unalloc at values)) ∙ ap (λ (a : Way). a c w) (fold-roll-Stmt Way stmt_step (Stmt-F.Unalloc at values))

pub stmt-Check : (at : Place) (value : Expr) (text : Option (List ℕ)) (c : Text) (w : Asked) → stmt (n.Check at value text) c w ≡ expr value c w
unfolding stmt
stmt-Check at value text c w = ap (λ n. fold-Stmt Way stmt_step n c w) (sym (n.rolls-Check at value text)) ∙ ap (λ (a : Way). a c w) (fold-roll-Stmt Way stmt_step (Stmt-F.Check at value text))

pub stmt-Proc : (at : Place) (calls : List Expr) (c : Text) (w : Asked) → stmt (n.Proc at calls) c w ≡ each expr calls c w
unfolding stmt
stmt-Proc at calls c w = ap (λ n. fold-Stmt Way stmt_step n c w) (sym (n.rolls-Proc at calls)) ∙ ap (λ (a : Way). a c w) (fold-roll-Stmt Way stmt_step (Stmt-F.Proc at calls))

pub stmt-Task : (at : Place) (calls : List Expr) (c : Text) (w : Asked) → stmt (n.Task at calls) c w ≡ each expr calls c w
unfolding stmt
stmt-Task at calls c w = ap (λ n. fold-Stmt Way stmt_step n c w) (sym (n.rolls-Task at calls)) ∙ ap (λ (a : Way). a c w) (fold-roll-Stmt Way stmt_step (Stmt-F.Task at calls))

pub ruleset stmt_is = (stmt-Empty, stmt-Block, stmt-Declare, stmt-Value, stmt-Label, stmt-If, stmt-While, stmt-Do, stmt-For, stmt-Switch, stmt-Alt, stmt-Case, stmt-Default, stmt-Par, stmt-Rescue, stmt-Raise, stmt-Return, stmt-Become, stmt-Break, stmt-Continue, stmt-Goto, stmt-Alloc, stmt-Unalloc, stmt-Check, stmt-Proc, stmt-Task)
