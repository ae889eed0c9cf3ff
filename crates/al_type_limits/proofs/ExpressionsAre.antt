-- What an expression of each kind adds.
use Rattle.std.proofs.Common.{◌≡◌, ℕ, List, ap, ◌∙◌, sym}
use Rattle.al_base.specs.declared.place.Place.{Place}
use Rattle.al_tree.specs.declared.type_tree.TypeTree.{TypeTree}
use Rattle.al_tree.specs.declared.expression.Name.{Name}
use Rattle.al_tree.specs.declared.expression.UnaryOp.{UnaryOp}
use Rattle.al_tree.specs.declared.expression.PostfixOp.{PostfixOp}
use Rattle.al_tree.specs.declared.expression.BinaryOp.{BinaryOp}
use Rattle.al_tree.specs.declared.expression.AssignOp.{AssignOp}
use Rattle.al_tree.specs.declared.expression.Access.{Access}
use Rattle.al_tree.specs.declared.expression.Expr.{Expr, fold-Expr, fold-roll-Expr}
use Rattle.al_tree.specs.declared.expression.Expr.TheVariants as n
use Rattle.al_tree.specs.declared.expression.Expr.TheOpen.{Expr-F}
use Rattle.al_type_limits.specs.declared.size.Size.{Size}
use Rattle.al_type_limits.specs.Types.{Names, with_type}
use Rattle.al_type_limits.specs.Expressions.{Way, each, expr_step, expr}
use Rattle.al_type_limits.proofs.Each.{each_map}

module _ (names : Names) where
  abbrev E : Expr → Way
  E = expr names

  pub expr-Number : (at : Place) (value : ℕ) (w : Size) → E (n.Number at value) w ≡ w
  unfolding expr
  expr-Number at value w = ap (λ x. fold-Expr Way (expr_step names) x w) (sym (n.rolls-Number at value)) ∙ ap (λ (way : Way). way w) (fold-roll-Expr Way (expr_step names) (Expr-F.Number at value))

  pub expr-Char : (at : Place) (value : ℕ) (w : Size) → E (n.Char at value) w ≡ w
  unfolding expr
  expr-Char at value w = ap (λ x. fold-Expr Way (expr_step names) x w) (sym (n.rolls-Char at value)) ∙ ap (λ (way : Way). way w) (fold-roll-Expr Way (expr_step names) (Expr-F.Char at value))

  pub expr-Text : (at : Place) (bytes : List ℕ) (w : Size) → E (n.Text at bytes) w ≡ w
  unfolding expr
  expr-Text at bytes w = ap (λ x. fold-Expr Way (expr_step names) x w) (sym (n.rolls-Text at bytes)) ∙ ap (λ (way : Way). way w) (fold-roll-Expr Way (expr_step names) (Expr-F.Text at bytes))

  pub expr-Nil : (at : Place) (w : Size) → E (n.Nil at) w ≡ w
  unfolding expr
  expr-Nil at w = ap (λ x. fold-Expr Way (expr_step names) x w) (sym (n.rolls-Nil at)) ∙ ap (λ (way : Way). way w) (fold-roll-Expr Way (expr_step names) (Expr-F.Nil at))

  pub expr-Name : (at : Place) (name : ℕ) (w : Size) → E (n.Name at name) w ≡ w
  unfolding expr
  expr-Name at name w = ap (λ x. fold-Expr Way (expr_step names) x w) (sym (n.rolls-Name at name)) ∙ ap (λ (way : Way). way w) (fold-roll-Expr Way (expr_step names) (Expr-F.Name at name))

  pub expr-Tuple : (at : Place) (parts : List Expr) (w : Size) → E (n.Tuple at parts) w ≡ each E parts w
  unfolding expr
  expr-Tuple at parts w = ap (λ x. fold-Expr Way (expr_step names) x w) (sym (n.rolls-Tuple at parts)) ∙ ap (λ (way : Way). way w) (fold-roll-Expr Way (expr_step names) (Expr-F.Tuple at parts)) ∙ each_map (λ way. way) E parts w

  pub expr-Unary : (at : Place) (op : UnaryOp) (a : Expr) (w : Size) → E (n.Unary at op a) w ≡ E a w
  unfolding expr
  expr-Unary at op a w = ap (λ x. fold-Expr Way (expr_step names) x w) (sym (n.rolls-Unary at op a)) ∙ ap (λ (way : Way). way w) (fold-roll-Expr Way (expr_step names) (Expr-F.Unary at op a))

  pub expr-Cast : (at : Place) (to : TypeTree) (a : Expr) (w : Size) → E (n.Cast at to a) w ≡ E a (with_type names w to)
  unfolding expr
  expr-Cast at to a w = ap (λ x. fold-Expr Way (expr_step names) x w) (sym (n.rolls-Cast at to a)) ∙ ap (λ (way : Way). way w) (fold-roll-Expr Way (expr_step names) (Expr-F.Cast at to a))

  pub expr-SizeofType : (at : Place) (of : TypeTree) (w : Size) → E (n.SizeofType at of) w ≡ with_type names w of
  unfolding expr
  expr-SizeofType at of w = ap (λ x. fold-Expr Way (expr_step names) x w) (sym (n.rolls-SizeofType at of)) ∙ ap (λ (way : Way). way w) (fold-roll-Expr Way (expr_step names) (Expr-F.SizeofType at of))

  pub expr-SizeofValue : (at : Place) (a : Expr) (w : Size) → E (n.SizeofValue at a) w ≡ E a w
  unfolding expr
  expr-SizeofValue at a w = ap (λ x. fold-Expr Way (expr_step names) x w) (sym (n.rolls-SizeofValue at a)) ∙ ap (λ (way : Way). way w) (fold-roll-Expr Way (expr_step names) (Expr-F.SizeofValue at a))

  pub expr-Index : (at : Place) (a : Expr) (b : Expr) (w : Size) → E (n.Index at a b) w ≡ E b (E a w)
  unfolding expr
  expr-Index at a b w = ap (λ x. fold-Expr Way (expr_step names) x w) (sym (n.rolls-Index at a b)) ∙ ap (λ (way : Way). way w) (fold-roll-Expr Way (expr_step names) (Expr-F.Index at a b))

  pub expr-Member : (at : Place) (a : Expr) (access : Access) (name : Name) (w : Size) → E (n.Member at a access name) w ≡ E a w
  unfolding expr
  expr-Member at a access name w = ap (λ x. fold-Expr Way (expr_step names) x w) (sym (n.rolls-Member at a access name)) ∙ ap (λ (way : Way). way w) (fold-roll-Expr Way (expr_step names) (Expr-F.Member at a access name))

  pub expr-Call : (at : Place) (a : Expr) (xs : List Expr) (w : Size) → E (n.Call at a xs) w ≡ each E xs (E a w)
  unfolding expr
  expr-Call at a xs w = ap (λ x. fold-Expr Way (expr_step names) x w) (sym (n.rolls-Call at a xs)) ∙ ap (λ (way : Way). way w) (fold-roll-Expr Way (expr_step names) (Expr-F.Call at a xs)) ∙ each_map (λ way. way) E xs (E a w)

  pub expr-Postfix : (at : Place) (op : PostfixOp) (a : Expr) (w : Size) → E (n.Postfix at op a) w ≡ E a w
  unfolding expr
  expr-Postfix at op a w = ap (λ x. fold-Expr Way (expr_step names) x w) (sym (n.rolls-Postfix at op a)) ∙ ap (λ (way : Way). way w) (fold-roll-Expr Way (expr_step names) (Expr-F.Postfix at op a))

  pub expr-Binary : (at : Place) (op : BinaryOp) (a : Expr) (b : Expr) (w : Size) → E (n.Binary at op a b) w ≡ E b (E a w)
  unfolding expr
  expr-Binary at op a b w = ap (λ x. fold-Expr Way (expr_step names) x w) (sym (n.rolls-Binary at op a b)) ∙ ap (λ (way : Way). way w) (fold-roll-Expr Way (expr_step names) (Expr-F.Binary at op a b))

  pub expr-Iterator : (at : Place) (a : Expr) (b : Expr) (w : Size) → E (n.Iterator at a b) w ≡ E b (E a w)
  unfolding expr
  expr-Iterator at a b w = ap (λ x. fold-Expr Way (expr_step names) x w) (sym (n.rolls-Iterator at a b)) ∙ ap (λ (way : Way). way w) (fold-roll-Expr Way (expr_step names) (Expr-F.Iterator at a b))

  pub expr-Assign : (at : Place) (op : AssignOp) (a : Expr) (b : Expr) (w : Size) → E (n.Assign at op a b) w ≡ E b (E a w)
  unfolding expr
  expr-Assign at op a b w = ap (λ x. fold-Expr Way (expr_step names) x w) (sym (n.rolls-Assign at op a b)) ∙ ap (λ (way : Way). way w) (fold-roll-Expr Way (expr_step names) (Expr-F.Assign at op a b))

  pub expr-Sequence : (at : Place) (parts : List Expr) (w : Size) → E (n.Sequence at parts) w ≡ each E parts w
  unfolding expr
  expr-Sequence at parts w = ap (λ x. fold-Expr Way (expr_step names) x w) (sym (n.rolls-Sequence at parts)) ∙ ap (λ (way : Way). way w) (fold-roll-Expr Way (expr_step names) (Expr-F.Sequence at parts)) ∙ each_map (λ way. way) E parts w

pub ruleset expr_is = (expr-Number, expr-Char, expr-Text, expr-Nil, expr-Name, expr-Tuple, expr-Unary, expr-Cast, expr-SizeofType, expr-SizeofValue, expr-Index, expr-Member, expr-Call, expr-Postfix, expr-Binary, expr-Iterator, expr-Assign, expr-Sequence)
