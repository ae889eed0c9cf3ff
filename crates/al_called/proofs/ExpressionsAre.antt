-- What an expression of each kind adds itself, and what is inside it.
use Rattle.std.proofs.Common.{◌≡◌, ℕ, List, map, ap, ◌∙◌, sym}
use Rattle.al_base.specs.declared.place.Place.{Place}
use Rattle.al_tree.specs.declared.type_tree.TypeTree.{TypeTree}
use Rattle.al_tree.specs.declared.expression.Name.{Name}
use Rattle.al_tree.specs.declared.expression.UnaryOp.{UnaryOp}
use Rattle.al_tree.specs.declared.expression.PostfixOp.{PostfixOp}
use Rattle.al_tree.specs.declared.expression.BinaryOp.{BinaryOp}
use Rattle.al_tree.specs.declared.expression.AssignOp.{AssignOp}
use Rattle.al_tree.specs.declared.expression.Access.{Access}
use Rattle.al_tree.specs.declared.expression.Expr.{Expr, fold-Expr, fold-roll-Expr}
use Rattle.al_tree.specs.declared.expression.Expr.TheVariants as n
use Rattle.al_tree.specs.declared.expression.Expr.TheOpen.{Expr-F}
use Rattle.al_rules.specs.declared.fault.TypeFault.{TypeFault}
use Rattle.al_called.specs.Expressions.{Part, each, used, named, step, part, itself, inside, expr}
use Rattle.al_called.proofs.Each.{each_map}

module _ (names : List (List ℕ)) where
  abbrev P : Expr → Part
  P = part names

  part-Number : (at : Place) (value : ℕ) → P (n.Number at value) ≡ step names (Expr-F.Number at value)
  unfolding part
  part-Number at value = ap (fold-Expr Part (step names)) (sym (n.rolls-Number at value)) ∙ fold-roll-Expr Part (step names) (Expr-F.Number at value)

  pub itself-Number : (at : Place) (value : ℕ) (w : List TypeFault) → itself names (n.Number at value) w ≡ w
  itself-Number at value w = ap (λ (p : Part). p.itself w) (part-Number at value)

  pub inside-Number : (at : Place) (value : ℕ) (w : List TypeFault) → inside names (n.Number at value) w ≡ w
  inside-Number at value w = ap (λ (p : Part). p.inside w) (part-Number at value)

  part-Char : (at : Place) (value : ℕ) → P (n.Char at value) ≡ step names (Expr-F.Char at value)
  unfolding part
  part-Char at value = ap (fold-Expr Part (step names)) (sym (n.rolls-Char at value)) ∙ fold-roll-Expr Part (step names) (Expr-F.Char at value)

  pub itself-Char : (at : Place) (value : ℕ) (w : List TypeFault) → itself names (n.Char at value) w ≡ w
  itself-Char at value w = ap (λ (p : Part). p.itself w) (part-Char at value)

  pub inside-Char : (at : Place) (value : ℕ) (w : List TypeFault) → inside names (n.Char at value) w ≡ w
  inside-Char at value w = ap (λ (p : Part). p.inside w) (part-Char at value)

  part-Text : (at : Place) (bytes : List ℕ) → P (n.Text at bytes) ≡ step names (Expr-F.Text at bytes)
  unfolding part
  part-Text at bytes = ap (fold-Expr Part (step names)) (sym (n.rolls-Text at bytes)) ∙ fold-roll-Expr Part (step names) (Expr-F.Text at bytes)

  pub itself-Text : (at : Place) (bytes : List ℕ) (w : List TypeFault) → itself names (n.Text at bytes) w ≡ w
  itself-Text at bytes w = ap (λ (p : Part). p.itself w) (part-Text at bytes)

  pub inside-Text : (at : Place) (bytes : List ℕ) (w : List TypeFault) → inside names (n.Text at bytes) w ≡ w
  inside-Text at bytes w = ap (λ (p : Part). p.inside w) (part-Text at bytes)

  part-Nil : (at : Place) → P (n.Nil at) ≡ step names (Expr-F.Nil at)
  unfolding part
  part-Nil at = ap (fold-Expr Part (step names)) (sym (n.rolls-Nil at)) ∙ fold-roll-Expr Part (step names) (Expr-F.Nil at)

  pub itself-Nil : (at : Place) (w : List TypeFault) → itself names (n.Nil at) w ≡ w
  itself-Nil at w = ap (λ (p : Part). p.itself w) (part-Nil at)

  pub inside-Nil : (at : Place) (w : List TypeFault) → inside names (n.Nil at) w ≡ w
  inside-Nil at w = ap (λ (p : Part). p.inside w) (part-Nil at)

  part-Name : (at : Place) (name : ℕ) → P (n.Name at name) ≡ step names (Expr-F.Name at name)
  unfolding part
  part-Name at name = ap (fold-Expr Part (step names)) (sym (n.rolls-Name at name)) ∙ fold-roll-Expr Part (step names) (Expr-F.Name at name)

  pub itself-Name : (at : Place) (name : ℕ) (w : List TypeFault) → itself names (n.Name at name) w ≡ named names at name w
  itself-Name at name w = ap (λ (p : Part). p.itself w) (part-Name at name)

  pub inside-Name : (at : Place) (name : ℕ) (w : List TypeFault) → inside names (n.Name at name) w ≡ w
  inside-Name at name w = ap (λ (p : Part). p.inside w) (part-Name at name)

  part-Tuple : (at : Place) (parts : List Expr) → P (n.Tuple at parts) ≡ step names (Expr-F.Tuple at (map P parts))
  unfolding part
  part-Tuple at parts = ap (fold-Expr Part (step names)) (sym (n.rolls-Tuple at parts)) ∙ fold-roll-Expr Part (step names) (Expr-F.Tuple at parts)

  pub itself-Tuple : (at : Place) (parts : List Expr) (w : List TypeFault) → itself names (n.Tuple at parts) w ≡ w
  itself-Tuple at parts w = ap (λ (p : Part). p.itself w) (part-Tuple at parts)

  pub inside-Tuple : (at : Place) (parts : List Expr) (w : List TypeFault) → inside names (n.Tuple at parts) w ≡ each (expr names) parts w
  inside-Tuple at parts w = ap (λ (p : Part). p.inside w) (part-Tuple at parts) ∙ each_map used P parts w

  part-Unary : (at : Place) (op : UnaryOp) (a : Expr) → P (n.Unary at op a) ≡ step names (Expr-F.Unary at op (P a))
  unfolding part
  part-Unary at op a = ap (fold-Expr Part (step names)) (sym (n.rolls-Unary at op a)) ∙ fold-roll-Expr Part (step names) (Expr-F.Unary at op a)

  pub itself-Unary : (at : Place) (op : UnaryOp) (a : Expr) (w : List TypeFault) → itself names (n.Unary at op a) w ≡ w
  itself-Unary at op a w = ap (λ (p : Part). p.itself w) (part-Unary at op a)

  pub inside-Unary : (at : Place) (op : UnaryOp) (a : Expr) (w : List TypeFault) → inside names (n.Unary at op a) w ≡ expr names a w
  inside-Unary at op a w = ap (λ (p : Part). p.inside w) (part-Unary at op a)

  part-Cast : (at : Place) (to : TypeTree) (a : Expr) → P (n.Cast at to a) ≡ step names (Expr-F.Cast at to (P a))
  unfolding part
  part-Cast at to a = ap (fold-Expr Part (step names)) (sym (n.rolls-Cast at to a)) ∙ fold-roll-Expr Part (step names) (Expr-F.Cast at to a)

  pub itself-Cast : (at : Place) (to : TypeTree) (a : Expr) (w : List TypeFault) → itself names (n.Cast at to a) w ≡ w
  itself-Cast at to a w = ap (λ (p : Part). p.itself w) (part-Cast at to a)

  pub inside-Cast : (at : Place) (to : TypeTree) (a : Expr) (w : List TypeFault) → inside names (n.Cast at to a) w ≡ expr names a w
  inside-Cast at to a w = ap (λ (p : Part). p.inside w) (part-Cast at to a)

  part-SizeofType : (at : Place) (of : TypeTree) → P (n.SizeofType at of) ≡ step names (Expr-F.SizeofType at of)
  unfolding part
  part-SizeofType at of = ap (fold-Expr Part (step names)) (sym (n.rolls-SizeofType at of)) ∙ fold-roll-Expr Part (step names) (Expr-F.SizeofType at of)

  pub itself-SizeofType : (at : Place) (of : TypeTree) (w : List TypeFault) → itself names (n.SizeofType at of) w ≡ w
  itself-SizeofType at of w = ap (λ (p : Part). p.itself w) (part-SizeofType at of)

  pub inside-SizeofType : (at : Place) (of : TypeTree) (w : List TypeFault) → inside names (n.SizeofType at of) w ≡ w
  inside-SizeofType at of w = ap (λ (p : Part). p.inside w) (part-SizeofType at of)

  part-SizeofValue : (at : Place) (a : Expr) → P (n.SizeofValue at a) ≡ step names (Expr-F.SizeofValue at (P a))
  unfolding part
  part-SizeofValue at a = ap (fold-Expr Part (step names)) (sym (n.rolls-SizeofValue at a)) ∙ fold-roll-Expr Part (step names) (Expr-F.SizeofValue at a)

  pub itself-SizeofValue : (at : Place) (a : Expr) (w : List TypeFault) → itself names (n.SizeofValue at a) w ≡ w
  itself-SizeofValue at a w = ap (λ (p : Part). p.itself w) (part-SizeofValue at a)

  pub inside-SizeofValue : (at : Place) (a : Expr) (w : List TypeFault) → inside names (n.SizeofValue at a) w ≡ expr names a w
  inside-SizeofValue at a w = ap (λ (p : Part). p.inside w) (part-SizeofValue at a)

  part-Index : (at : Place) (a b : Expr) → P (n.Index at a b) ≡ step names (Expr-F.Index at (P a) (P b))
  unfolding part
  part-Index at a b = ap (fold-Expr Part (step names)) (sym (n.rolls-Index at a b)) ∙ fold-roll-Expr Part (step names) (Expr-F.Index at a b)

  pub itself-Index : (at : Place) (a b : Expr) (w : List TypeFault) → itself names (n.Index at a b) w ≡ w
  itself-Index at a b w = ap (λ (p : Part). p.itself w) (part-Index at a b)

  pub inside-Index : (at : Place) (a b : Expr) (w : List TypeFault) → inside names (n.Index at a b) w ≡ expr names b (expr names a w)
  inside-Index at a b w = ap (λ (p : Part). p.inside w) (part-Index at a b)

  part-Member : (at : Place) (a : Expr) (access : Access) (name : Name) → P (n.Member at a access name) ≡ step names (Expr-F.Member at (P a) access name)
  unfolding part
  part-Member at a access name = ap (fold-Expr Part (step names)) (sym (n.rolls-Member at a access name)) ∙ fold-roll-Expr Part (step names) (Expr-F.Member at a access name)

  pub itself-Member : (at : Place) (a : Expr) (access : Access) (name : Name) (w : List TypeFault) → itself names (n.Member at a access name) w ≡ w
  itself-Member at a access name w = ap (λ (p : Part). p.itself w) (part-Member at a access name)

  pub inside-Member : (at : Place) (a : Expr) (access : Access) (name : Name) (w : List TypeFault) → inside names (n.Member at a access name) w ≡ expr names a w
  inside-Member at a access name w = ap (λ (p : Part). p.inside w) (part-Member at a access name)

  part-Call : (at : Place) (a : Expr) (xs : List Expr) → P (n.Call at a xs) ≡ step names (Expr-F.Call at (P a) (map P xs))
  unfolding part
  part-Call at a xs = ap (fold-Expr Part (step names)) (sym (n.rolls-Call at a xs)) ∙ fold-roll-Expr Part (step names) (Expr-F.Call at a xs)

  pub itself-Call : (at : Place) (a : Expr) (xs : List Expr) (w : List TypeFault) → itself names (n.Call at a xs) w ≡ w
  itself-Call at a xs w = ap (λ (p : Part). p.itself w) (part-Call at a xs)

  pub inside-Call : (at : Place) (a : Expr) (xs : List Expr) (w : List TypeFault) → inside names (n.Call at a xs) w ≡ each (expr names) xs (inside names a w)
  inside-Call at a xs w = ap (λ (p : Part). p.inside w) (part-Call at a xs) ∙ each_map used P xs (inside names a w)

  part-Postfix : (at : Place) (op : PostfixOp) (a : Expr) → P (n.Postfix at op a) ≡ step names (Expr-F.Postfix at op (P a))
  unfolding part
  part-Postfix at op a = ap (fold-Expr Part (step names)) (sym (n.rolls-Postfix at op a)) ∙ fold-roll-Expr Part (step names) (Expr-F.Postfix at op a)

  pub itself-Postfix : (at : Place) (op : PostfixOp) (a : Expr) (w : List TypeFault) → itself names (n.Postfix at op a) w ≡ w
  itself-Postfix at op a w = ap (λ (p : Part). p.itself w) (part-Postfix at op a)

  pub inside-Postfix : (at : Place) (op : PostfixOp) (a : Expr) (w : List TypeFault) → inside names (n.Postfix at op a) w ≡ expr names a w
  inside-Postfix at op a w = ap (λ (p : Part). p.inside w) (part-Postfix at op a)

  part-Binary : (at : Place) (op : BinaryOp) (a b : Expr) → P (n.Binary at op a b) ≡ step names (Expr-F.Binary at op (P a) (P b))
  unfolding part
  part-Binary at op a b = ap (fold-Expr Part (step names)) (sym (n.rolls-Binary at op a b)) ∙ fold-roll-Expr Part (step names) (Expr-F.Binary at op a b)

  pub itself-Binary : (at : Place) (op : BinaryOp) (a b : Expr) (w : List TypeFault) → itself names (n.Binary at op a b) w ≡ w
  itself-Binary at op a b w = ap (λ (p : Part). p.itself w) (part-Binary at op a b)

  pub inside-Binary : (at : Place) (op : BinaryOp) (a b : Expr) (w : List TypeFault) → inside names (n.Binary at op a b) w ≡ expr names b (expr names a w)
  inside-Binary at op a b w = ap (λ (p : Part). p.inside w) (part-Binary at op a b)

  part-Iterator : (at : Place) (a b : Expr) → P (n.Iterator at a b) ≡ step names (Expr-F.Iterator at (P a) (P b))
  unfolding part
  part-Iterator at a b = ap (fold-Expr Part (step names)) (sym (n.rolls-Iterator at a b)) ∙ fold-roll-Expr Part (step names) (Expr-F.Iterator at a b)

  pub itself-Iterator : (at : Place) (a b : Expr) (w : List TypeFault) → itself names (n.Iterator at a b) w ≡ w
  itself-Iterator at a b w = ap (λ (p : Part). p.itself w) (part-Iterator at a b)

  pub inside-Iterator : (at : Place) (a b : Expr) (w : List TypeFault) → inside names (n.Iterator at a b) w ≡ expr names b (expr names a w)
  inside-Iterator at a b w = ap (λ (p : Part). p.inside w) (part-Iterator at a b)

  part-Assign : (at : Place) (op : AssignOp) (a b : Expr) → P (n.Assign at op a b) ≡ step names (Expr-F.Assign at op (P a) (P b))
  unfolding part
  part-Assign at op a b = ap (fold-Expr Part (step names)) (sym (n.rolls-Assign at op a b)) ∙ fold-roll-Expr Part (step names) (Expr-F.Assign at op a b)

  pub itself-Assign : (at : Place) (op : AssignOp) (a b : Expr) (w : List TypeFault) → itself names (n.Assign at op a b) w ≡ w
  itself-Assign at op a b w = ap (λ (p : Part). p.itself w) (part-Assign at op a b)

  pub inside-Assign : (at : Place) (op : AssignOp) (a b : Expr) (w : List TypeFault) → inside names (n.Assign at op a b) w ≡ expr names b (expr names a w)
  inside-Assign at op a b w = ap (λ (p : Part). p.inside w) (part-Assign at op a b)

  part-Sequence : (at : Place) (parts : List Expr) → P (n.Sequence at parts) ≡ step names (Expr-F.Sequence at (map P parts))
  unfolding part
  part-Sequence at parts = ap (fold-Expr Part (step names)) (sym (n.rolls-Sequence at parts)) ∙ fold-roll-Expr Part (step names) (Expr-F.Sequence at parts)

  pub itself-Sequence : (at : Place) (parts : List Expr) (w : List TypeFault) → itself names (n.Sequence at parts) w ≡ w
  itself-Sequence at parts w = ap (λ (p : Part). p.itself w) (part-Sequence at parts)

  pub inside-Sequence : (at : Place) (parts : List Expr) (w : List TypeFault) → inside names (n.Sequence at parts) w ≡ each (expr names) parts w
  inside-Sequence at parts w = ap (λ (p : Part). p.inside w) (part-Sequence at parts) ∙ each_map used P parts w

pub ruleset itself_is = (itself-Number, itself-Char, itself-Text, itself-Nil, itself-Name, itself-Tuple, itself-Unary, itself-Cast, itself-SizeofType, itself-SizeofValue, itself-Index, itself-Member, itself-Call, itself-Postfix, itself-Binary, itself-Iterator, itself-Assign, itself-Sequence)

pub ruleset inside_is = (inside-Number, inside-Char, inside-Text, inside-Nil, inside-Name, inside-Tuple, inside-Unary, inside-Cast, inside-SizeofType, inside-SizeofValue, inside-Index, inside-Member, inside-Call, inside-Postfix, inside-Binary, inside-Iterator, inside-Assign, inside-Sequence)
