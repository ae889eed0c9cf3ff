-- What each kind of expression does.
use Rattle.std.proofs.Common.{◌≡◌, ℕ, Bool, List, [], ◌∷◌, map, fold, Option, Some, None, refl, ap, ◌∙◌, sym}
use Rattle.al_base.specs.declared.place.Place.{Place}
use Rattle.al_tree.specs.declared.type_tree.TypeTree.{TypeTree}
use Rattle.al_tree.specs.declared.expression.Name.{Name}
use Rattle.al_tree.specs.declared.expression.UnaryOp.{UnaryOp}
use Rattle.al_tree.specs.declared.expression.PostfixOp.{PostfixOp}
use Rattle.al_tree.specs.declared.expression.BinaryOp.{BinaryOp}
use Rattle.al_tree.specs.declared.expression.AssignOp.{AssignOp}
use Rattle.al_tree.specs.declared.expression.Access.{Access}
use Rattle.al_tree.specs.declared.expression.Expr.{Expr, fold-Expr, fold-roll-Expr}
use Rattle.al_tree.specs.declared.expression.Expr.TheVariants as n
use Rattle.al_tree.specs.declared.expression.Expr.TheOpen.{Expr-F}
use Rattle.al_scope.specs.declared.declaration.Resolved.{Resolved}
use Rattle.al_scope.specs.Firsts.{declaration_at}
use Rattle.al_shared.specs.Expressions.{Way, Part, each, step, part, named, operated, name_of, expr}
use Rattle.al_shared.proofs.Marking.{each_map}

module _ (names : List Resolved) (round : ℕ) where
  abbrev P : Expr → Part
  P = part names round

  part-Number : (at : Place) (value : ℕ) → P (n.Number at value) ≡ step names round (Expr-F.Number at value)
  unfolding part
  part-Number at value = ap (fold-Expr Part (step names round)) (sym (n.rolls-Number at value)) ∙ fold-roll-Expr Part (step names round) (Expr-F.Number at value)

  pub expr-Number : (at : Place) (value : ℕ) (inside : Bool) (bs : List Bool) → expr names round (n.Number at value) inside bs ≡ bs
  expr-Number at value inside bs = ap (λ (p : Part). p.way inside bs) (part-Number at value)

  pub name-Number : (at : Place) (value : ℕ) → name_of names round (n.Number at value) ≡ None
  name-Number at value = ap (λ (p : Part). p.name) (part-Number at value)

  part-Char : (at : Place) (value : ℕ) → P (n.Char at value) ≡ step names round (Expr-F.Char at value)
  unfolding part
  part-Char at value = ap (fold-Expr Part (step names round)) (sym (n.rolls-Char at value)) ∙ fold-roll-Expr Part (step names round) (Expr-F.Char at value)

  pub expr-Char : (at : Place) (value : ℕ) (inside : Bool) (bs : List Bool) → expr names round (n.Char at value) inside bs ≡ bs
  expr-Char at value inside bs = ap (λ (p : Part). p.way inside bs) (part-Char at value)

  pub name-Char : (at : Place) (value : ℕ) → name_of names round (n.Char at value) ≡ None
  name-Char at value = ap (λ (p : Part). p.name) (part-Char at value)

  part-Text : (at : Place) (bytes : List ℕ) → P (n.Text at bytes) ≡ step names round (Expr-F.Text at bytes)
  unfolding part
  part-Text at bytes = ap (fold-Expr Part (step names round)) (sym (n.rolls-Text at bytes)) ∙ fold-roll-Expr Part (step names round) (Expr-F.Text at bytes)

  pub expr-Text : (at : Place) (bytes : List ℕ) (inside : Bool) (bs : List Bool) → expr names round (n.Text at bytes) inside bs ≡ bs
  expr-Text at bytes inside bs = ap (λ (p : Part). p.way inside bs) (part-Text at bytes)

  pub name-Text : (at : Place) (bytes : List ℕ) → name_of names round (n.Text at bytes) ≡ None
  name-Text at bytes = ap (λ (p : Part). p.name) (part-Text at bytes)

  part-Nil : (at : Place) → P (n.Nil at) ≡ step names round (Expr-F.Nil at)
  unfolding part
  part-Nil at = ap (fold-Expr Part (step names round)) (sym (n.rolls-Nil at)) ∙ fold-roll-Expr Part (step names round) (Expr-F.Nil at)

  pub expr-Nil : (at : Place) (inside : Bool) (bs : List Bool) → expr names round (n.Nil at) inside bs ≡ bs
  expr-Nil at inside bs = ap (λ (p : Part). p.way inside bs) (part-Nil at)

  pub name-Nil : (at : Place) → name_of names round (n.Nil at) ≡ None
  name-Nil at = ap (λ (p : Part). p.name) (part-Nil at)

  part-Name : (at : Place) (name : ℕ) → P (n.Name at name) ≡ step names round (Expr-F.Name at name)
  unfolding part
  part-Name at name = ap (fold-Expr Part (step names round)) (sym (n.rolls-Name at name)) ∙ fold-roll-Expr Part (step names round) (Expr-F.Name at name)

  pub expr-Name : (at : Place) (name : ℕ) (inside : Bool) (bs : List Bool) → expr names round (n.Name at name) inside bs ≡ named round (declaration_at names at) inside bs
  expr-Name at name inside bs = ap (λ (p : Part). p.way inside bs) (part-Name at name)

  pub name-Name : (at : Place) (name : ℕ) → name_of names round (n.Name at name) ≡ Some at
  name-Name at name = ap (λ (p : Part). p.name) (part-Name at name)

  part-Tuple : (at : Place) (parts : List Expr) → P (n.Tuple at parts) ≡ step names round (Expr-F.Tuple at (map P parts))
  unfolding part
  part-Tuple at parts = ap (fold-Expr Part (step names round)) (sym (n.rolls-Tuple at parts)) ∙ fold-roll-Expr Part (step names round) (Expr-F.Tuple at parts)

  pub expr-Tuple : (at : Place) (parts : List Expr) (inside : Bool) (bs : List Bool) → expr names round (n.Tuple at parts) inside bs ≡ each (expr names round) parts inside bs
  expr-Tuple at parts inside bs = ap (λ (p : Part). p.way inside bs) (part-Tuple at parts) ∙ each_map (λ (p : Part). p.way) P parts inside bs

  pub name-Tuple : (at : Place) (parts : List Expr) → name_of names round (n.Tuple at parts) ≡ None
  name-Tuple at parts = ap (λ (p : Part). p.name) (part-Tuple at parts)

  part-Unary : (at : Place) (op : UnaryOp) (a : Expr) → P (n.Unary at op a) ≡ step names round (Expr-F.Unary at op (P a))
  unfolding part
  part-Unary at op a = ap (fold-Expr Part (step names round)) (sym (n.rolls-Unary at op a)) ∙ fold-roll-Expr Part (step names round) (Expr-F.Unary at op a)

  pub expr-Unary : (at : Place) (op : UnaryOp) (a : Expr) (inside : Bool) (bs : List Bool) → expr names round (n.Unary at op a) inside bs ≡ expr names round a inside (operated names op (name_of names round a) inside bs)
  expr-Unary at op a inside bs = ap (λ (p : Part). p.way inside bs) (part-Unary at op a)

  pub name-Unary : (at : Place) (op : UnaryOp) (a : Expr) → name_of names round (n.Unary at op a) ≡ None
  name-Unary at op a = ap (λ (p : Part). p.name) (part-Unary at op a)

  part-Cast : (at : Place) (to : TypeTree) (a : Expr) → P (n.Cast at to a) ≡ step names round (Expr-F.Cast at to (P a))
  unfolding part
  part-Cast at to a = ap (fold-Expr Part (step names round)) (sym (n.rolls-Cast at to a)) ∙ fold-roll-Expr Part (step names round) (Expr-F.Cast at to a)

  pub expr-Cast : (at : Place) (to : TypeTree) (a : Expr) (inside : Bool) (bs : List Bool) → expr names round (n.Cast at to a) inside bs ≡ expr names round a inside bs
  expr-Cast at to a inside bs = ap (λ (p : Part). p.way inside bs) (part-Cast at to a)

  pub name-Cast : (at : Place) (to : TypeTree) (a : Expr) → name_of names round (n.Cast at to a) ≡ None
  name-Cast at to a = ap (λ (p : Part). p.name) (part-Cast at to a)

  part-SizeofType : (at : Place) (of : TypeTree) → P (n.SizeofType at of) ≡ step names round (Expr-F.SizeofType at of)
  unfolding part
  part-SizeofType at of = ap (fold-Expr Part (step names round)) (sym (n.rolls-SizeofType at of)) ∙ fold-roll-Expr Part (step names round) (Expr-F.SizeofType at of)

  pub expr-SizeofType : (at : Place) (of : TypeTree) (inside : Bool) (bs : List Bool) → expr names round (n.SizeofType at of) inside bs ≡ bs
  expr-SizeofType at of inside bs = ap (λ (p : Part). p.way inside bs) (part-SizeofType at of)

  pub name-SizeofType : (at : Place) (of : TypeTree) → name_of names round (n.SizeofType at of) ≡ None
  name-SizeofType at of = ap (λ (p : Part). p.name) (part-SizeofType at of)

  part-SizeofValue : (at : Place) (a : Expr) → P (n.SizeofValue at a) ≡ step names round (Expr-F.SizeofValue at (P a))
  unfolding part
  part-SizeofValue at a = ap (fold-Expr Part (step names round)) (sym (n.rolls-SizeofValue at a)) ∙ fold-roll-Expr Part (step names round) (Expr-F.SizeofValue at a)

  pub expr-SizeofValue : (at : Place) (a : Expr) (inside : Bool) (bs : List Bool) → expr names round (n.SizeofValue at a) inside bs ≡ expr names round a inside bs
  expr-SizeofValue at a inside bs = ap (λ (p : Part). p.way inside bs) (part-SizeofValue at a)

  pub name-SizeofValue : (at : Place) (a : Expr) → name_of names round (n.SizeofValue at a) ≡ None
  name-SizeofValue at a = ap (λ (p : Part). p.name) (part-SizeofValue at a)

  part-Index : (at : Place) (a b : Expr) → P (n.Index at a b) ≡ step names round (Expr-F.Index at (P a) (P b))
  unfolding part
  part-Index at a b = ap (fold-Expr Part (step names round)) (sym (n.rolls-Index at a b)) ∙ fold-roll-Expr Part (step names round) (Expr-F.Index at a b)

  pub expr-Index : (at : Place) (a b : Expr) (inside : Bool) (bs : List Bool) → expr names round (n.Index at a b) inside bs ≡ expr names round b inside (expr names round a inside bs)
  expr-Index at a b inside bs = ap (λ (p : Part). p.way inside bs) (part-Index at a b)

  pub name-Index : (at : Place) (a b : Expr) → name_of names round (n.Index at a b) ≡ None
  name-Index at a b = ap (λ (p : Part). p.name) (part-Index at a b)

  part-Member : (at : Place) (a : Expr) (access : Access) (name : Name) → P (n.Member at a access name) ≡ step names round (Expr-F.Member at (P a) access name)
  unfolding part
  part-Member at a access name = ap (fold-Expr Part (step names round)) (sym (n.rolls-Member at a access name)) ∙ fold-roll-Expr Part (step names round) (Expr-F.Member at a access name)

  pub expr-Member : (at : Place) (a : Expr) (access : Access) (name : Name) (inside : Bool) (bs : List Bool) → expr names round (n.Member at a access name) inside bs ≡ expr names round a inside bs
  expr-Member at a access name inside bs = ap (λ (p : Part). p.way inside bs) (part-Member at a access name)

  pub name-Member : (at : Place) (a : Expr) (access : Access) (name : Name) → name_of names round (n.Member at a access name) ≡ None
  name-Member at a access name = ap (λ (p : Part). p.name) (part-Member at a access name)

  part-Call : (at : Place) (f : Expr) (xs : List Expr) → P (n.Call at f xs) ≡ step names round (Expr-F.Call at (P f) (map P xs))
  unfolding part
  part-Call at f xs = ap (fold-Expr Part (step names round)) (sym (n.rolls-Call at f xs)) ∙ fold-roll-Expr Part (step names round) (Expr-F.Call at f xs)

  pub expr-Call : (at : Place) (f : Expr) (xs : List Expr) (inside : Bool) (bs : List Bool) → expr names round (n.Call at f xs) inside bs ≡ each (expr names round) xs inside (expr names round f inside bs)
  expr-Call at f xs inside bs = ap (λ (p : Part). p.way inside bs) (part-Call at f xs) ∙ each_map (λ (p : Part). p.way) P xs inside (expr names round f inside bs)

  pub name-Call : (at : Place) (f : Expr) (xs : List Expr) → name_of names round (n.Call at f xs) ≡ None
  name-Call at f xs = ap (λ (p : Part). p.name) (part-Call at f xs)

  part-Postfix : (at : Place) (op : PostfixOp) (a : Expr) → P (n.Postfix at op a) ≡ step names round (Expr-F.Postfix at op (P a))
  unfolding part
  part-Postfix at op a = ap (fold-Expr Part (step names round)) (sym (n.rolls-Postfix at op a)) ∙ fold-roll-Expr Part (step names round) (Expr-F.Postfix at op a)

  pub expr-Postfix : (at : Place) (op : PostfixOp) (a : Expr) (inside : Bool) (bs : List Bool) → expr names round (n.Postfix at op a) inside bs ≡ expr names round a inside bs
  expr-Postfix at op a inside bs = ap (λ (p : Part). p.way inside bs) (part-Postfix at op a)

  pub name-Postfix : (at : Place) (op : PostfixOp) (a : Expr) → name_of names round (n.Postfix at op a) ≡ None
  name-Postfix at op a = ap (λ (p : Part). p.name) (part-Postfix at op a)

  part-Binary : (at : Place) (op : BinaryOp) (a b : Expr) → P (n.Binary at op a b) ≡ step names round (Expr-F.Binary at op (P a) (P b))
  unfolding part
  part-Binary at op a b = ap (fold-Expr Part (step names round)) (sym (n.rolls-Binary at op a b)) ∙ fold-roll-Expr Part (step names round) (Expr-F.Binary at op a b)

  pub expr-Binary : (at : Place) (op : BinaryOp) (a b : Expr) (inside : Bool) (bs : List Bool) → expr names round (n.Binary at op a b) inside bs ≡ expr names round b inside (expr names round a inside bs)
  expr-Binary at op a b inside bs = ap (λ (p : Part). p.way inside bs) (part-Binary at op a b)

  pub name-Binary : (at : Place) (op : BinaryOp) (a b : Expr) → name_of names round (n.Binary at op a b) ≡ None
  name-Binary at op a b = ap (λ (p : Part). p.name) (part-Binary at op a b)

  part-Iterator : (at : Place) (a b : Expr) → P (n.Iterator at a b) ≡ step names round (Expr-F.Iterator at (P a) (P b))
  unfolding part
  part-Iterator at a b = ap (fold-Expr Part (step names round)) (sym (n.rolls-Iterator at a b)) ∙ fold-roll-Expr Part (step names round) (Expr-F.Iterator at a b)

  pub expr-Iterator : (at : Place) (a b : Expr) (inside : Bool) (bs : List Bool) → expr names round (n.Iterator at a b) inside bs ≡ expr names round b inside (expr names round a inside bs)
  expr-Iterator at a b inside bs = ap (λ (p : Part). p.way inside bs) (part-Iterator at a b)

  pub name-Iterator : (at : Place) (a b : Expr) → name_of names round (n.Iterator at a b) ≡ None
  name-Iterator at a b = ap (λ (p : Part). p.name) (part-Iterator at a b)

  part-Assign : (at : Place) (op : AssignOp) (a b : Expr) → P (n.Assign at op a b) ≡ step names round (Expr-F.Assign at op (P a) (P b))
  unfolding part
  part-Assign at op a b = ap (fold-Expr Part (step names round)) (sym (n.rolls-Assign at op a b)) ∙ fold-roll-Expr Part (step names round) (Expr-F.Assign at op a b)

  pub expr-Assign : (at : Place) (op : AssignOp) (a b : Expr) (inside : Bool) (bs : List Bool) → expr names round (n.Assign at op a b) inside bs ≡ expr names round b inside (expr names round a inside bs)
  expr-Assign at op a b inside bs = ap (λ (p : Part). p.way inside bs) (part-Assign at op a b)

  pub name-Assign : (at : Place) (op : AssignOp) (a b : Expr) → name_of names round (n.Assign at op a b) ≡ None
  name-Assign at op a b = ap (λ (p : Part). p.name) (part-Assign at op a b)

  part-Sequence : (at : Place) (parts : List Expr) → P (n.Sequence at parts) ≡ step names round (Expr-F.Sequence at (map P parts))
  unfolding part
  part-Sequence at parts = ap (fold-Expr Part (step names round)) (sym (n.rolls-Sequence at parts)) ∙ fold-roll-Expr Part (step names round) (Expr-F.Sequence at parts)

  pub expr-Sequence : (at : Place) (parts : List Expr) (inside : Bool) (bs : List Bool) → expr names round (n.Sequence at parts) inside bs ≡ each (expr names round) parts inside bs
  expr-Sequence at parts inside bs = ap (λ (p : Part). p.way inside bs) (part-Sequence at parts) ∙ each_map (λ (p : Part). p.way) P parts inside bs

  pub name-Sequence : (at : Place) (parts : List Expr) → name_of names round (n.Sequence at parts) ≡ None
  name-Sequence at parts = ap (λ (p : Part). p.name) (part-Sequence at parts)

pub ruleset expr_is = (expr-Number, expr-Char, expr-Text, expr-Nil, expr-Name, expr-Tuple, expr-Unary, expr-Cast, expr-SizeofType, expr-SizeofValue, expr-Index, expr-Member, expr-Call, expr-Postfix, expr-Binary, expr-Iterator, expr-Assign, expr-Sequence)

pub ruleset name_is = (name-Number, name-Char, name-Text, name-Nil, name-Name, name-Tuple, name-Unary, name-Cast, name-SizeofType, name-SizeofValue, name-Index, name-Member, name-Call, name-Postfix, name-Binary, name-Iterator, name-Assign, name-Sequence)
