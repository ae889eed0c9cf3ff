-- What each kind of expression does.
use Rattle.std.proofs.Common.{◌≡◌, ℕ, Bool, true, false, List, map, Some, None, ap, ◌∙◌, sym}
use Rattle.al_base.specs.declared.place.Place.{Place}
use Rattle.al_tree.specs.declared.type_tree.TypeTree.{TypeTree}
use Rattle.al_tree.specs.declared.expression.Name.{Name}
use Rattle.al_tree.specs.declared.expression.UnaryOp.{UnaryOp}
use Rattle.al_tree.specs.declared.expression.PostfixOp.{PostfixOp}
use Rattle.al_tree.specs.declared.expression.BinaryOp.{BinaryOp}
use Rattle.al_tree.specs.declared.expression.AssignOp.{AssignOp}
use Rattle.al_tree.specs.declared.expression.Access.{Access}
use Rattle.al_tree.specs.declared.expression.Expr.{Expr, fold-Expr, fold-roll-Expr}
use Rattle.al_tree.specs.declared.expression.Expr.TheVariants as n
use Rattle.al_tree.specs.declared.expression.Expr.TheOpen.{Expr-F}
use Rattle.al_environment.specs.declared.environment.Environment.{Environment}
use Rattle.al_environment.specs.declared.environment.Here.{Here}
use Rattle.al_body_parts.specs.declared.parts.Parts.{Parts}
use Rattle.al_body_parts.specs.Parts.{with_text, with_type}
use Rattle.al_body_parts.specs.Expressions.{Part, each, step, part, is_print, is_text_at, behind_format, name_of, expr}
use Rattle.al_body_parts.proofs.Gathering.{each_map, behind_format_map}

module _ (env : Environment) (here : Here) where
  abbrev P : Expr → Part
  P = part env here

  part-Number : (at : Place) (value : ℕ) → P (n.Number at value) ≡ step env here (Expr-F.Number at value)
  unfolding part
  part-Number at value = ap (fold-Expr Part (step env here)) (sym (n.rolls-Number at value)) ∙ fold-roll-Expr Part (step env here) (Expr-F.Number at value)

  pub expr-Number : (at : Place) (value : ℕ) (inside : Bool) (q : Parts) → expr env here (n.Number at value) inside q ≡ q
  expr-Number at value inside q = ap (λ (p : Part). p.way inside q) (part-Number at value)

  pub name-Number : (at : Place) (value : ℕ) → name_of env here (n.Number at value) ≡ None
  name-Number at value = ap (λ (p : Part). p.name) (part-Number at value)

  part-Char : (at : Place) (value : ℕ) → P (n.Char at value) ≡ step env here (Expr-F.Char at value)
  unfolding part
  part-Char at value = ap (fold-Expr Part (step env here)) (sym (n.rolls-Char at value)) ∙ fold-roll-Expr Part (step env here) (Expr-F.Char at value)

  pub expr-Char : (at : Place) (value : ℕ) (inside : Bool) (q : Parts) → expr env here (n.Char at value) inside q ≡ q
  expr-Char at value inside q = ap (λ (p : Part). p.way inside q) (part-Char at value)

  pub name-Char : (at : Place) (value : ℕ) → name_of env here (n.Char at value) ≡ None
  name-Char at value = ap (λ (p : Part). p.name) (part-Char at value)

  part-Text : (at : Place) (bytes : List ℕ) → P (n.Text at bytes) ≡ step env here (Expr-F.Text at bytes)
  unfolding part
  part-Text at bytes = ap (fold-Expr Part (step env here)) (sym (n.rolls-Text at bytes)) ∙ fold-roll-Expr Part (step env here) (Expr-F.Text at bytes)

  pub expr-Text : (at : Place) (bytes : List ℕ) (inside : Bool) (q : Parts) → expr env here (n.Text at bytes) inside q ≡ with_text at bytes q
  expr-Text at bytes inside q = ap (λ (p : Part). p.way inside q) (part-Text at bytes)

  pub name-Text : (at : Place) (bytes : List ℕ) → name_of env here (n.Text at bytes) ≡ None
  name-Text at bytes = ap (λ (p : Part). p.name) (part-Text at bytes)

  part-Nil : (at : Place) → P (n.Nil at) ≡ step env here (Expr-F.Nil at)
  unfolding part
  part-Nil at = ap (fold-Expr Part (step env here)) (sym (n.rolls-Nil at)) ∙ fold-roll-Expr Part (step env here) (Expr-F.Nil at)

  pub expr-Nil : (at : Place) (inside : Bool) (q : Parts) → expr env here (n.Nil at) inside q ≡ q
  expr-Nil at inside q = ap (λ (p : Part). p.way inside q) (part-Nil at)

  pub name-Nil : (at : Place) → name_of env here (n.Nil at) ≡ None
  name-Nil at = ap (λ (p : Part). p.name) (part-Nil at)

  part-Name : (at : Place) (name : ℕ) → P (n.Name at name) ≡ step env here (Expr-F.Name at name)
  unfolding part
  part-Name at name = ap (fold-Expr Part (step env here)) (sym (n.rolls-Name at name)) ∙ fold-roll-Expr Part (step env here) (Expr-F.Name at name)

  pub expr-Name : (at : Place) (name : ℕ) (inside : Bool) (q : Parts) → expr env here (n.Name at name) inside q ≡ q
  expr-Name at name inside q = ap (λ (p : Part). p.way inside q) (part-Name at name)

  pub name-Name : (at : Place) (name : ℕ) → name_of env here (n.Name at name) ≡ Some at
  name-Name at name = ap (λ (p : Part). p.name) (part-Name at name)

  part-Tuple : (at : Place) (parts : List Expr) → P (n.Tuple at parts) ≡ step env here (Expr-F.Tuple at (map P parts))
  unfolding part
  part-Tuple at parts = ap (fold-Expr Part (step env here)) (sym (n.rolls-Tuple at parts)) ∙ fold-roll-Expr Part (step env here) (Expr-F.Tuple at parts)

  pub expr-Tuple : (at : Place) (parts : List Expr) (inside : Bool) (q : Parts) → expr env here (n.Tuple at parts) inside q ≡ each (expr env here) parts inside q
  expr-Tuple at parts inside q = ap (λ (p : Part). p.way inside q) (part-Tuple at parts) ∙ each_map (λ (p : Part). p.way) P parts inside q

  pub name-Tuple : (at : Place) (parts : List Expr) → name_of env here (n.Tuple at parts) ≡ None
  name-Tuple at parts = ap (λ (p : Part). p.name) (part-Tuple at parts)

  part-Unary : (at : Place) (op : UnaryOp) (a : Expr) → P (n.Unary at op a) ≡ step env here (Expr-F.Unary at op (P a))
  unfolding part
  part-Unary at op a = ap (fold-Expr Part (step env here)) (sym (n.rolls-Unary at op a)) ∙ fold-roll-Expr Part (step env here) (Expr-F.Unary at op a)

  pub expr-Unary : (at : Place) (op : UnaryOp) (a : Expr) (inside : Bool) (q : Parts) → expr env here (n.Unary at op a) inside q ≡ expr env here a inside q
  expr-Unary at op a inside q = ap (λ (p : Part). p.way inside q) (part-Unary at op a)

  pub name-Unary : (at : Place) (op : UnaryOp) (a : Expr) → name_of env here (n.Unary at op a) ≡ None
  name-Unary at op a = ap (λ (p : Part). p.name) (part-Unary at op a)

  part-Cast : (at : Place) (to : TypeTree) (a : Expr) → P (n.Cast at to a) ≡ step env here (Expr-F.Cast at to (P a))
  unfolding part
  part-Cast at to a = ap (fold-Expr Part (step env here)) (sym (n.rolls-Cast at to a)) ∙ fold-roll-Expr Part (step env here) (Expr-F.Cast at to a)

  pub expr-Cast : (at : Place) (to : TypeTree) (a : Expr) (inside : Bool) (q : Parts) → expr env here (n.Cast at to a) inside q ≡ expr env here a inside (with_type env here at to q)
  expr-Cast at to a inside q = ap (λ (p : Part). p.way inside q) (part-Cast at to a)

  pub name-Cast : (at : Place) (to : TypeTree) (a : Expr) → name_of env here (n.Cast at to a) ≡ None
  name-Cast at to a = ap (λ (p : Part). p.name) (part-Cast at to a)

  part-SizeofType : (at : Place) (of : TypeTree) → P (n.SizeofType at of) ≡ step env here (Expr-F.SizeofType at of)
  unfolding part
  part-SizeofType at of = ap (fold-Expr Part (step env here)) (sym (n.rolls-SizeofType at of)) ∙ fold-roll-Expr Part (step env here) (Expr-F.SizeofType at of)

  pub expr-SizeofType : (at : Place) (of : TypeTree) (inside : Bool) (q : Parts) → expr env here (n.SizeofType at of) inside q ≡ with_type env here at of q
  expr-SizeofType at of inside q = ap (λ (p : Part). p.way inside q) (part-SizeofType at of)

  pub name-SizeofType : (at : Place) (of : TypeTree) → name_of env here (n.SizeofType at of) ≡ None
  name-SizeofType at of = ap (λ (p : Part). p.name) (part-SizeofType at of)

  part-SizeofValue : (at : Place) (a : Expr) → P (n.SizeofValue at a) ≡ step env here (Expr-F.SizeofValue at (P a))
  unfolding part
  part-SizeofValue at a = ap (fold-Expr Part (step env here)) (sym (n.rolls-SizeofValue at a)) ∙ fold-roll-Expr Part (step env here) (Expr-F.SizeofValue at a)

  pub expr-SizeofValue : (at : Place) (a : Expr) (inside : Bool) (q : Parts) → expr env here (n.SizeofValue at a) inside q ≡ expr env here a inside q
  expr-SizeofValue at a inside q = ap (λ (p : Part). p.way inside q) (part-SizeofValue at a)

  pub name-SizeofValue : (at : Place) (a : Expr) → name_of env here (n.SizeofValue at a) ≡ None
  name-SizeofValue at a = ap (λ (p : Part). p.name) (part-SizeofValue at a)

  part-Index : (at : Place) (a b : Expr) → P (n.Index at a b) ≡ step env here (Expr-F.Index at (P a) (P b))
  unfolding part
  part-Index at a b = ap (fold-Expr Part (step env here)) (sym (n.rolls-Index at a b)) ∙ fold-roll-Expr Part (step env here) (Expr-F.Index at a b)

  pub expr-Index : (at : Place) (a b : Expr) (inside : Bool) (q : Parts) → expr env here (n.Index at a b) inside q ≡ expr env here b inside (expr env here a inside q)
  expr-Index at a b inside q = ap (λ (p : Part). p.way inside q) (part-Index at a b)

  pub name-Index : (at : Place) (a b : Expr) → name_of env here (n.Index at a b) ≡ None
  name-Index at a b = ap (λ (p : Part). p.name) (part-Index at a b)

  part-Member : (at : Place) (a : Expr) (access : Access) (name : Name) → P (n.Member at a access name) ≡ step env here (Expr-F.Member at (P a) access name)
  unfolding part
  part-Member at a access name = ap (fold-Expr Part (step env here)) (sym (n.rolls-Member at a access name)) ∙ fold-roll-Expr Part (step env here) (Expr-F.Member at a access name)

  pub expr-Member : (at : Place) (a : Expr) (access : Access) (name : Name) (inside : Bool) (q : Parts) → expr env here (n.Member at a access name) inside q ≡ expr env here a inside q
  expr-Member at a access name inside q = ap (λ (p : Part). p.way inside q) (part-Member at a access name)

  pub name-Member : (at : Place) (a : Expr) (access : Access) (name : Name) → name_of env here (n.Member at a access name) ≡ None
  name-Member at a access name = ap (λ (p : Part). p.name) (part-Member at a access name)

  part-Call : (at : Place) (f : Expr) (xs : List Expr) → P (n.Call at f xs) ≡ step env here (Expr-F.Call at (P f) (map P xs))
  unfolding part
  part-Call at f xs = ap (fold-Expr Part (step env here)) (sym (n.rolls-Call at f xs)) ∙ fold-roll-Expr Part (step env here) (Expr-F.Call at f xs)

  pub expr-Call : (at : Place) (f : Expr) (xs : List Expr) (inside : Bool) (q : Parts) → expr env here (n.Call at f xs) inside q ≡ each (expr env here) (behind_format (is_text_at env here) (is_print env.scopes.names (name_of env here f)) xs) inside (expr env here f inside q)
  expr-Call at f xs inside q =
      ap (λ (p : Part). p.way inside q) (part-Call at f xs)
      ∙ ap (λ l. each (λ (p : Part). p.way) l inside (expr env here f inside q)) (behind_format_map (λ (p : Part). p.is_text) P (is_print env.scopes.names (name_of env here f)) xs)
      ∙ each_map (λ (p : Part). p.way) P (behind_format (is_text_at env here) (is_print env.scopes.names (name_of env here f)) xs) inside (expr env here f inside q)

  pub name-Call : (at : Place) (f : Expr) (xs : List Expr) → name_of env here (n.Call at f xs) ≡ None
  name-Call at f xs = ap (λ (p : Part). p.name) (part-Call at f xs)

  part-Postfix : (at : Place) (op : PostfixOp) (a : Expr) → P (n.Postfix at op a) ≡ step env here (Expr-F.Postfix at op (P a))
  unfolding part
  part-Postfix at op a = ap (fold-Expr Part (step env here)) (sym (n.rolls-Postfix at op a)) ∙ fold-roll-Expr Part (step env here) (Expr-F.Postfix at op a)

  pub expr-Postfix : (at : Place) (op : PostfixOp) (a : Expr) (inside : Bool) (q : Parts) → expr env here (n.Postfix at op a) inside q ≡ expr env here a inside q
  expr-Postfix at op a inside q = ap (λ (p : Part). p.way inside q) (part-Postfix at op a)

  pub name-Postfix : (at : Place) (op : PostfixOp) (a : Expr) → name_of env here (n.Postfix at op a) ≡ None
  name-Postfix at op a = ap (λ (p : Part). p.name) (part-Postfix at op a)

  part-Binary : (at : Place) (op : BinaryOp) (a b : Expr) → P (n.Binary at op a b) ≡ step env here (Expr-F.Binary at op (P a) (P b))
  unfolding part
  part-Binary at op a b = ap (fold-Expr Part (step env here)) (sym (n.rolls-Binary at op a b)) ∙ fold-roll-Expr Part (step env here) (Expr-F.Binary at op a b)

  pub expr-Binary : (at : Place) (op : BinaryOp) (a b : Expr) (inside : Bool) (q : Parts) → expr env here (n.Binary at op a b) inside q ≡ expr env here b inside (expr env here a inside q)
  expr-Binary at op a b inside q = ap (λ (p : Part). p.way inside q) (part-Binary at op a b)

  pub name-Binary : (at : Place) (op : BinaryOp) (a b : Expr) → name_of env here (n.Binary at op a b) ≡ None
  name-Binary at op a b = ap (λ (p : Part). p.name) (part-Binary at op a b)

  part-Iterator : (at : Place) (a b : Expr) → P (n.Iterator at a b) ≡ step env here (Expr-F.Iterator at (P a) (P b))
  unfolding part
  part-Iterator at a b = ap (fold-Expr Part (step env here)) (sym (n.rolls-Iterator at a b)) ∙ fold-roll-Expr Part (step env here) (Expr-F.Iterator at a b)

  pub expr-Iterator : (at : Place) (a b : Expr) (inside : Bool) (q : Parts) → expr env here (n.Iterator at a b) inside q ≡ expr env here b inside (expr env here a inside q)
  expr-Iterator at a b inside q = ap (λ (p : Part). p.way inside q) (part-Iterator at a b)

  pub name-Iterator : (at : Place) (a b : Expr) → name_of env here (n.Iterator at a b) ≡ None
  name-Iterator at a b = ap (λ (p : Part). p.name) (part-Iterator at a b)

  part-Assign : (at : Place) (op : AssignOp) (a b : Expr) → P (n.Assign at op a b) ≡ step env here (Expr-F.Assign at op (P a) (P b))
  unfolding part
  part-Assign at op a b = ap (fold-Expr Part (step env here)) (sym (n.rolls-Assign at op a b)) ∙ fold-roll-Expr Part (step env here) (Expr-F.Assign at op a b)

  pub expr-Assign : (at : Place) (op : AssignOp) (a b : Expr) (inside : Bool) (q : Parts) → expr env here (n.Assign at op a b) inside q ≡ expr env here b inside (expr env here a inside q)
  expr-Assign at op a b inside q = ap (λ (p : Part). p.way inside q) (part-Assign at op a b)

  pub name-Assign : (at : Place) (op : AssignOp) (a b : Expr) → name_of env here (n.Assign at op a b) ≡ None
  name-Assign at op a b = ap (λ (p : Part). p.name) (part-Assign at op a b)

  part-Sequence : (at : Place) (parts : List Expr) → P (n.Sequence at parts) ≡ step env here (Expr-F.Sequence at (map P parts))
  unfolding part
  part-Sequence at parts = ap (fold-Expr Part (step env here)) (sym (n.rolls-Sequence at parts)) ∙ fold-roll-Expr Part (step env here) (Expr-F.Sequence at parts)

  pub expr-Sequence : (at : Place) (parts : List Expr) (inside : Bool) (q : Parts) → expr env here (n.Sequence at parts) inside q ≡ each (expr env here) parts inside q
  expr-Sequence at parts inside q = ap (λ (p : Part). p.way inside q) (part-Sequence at parts) ∙ each_map (λ (p : Part). p.way) P parts inside q

  pub name-Sequence : (at : Place) (parts : List Expr) → name_of env here (n.Sequence at parts) ≡ None
  name-Sequence at parts = ap (λ (p : Part). p.name) (part-Sequence at parts)

  pub text-Number : (at : Place) (value : ℕ) → is_text_at env here (n.Number at value) ≡ false
  text-Number at value = ap (λ (p : Part). p.is_text) (part-Number at value)

  pub text-Char : (at : Place) (value : ℕ) → is_text_at env here (n.Char at value) ≡ false
  text-Char at value = ap (λ (p : Part). p.is_text) (part-Char at value)

  pub text-Text : (at : Place) (bytes : List ℕ) → is_text_at env here (n.Text at bytes) ≡ true
  text-Text at bytes = ap (λ (p : Part). p.is_text) (part-Text at bytes)

  pub text-Nil : (at : Place) → is_text_at env here (n.Nil at) ≡ false
  text-Nil at = ap (λ (p : Part). p.is_text) (part-Nil at)

  pub text-Name : (at : Place) (name : ℕ) → is_text_at env here (n.Name at name) ≡ false
  text-Name at name = ap (λ (p : Part). p.is_text) (part-Name at name)

  pub text-Tuple : (at : Place) (parts : List Expr) → is_text_at env here (n.Tuple at parts) ≡ false
  text-Tuple at parts = ap (λ (p : Part). p.is_text) (part-Tuple at parts)

  pub text-Unary : (at : Place) (op : UnaryOp) (a : Expr) → is_text_at env here (n.Unary at op a) ≡ false
  text-Unary at op a = ap (λ (p : Part). p.is_text) (part-Unary at op a)

  pub text-Cast : (at : Place) (to : TypeTree) (a : Expr) → is_text_at env here (n.Cast at to a) ≡ false
  text-Cast at to a = ap (λ (p : Part). p.is_text) (part-Cast at to a)

  pub text-SizeofType : (at : Place) (of : TypeTree) → is_text_at env here (n.SizeofType at of) ≡ false
  text-SizeofType at of = ap (λ (p : Part). p.is_text) (part-SizeofType at of)

  pub text-SizeofValue : (at : Place) (a : Expr) → is_text_at env here (n.SizeofValue at a) ≡ false
  text-SizeofValue at a = ap (λ (p : Part). p.is_text) (part-SizeofValue at a)

  pub text-Index : (at : Place) (a b : Expr) → is_text_at env here (n.Index at a b) ≡ false
  text-Index at a b = ap (λ (p : Part). p.is_text) (part-Index at a b)

  pub text-Member : (at : Place) (a : Expr) (access : Access) (name : Name) → is_text_at env here (n.Member at a access name) ≡ false
  text-Member at a access name = ap (λ (p : Part). p.is_text) (part-Member at a access name)

  pub text-Call : (at : Place) (f : Expr) (xs : List Expr) → is_text_at env here (n.Call at f xs) ≡ false
  text-Call at f xs = ap (λ (p : Part). p.is_text) (part-Call at f xs)

  pub text-Postfix : (at : Place) (op : PostfixOp) (a : Expr) → is_text_at env here (n.Postfix at op a) ≡ false
  text-Postfix at op a = ap (λ (p : Part). p.is_text) (part-Postfix at op a)

  pub text-Binary : (at : Place) (op : BinaryOp) (a b : Expr) → is_text_at env here (n.Binary at op a b) ≡ false
  text-Binary at op a b = ap (λ (p : Part). p.is_text) (part-Binary at op a b)

  pub text-Iterator : (at : Place) (a b : Expr) → is_text_at env here (n.Iterator at a b) ≡ false
  text-Iterator at a b = ap (λ (p : Part). p.is_text) (part-Iterator at a b)

  pub text-Assign : (at : Place) (op : AssignOp) (a b : Expr) → is_text_at env here (n.Assign at op a b) ≡ false
  text-Assign at op a b = ap (λ (p : Part). p.is_text) (part-Assign at op a b)

  pub text-Sequence : (at : Place) (parts : List Expr) → is_text_at env here (n.Sequence at parts) ≡ false
  text-Sequence at parts = ap (λ (p : Part). p.is_text) (part-Sequence at parts)

pub ruleset expr_is = (expr-Number, expr-Char, expr-Text, expr-Nil, expr-Name, expr-Tuple, expr-Unary, expr-Cast, expr-SizeofType, expr-SizeofValue, expr-Index, expr-Member, expr-Call, expr-Postfix, expr-Binary, expr-Iterator, expr-Assign, expr-Sequence)

pub ruleset name_is = (name-Number, name-Char, name-Text, name-Nil, name-Name, name-Tuple, name-Unary, name-Cast, name-SizeofType, name-SizeofValue, name-Index, name-Member, name-Call, name-Postfix, name-Binary, name-Iterator, name-Assign, name-Sequence)

pub ruleset text_is = (text-Number, text-Char, text-Text, text-Nil, text-Name, text-Tuple, text-Unary, text-Cast, text-SizeofType, text-SizeofValue, text-Index, text-Member, text-Call, text-Postfix, text-Binary, text-Iterator, text-Assign, text-Sequence)
