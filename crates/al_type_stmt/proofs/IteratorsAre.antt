-- The iterators in each kind of expression.
use Rattle.std.proofs.Common.{◌≡◌, ℕ, List, [], ◌∷◌, ◌++◌, map, refl, ap, ◌∙◌, sym}
use Rattle.std.specs.List.{flat_map}
use Rattle.al_base.specs.declared.place.Place.{Place}
use Rattle.al_tree.specs.declared.type_tree.TypeTree.{TypeTree}
use Rattle.al_tree.specs.declared.expression.Name.{Name}
use Rattle.al_tree.specs.declared.expression.UnaryOp.{UnaryOp}
use Rattle.al_tree.specs.declared.expression.PostfixOp.{PostfixOp}
use Rattle.al_tree.specs.declared.expression.BinaryOp.{BinaryOp}
use Rattle.al_tree.specs.declared.expression.AssignOp.{AssignOp}
use Rattle.al_tree.specs.declared.expression.Access.{Access}
use Rattle.al_tree.specs.declared.expression.Expr.{Expr, para-Expr, para-roll-Expr}
use Rattle.al_tree.specs.declared.expression.Expr.TheVariants as n
use Rattle.al_tree.specs.declared.expression.Expr.TheOpen.{Expr-F}
use Rattle.al_environment.specs.declared.environment.Environment.{Environment}
use Rattle.al_environment.specs.declared.environment.Here.{Here}
use Rattle.al_type_stmt.specs.Iterators.{Spread, spread, step, iterators}

-- a list with what was found in each
flat_map-pairs : {A B : Type 0} (f : A → List B) (xs : List A) → flat_map (λ (p : A × List B). p.1) (map (λ x. (x, f x)) xs) ≡ flat_map f xs
flat_map-pairs f [] = refl
flat_map-pairs f (x ∷ xs) = ap (λ l. f x ++ l) (flat_map-pairs f xs)

module _ (env : Environment) (here : Here) where
  abbrev I : Expr → List Spread
  I = iterators env here

  pub in-Number : (at : Place) (value : ℕ) → I (n.Number at value) ≡ []
  unfolding iterators
  in-Number at value =
      ap (para-Expr (List Spread) (step env here)) (sym (n.rolls-Number at value))
      ∙ para-roll-Expr (List Spread) (step env here) (Expr-F.Number at value)

  pub in-Char : (at : Place) (value : ℕ) → I (n.Char at value) ≡ []
  unfolding iterators
  in-Char at value =
      ap (para-Expr (List Spread) (step env here)) (sym (n.rolls-Char at value))
      ∙ para-roll-Expr (List Spread) (step env here) (Expr-F.Char at value)

  pub in-Text : (at : Place) (bytes : List ℕ) → I (n.Text at bytes) ≡ []
  unfolding iterators
  in-Text at bytes =
      ap (para-Expr (List Spread) (step env here)) (sym (n.rolls-Text at bytes))
      ∙ para-roll-Expr (List Spread) (step env here) (Expr-F.Text at bytes)

  pub in-Nil : (at : Place) → I (n.Nil at) ≡ []
  unfolding iterators
  in-Nil at =
      ap (para-Expr (List Spread) (step env here)) (sym (n.rolls-Nil at))
      ∙ para-roll-Expr (List Spread) (step env here) (Expr-F.Nil at)

  pub in-Name : (at : Place) (name : ℕ) → I (n.Name at name) ≡ []
  unfolding iterators
  in-Name at name =
      ap (para-Expr (List Spread) (step env here)) (sym (n.rolls-Name at name))
      ∙ para-roll-Expr (List Spread) (step env here) (Expr-F.Name at name)

  pub in-Tuple : (at : Place) (xs : List Expr) → I (n.Tuple at xs) ≡ flat_map I xs
  unfolding iterators
  in-Tuple at xs =
      ap (para-Expr (List Spread) (step env here)) (sym (n.rolls-Tuple at xs))
      ∙ para-roll-Expr (List Spread) (step env here) (Expr-F.Tuple at xs)
      ∙ flat_map-pairs I xs

  pub in-Unary : (at : Place) (op : UnaryOp) (a : Expr) → I (n.Unary at op a) ≡ I a
  unfolding iterators
  in-Unary at op a =
      ap (para-Expr (List Spread) (step env here)) (sym (n.rolls-Unary at op a))
      ∙ para-roll-Expr (List Spread) (step env here) (Expr-F.Unary at op a)

  pub in-Cast : (at : Place) (to : TypeTree) (a : Expr) → I (n.Cast at to a) ≡ I a
  unfolding iterators
  in-Cast at to a =
      ap (para-Expr (List Spread) (step env here)) (sym (n.rolls-Cast at to a))
      ∙ para-roll-Expr (List Spread) (step env here) (Expr-F.Cast at to a)

  pub in-SizeofType : (at : Place) (of : TypeTree) → I (n.SizeofType at of) ≡ []
  unfolding iterators
  in-SizeofType at of =
      ap (para-Expr (List Spread) (step env here)) (sym (n.rolls-SizeofType at of))
      ∙ para-roll-Expr (List Spread) (step env here) (Expr-F.SizeofType at of)

  pub in-SizeofValue : (at : Place) (a : Expr) → I (n.SizeofValue at a) ≡ I a
  unfolding iterators
  in-SizeofValue at a =
      ap (para-Expr (List Spread) (step env here)) (sym (n.rolls-SizeofValue at a))
      ∙ para-roll-Expr (List Spread) (step env here) (Expr-F.SizeofValue at a)

  pub in-Index : (at : Place) (a b : Expr) → I (n.Index at a b) ≡ I a ++ I b
  unfolding iterators
  in-Index at a b =
      ap (para-Expr (List Spread) (step env here)) (sym (n.rolls-Index at a b))
      ∙ para-roll-Expr (List Spread) (step env here) (Expr-F.Index at a b)

  pub in-Member : (at : Place) (a : Expr) (how : Access) (name : Name) → I (n.Member at a how name) ≡ I a
  unfolding iterators
  in-Member at a how name =
      ap (para-Expr (List Spread) (step env here)) (sym (n.rolls-Member at a how name))
      ∙ para-roll-Expr (List Spread) (step env here) (Expr-F.Member at a how name)

  pub in-Call : (at : Place) (f : Expr) (xs : List Expr) → I (n.Call at f xs) ≡ I f ++ flat_map I xs
  unfolding iterators
  in-Call at f xs =
      ap (para-Expr (List Spread) (step env here)) (sym (n.rolls-Call at f xs))
      ∙ para-roll-Expr (List Spread) (step env here) (Expr-F.Call at f xs)
      ∙ ap (λ l. I f ++ l) (flat_map-pairs I xs)

  pub in-Postfix : (at : Place) (op : PostfixOp) (a : Expr) → I (n.Postfix at op a) ≡ I a
  unfolding iterators
  in-Postfix at op a =
      ap (para-Expr (List Spread) (step env here)) (sym (n.rolls-Postfix at op a))
      ∙ para-roll-Expr (List Spread) (step env here) (Expr-F.Postfix at op a)

  pub in-Binary : (at : Place) (op : BinaryOp) (a b : Expr) → I (n.Binary at op a b) ≡ I a ++ I b
  unfolding iterators
  in-Binary at op a b =
      ap (para-Expr (List Spread) (step env here)) (sym (n.rolls-Binary at op a b))
      ∙ para-roll-Expr (List Spread) (step env here) (Expr-F.Binary at op a b)

  pub in-Iterator : (at : Place) (a b : Expr) → I (n.Iterator at a b) ≡ spread env here at a b ∷ []
  unfolding iterators
  in-Iterator at a b =
      ap (para-Expr (List Spread) (step env here)) (sym (n.rolls-Iterator at a b))
      ∙ para-roll-Expr (List Spread) (step env here) (Expr-F.Iterator at a b)

  pub in-Assign : (at : Place) (op : AssignOp) (a b : Expr) → I (n.Assign at op a b) ≡ I a ++ I b
  unfolding iterators
  in-Assign at op a b =
      ap (para-Expr (List Spread) (step env here)) (sym (n.rolls-Assign at op a b))
      ∙ para-roll-Expr (List Spread) (step env here) (Expr-F.Assign at op a b)

  pub in-Sequence : (at : Place) (xs : List Expr) → I (n.Sequence at xs) ≡ flat_map I xs
  unfolding iterators
  in-Sequence at xs =
      ap (para-Expr (List Spread) (step env here)) (sym (n.rolls-Sequence at xs))
      ∙ para-roll-Expr (List Spread) (step env here) (Expr-F.Sequence at xs)
      ∙ flat_map-pairs I xs

pub ruleset iterators_are = (in-Number, in-Char, in-Text, in-Nil, in-Name, in-Tuple, in-Unary, in-Cast, in-SizeofType, in-SizeofValue, in-Index, in-Member, in-Call, in-Postfix, in-Binary, in-Iterator, in-Assign, in-Sequence)
