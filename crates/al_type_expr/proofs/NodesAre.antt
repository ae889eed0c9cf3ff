-- What each kind of node gives.
use Rattle.std.proofs.Common.{◌≡◌, ℕ, Bool, false, List, [], ◌∷◌, map, Some, None, refl, ap, ◌∙◌, sym}
use Rattle.al_base.specs.declared.place.Place.{Place}
use Rattle.al_rules.specs.Outcome.{Good, Bad, ask, and_then, pair}
use Rattle.al_tree.specs.declared.type_tree.TypeTree.{TypeTree}
use Rattle.al_tree.specs.declared.expression.Name.{Name}
use Rattle.al_tree.specs.declared.expression.UnaryOp.{UnaryOp as Prefix}
use Rattle.al_tree.specs.declared.expression.PostfixOp.{PostfixOp}
use Rattle.al_tree.specs.declared.expression.BinaryOp.{BinaryOp}
use Rattle.al_tree.specs.declared.expression.AssignOp.{AssignOp}
use Rattle.al_tree.specs.declared.expression.Access.{Access}
use Rattle.al_tree.specs.declared.expression.Expr.{Expr, out-Expr, roll-Expr, fold-Expr, fold-roll-Expr, map-Expr}
use Rattle.al_tree.specs.declared.expression.Expr.TheViews.{roll-out-Expr}
use Rattle.al_tree.specs.declared.expression.Expr.TheFolds.{fold_out-Expr}
use Rattle.al_tree.specs.declared.expression.Expr.TheVariants as n
use Rattle.al_tree.specs.declared.expression.Expr.TheOpen.{Expr-F}
use Rattle.al_scope.specs.Expressions.{place, place_at}
use Rattle.al_typed.specs.declared.ty.Ty.{Ty}
use Rattle.al_convert.specs.Same.{parts_of}
use Rattle.al_environment.specs.declared.environment.Environment.{Environment}
use Rattle.al_environment.specs.declared.environment.Here.{Here}
use Rattle.al_environment.specs.Firsts.{number_at}
use Rattle.al_environment.specs.Written.{written}
use Rattle.al_operators.specs.Operators.{binary}
use Rattle.al_places.specs.Places.{index}
use Rattle.al_type_nodes.specs.Uses.{sized}
use Rattle.al_type_nodes.specs.Names.{named}
use Rattle.al_type_calls.specs.Callees.{named_callee}
use Rattle.al_type_expr.specs.Leaves.{number, character, text_found, nil_found, iterator_found}
use Rattle.al_type_expr.specs.Lists.{columns, small_tuple, each, sequenced}
use Rattle.al_type_expr.specs.Parts.{gives, is_at, unary, postfix_found, cast_to, type_sized, member_found, member_callee}
use Rattle.al_type_expr.specs.Nodes.{Node, step, node, found, value_of, dropped_value, operand_of, dropped_of, aim, value_callee, nil_aim, tuple_target, assignment, called, format_call}

map-map : {A B C : Type 0} (f : A → B) (g : B → C) (xs : List A) → map g (map f xs) ≡ map (λ x. g (f x)) xs
map-map f g [] = refl
map-map f g (x ∷ xs) = ap (λ ys. g (f x) ∷ ys) (map-map f g xs)

-- a tree by its outermost layer
rolled : (e : Expr) (layer : Expr-F Expr) → out-Expr e ≡ layer → e ≡ roll-Expr layer
rolled e layer q = sym (roll-out-Expr e) ∙ ap roll-Expr q

module _ (env : Environment) (here : Here) where
  node-Number : (at : Place) (value : ℕ) → node env here (n.Number at value) ≡ step env here (Expr-F.Number at value)
  unfolding node
  node-Number at value = ap (fold-Expr Node (step env here)) (sym (n.rolls-Number at value)) ∙ fold-roll-Expr Node (step env here) (Expr-F.Number at value)

  node-Char : (at : Place) (value : ℕ) → node env here (n.Char at value) ≡ step env here (Expr-F.Char at value)
  unfolding node
  node-Char at value = ap (fold-Expr Node (step env here)) (sym (n.rolls-Char at value)) ∙ fold-roll-Expr Node (step env here) (Expr-F.Char at value)

  node-Text : (at : Place) (bytes : List ℕ) → node env here (n.Text at bytes) ≡ step env here (Expr-F.Text at bytes)
  unfolding node
  node-Text at bytes = ap (fold-Expr Node (step env here)) (sym (n.rolls-Text at bytes)) ∙ fold-roll-Expr Node (step env here) (Expr-F.Text at bytes)

  node-Nil : (at : Place) → node env here (n.Nil at) ≡ step env here (Expr-F.Nil at)
  unfolding node
  node-Nil at = ap (fold-Expr Node (step env here)) (sym (n.rolls-Nil at)) ∙ fold-roll-Expr Node (step env here) (Expr-F.Nil at)

  node-Name : (at : Place) (name : ℕ) → node env here (n.Name at name) ≡ step env here (Expr-F.Name at name)
  unfolding node
  node-Name at name = ap (fold-Expr Node (step env here)) (sym (n.rolls-Name at name)) ∙ fold-roll-Expr Node (step env here) (Expr-F.Name at name)

  node-Tuple : (at : Place) (parts : List Expr) → node env here (n.Tuple at parts) ≡ step env here (Expr-F.Tuple at (map (node env here) parts))
  unfolding node
  node-Tuple at parts = ap (fold-Expr Node (step env here)) (sym (n.rolls-Tuple at parts)) ∙ fold-roll-Expr Node (step env here) (Expr-F.Tuple at parts)

  node-Unary : (at : Place) (op : Prefix) (a : Expr) → node env here (n.Unary at op a) ≡ step env here (Expr-F.Unary at op (node env here a))
  unfolding node
  node-Unary at op a = ap (fold-Expr Node (step env here)) (sym (n.rolls-Unary at op a)) ∙ fold-roll-Expr Node (step env here) (Expr-F.Unary at op a)

  node-Cast : (at : Place) (to : TypeTree) (a : Expr) → node env here (n.Cast at to a) ≡ step env here (Expr-F.Cast at to (node env here a))
  unfolding node
  node-Cast at to a = ap (fold-Expr Node (step env here)) (sym (n.rolls-Cast at to a)) ∙ fold-roll-Expr Node (step env here) (Expr-F.Cast at to a)

  node-SizeofType : (at : Place) (of : TypeTree) → node env here (n.SizeofType at of) ≡ step env here (Expr-F.SizeofType at of)
  unfolding node
  node-SizeofType at of = ap (fold-Expr Node (step env here)) (sym (n.rolls-SizeofType at of)) ∙ fold-roll-Expr Node (step env here) (Expr-F.SizeofType at of)

  node-SizeofValue : (at : Place) (a : Expr) → node env here (n.SizeofValue at a) ≡ step env here (Expr-F.SizeofValue at (node env here a))
  unfolding node
  node-SizeofValue at a = ap (fold-Expr Node (step env here)) (sym (n.rolls-SizeofValue at a)) ∙ fold-roll-Expr Node (step env here) (Expr-F.SizeofValue at a)

  node-Index : (at : Place) (a b : Expr) → node env here (n.Index at a b) ≡ step env here (Expr-F.Index at (node env here a) (node env here b))
  unfolding node
  node-Index at a b = ap (fold-Expr Node (step env here)) (sym (n.rolls-Index at a b)) ∙ fold-roll-Expr Node (step env here) (Expr-F.Index at a b)

  node-Member : (at : Place) (a : Expr) (how : Access) (name : Name) → node env here (n.Member at a how name) ≡ step env here (Expr-F.Member at (node env here a) how name)
  unfolding node
  node-Member at a how name = ap (fold-Expr Node (step env here)) (sym (n.rolls-Member at a how name)) ∙ fold-roll-Expr Node (step env here) (Expr-F.Member at a how name)

  node-Call : (at : Place) (f : Expr) (xs : List Expr) → node env here (n.Call at f xs) ≡ step env here (Expr-F.Call at (node env here f) (map (node env here) xs))
  unfolding node
  node-Call at f xs = ap (fold-Expr Node (step env here)) (sym (n.rolls-Call at f xs)) ∙ fold-roll-Expr Node (step env here) (Expr-F.Call at f xs)

  node-Postfix : (at : Place) (op : PostfixOp) (a : Expr) → node env here (n.Postfix at op a) ≡ step env here (Expr-F.Postfix at op (node env here a))
  unfolding node
  node-Postfix at op a = ap (fold-Expr Node (step env here)) (sym (n.rolls-Postfix at op a)) ∙ fold-roll-Expr Node (step env here) (Expr-F.Postfix at op a)

  node-Binary : (at : Place) (op : BinaryOp) (a b : Expr) → node env here (n.Binary at op a b) ≡ step env here (Expr-F.Binary at op (node env here a) (node env here b))
  unfolding node
  node-Binary at op a b = ap (fold-Expr Node (step env here)) (sym (n.rolls-Binary at op a b)) ∙ fold-roll-Expr Node (step env here) (Expr-F.Binary at op a b)

  node-Iterator : (at : Place) (a b : Expr) → node env here (n.Iterator at a b) ≡ step env here (Expr-F.Iterator at (node env here a) (node env here b))
  unfolding node
  node-Iterator at a b = ap (fold-Expr Node (step env here)) (sym (n.rolls-Iterator at a b)) ∙ fold-roll-Expr Node (step env here) (Expr-F.Iterator at a b)

  node-Assign : (at : Place) (op : AssignOp) (a b : Expr) → node env here (n.Assign at op a b) ≡ step env here (Expr-F.Assign at op (node env here a) (node env here b))
  unfolding node
  node-Assign at op a b = ap (fold-Expr Node (step env here)) (sym (n.rolls-Assign at op a b)) ∙ fold-roll-Expr Node (step env here) (Expr-F.Assign at op a b)

  node-Sequence : (at : Place) (parts : List Expr) → node env here (n.Sequence at parts) ≡ step env here (Expr-F.Sequence at (map (node env here) parts))
  unfolding node
  node-Sequence at parts = ap (fold-Expr Node (step env here)) (sym (n.rolls-Sequence at parts)) ∙ fold-roll-Expr Node (step env here) (Expr-F.Sequence at parts)

  -- the operands of arguments
  pub operands_are : (xs : List Expr) → map (operand_of env) (map (node env here) xs) ≡ map (value_of env here) xs
  operands_are xs = map-map (node env here) (operand_of env) xs

  -- ---- what a node is

  pub found-Number : (at : Place) (value : ℕ) → found env here (n.Number at value) ≡ Good (number value)
  found-Number at value = ap (λ (m : Node). m.found) (node-Number at value)

  pub found-Char : (at : Place) (value : ℕ) → found env here (n.Char at value) ≡ Good (character value)
  found-Char at value = ap (λ (m : Node). m.found) (node-Char at value)

  pub found-Text : (at : Place) (bytes : List ℕ) → found env here (n.Text at bytes) ≡ text_found at (number_at here.texts at)
  found-Text at bytes = ap (λ (m : Node). m.found) (node-Text at bytes)

  pub found-Nil : (at : Place) → found env here (n.Nil at) ≡ Good (nil_found at)
  found-Nil at = ap (λ (m : Node). m.found) (node-Nil at)

  pub found-Name : (at : Place) (name : ℕ) → found env here (n.Name at name) ≡ named env here at
  found-Name at name = ap (λ (m : Node). m.found) (node-Name at name)

  pub found-Tuple : (at : Place) (parts : List Expr) → found env here (n.Tuple at parts) ≡ and_then (columns (map (value_of env here) parts)) (small_tuple env.aggregates at)
  found-Tuple at parts = ap (λ (m : Node). m.found) (node-Tuple at parts) ∙ ap (λ l. and_then (columns l) (small_tuple env.aggregates at)) (operands_are parts)

  pub found-Unary : (at : Place) (op : Prefix) (a : Expr) → found env here (n.Unary at op a) ≡ and_then (found env here a) (unary env.aggregates at op (node env here a).at)
  found-Unary at op a = ap (λ (m : Node). m.found) (node-Unary at op a)

  pub found-Cast : (at : Place) (to : TypeTree) (a : Expr) → found env here (n.Cast at to a) ≡ gives (and_then (found env here a) (cast_to env.aggregates at (written env here to) (node env here a).at))
  found-Cast at to a = ap (λ (m : Node). m.found) (node-Cast at to a)

  pub found-SizeofType : (at : Place) (of : TypeTree) → found env here (n.SizeofType at of) ≡ gives (type_sized env.aggregates at (written env here of))
  found-SizeofType at of = ap (λ (m : Node). m.found) (node-SizeofType at of)

  pub found-SizeofValue : (at : Place) (a : Expr) → found env here (n.SizeofValue at a) ≡ gives (and_then (found env here a) (sized env.aggregates at))
  found-SizeofValue at a = ap (λ (m : Node). m.found) (node-SizeofValue at a)

  pub found-Index : (at : Place) (a b : Expr) → found env here (n.Index at a b) ≡ is_at (and_then (pair (value_of env here a) (value_of env here b)) (λ p. index env.aggregates at p.0 p.1))
  found-Index at a b = ap (λ (m : Node). m.found) (node-Index at a b)

  pub found-Member : (at : Place) (a : Expr) (how : Access) (name : Name) → found env here (n.Member at a how name) ≡ and_then (found env here a) (member_found env here at how name.name (node env here a).at)
  found-Member at a how name = ap (λ (m : Node). m.found) (node-Member at a how name)

  pub found-Call : (at : Place) (f : Expr) (xs : List Expr) → found env here (n.Call at f xs) ≡ gives (and_then (node env here f).callee (called env at (map (node env here) xs)))
  found-Call at f xs = ap (λ (m : Node). m.found) (node-Call at f xs)

  pub found-Postfix : (at : Place) (op : PostfixOp) (a : Expr) → found env here (n.Postfix at op a) ≡ and_then (found env here a) (postfix_found env.aggregates at op (node env here a).at)
  found-Postfix at op a = ap (λ (m : Node). m.found) (node-Postfix at op a)

  pub found-Binary : (at : Place) (op : BinaryOp) (a b : Expr) → found env here (n.Binary at op a b) ≡ gives (and_then (pair (value_of env here a) (value_of env here b)) (λ p. binary env.aggregates at op p.0 p.1))
  found-Binary at op a b = ap (λ (m : Node). m.found) (node-Binary at op a b)

  pub found-Iterator : (at : Place) (a b : Expr) → found env here (n.Iterator at a b) ≡ iterator_found at (number_at here.iterators at)
  found-Iterator at a b = ap (λ (m : Node). m.found) (node-Iterator at a b)

  pub found-Assign : (at : Place) (op : AssignOp) (a b : Expr) → found env here (n.Assign at op a b) ≡ gives (assignment env at op (node env here a) (node env here b))
  found-Assign at op a b = ap (λ (m : Node). m.found) (node-Assign at op a b)

  pub found-Sequence : (at : Place) (parts : List Expr) → found env here (n.Sequence at parts) ≡ gives (and_then (each (map (dropped_value env here) parts)) (sequenced at))
  found-Sequence at parts = ap (λ (m : Node). m.found) (node-Sequence at parts) ∙ ap (λ l. gives (and_then (each l) (sequenced at))) (map-map (node env here) (dropped_of env) parts)

  -- ---- where it stands

  place_step : (layer : Expr-F Expr) → (step env here (map-Expr Expr Node (node env here) layer)).at ≡ place_at layer
  place_step (Expr-F.Number at value) = refl
  place_step (Expr-F.Char at value) = refl
  place_step (Expr-F.Text at bytes) = refl
  place_step (Expr-F.Nil at) = refl
  place_step (Expr-F.Name at name) = refl
  place_step (Expr-F.Tuple at parts) = refl
  place_step (Expr-F.Unary at op a) = refl
  place_step (Expr-F.Cast at to a) = refl
  place_step (Expr-F.SizeofType at of) = refl
  place_step (Expr-F.SizeofValue at a) = refl
  place_step (Expr-F.Index at a b) = refl
  place_step (Expr-F.Member at a how name) = refl
  place_step (Expr-F.Call at f xs) = refl
  place_step (Expr-F.Postfix at op a) = refl
  place_step (Expr-F.Binary at op a b) = refl
  place_step (Expr-F.Iterator at a b) = refl
  place_step (Expr-F.Assign at op a b) = refl
  place_step (Expr-F.Sequence at parts) = refl

  pub place-is : (e : Expr) → (node env here e).at ≡ place e
  unfolding node place
  place-is e = ap (λ (m : Node). m.at) (fold_out-Expr Node (step env here) e) ∙ place_step (out-Expr e)

  -- ---- what it is where it is called

  pub callee-Name : (at : Place) (name : ℕ) → (node env here (n.Name at name)).callee ≡ named_callee env here at
  callee-Name at name = ap (λ (m : Node). m.callee) (node-Name at name)

  pub callee-Member : (at : Place) (a : Expr) (how : Access) (name : Name) → (node env here (n.Member at a how name)).callee ≡ and_then (found env here a) (member_callee env here at how name.name (node env here a).at)
  callee-Member at a how name = ap (λ (m : Node). m.callee) (node-Member at a how name)

  callee_step : (layer : Expr-F Expr) → ((at : Place) (name : ℕ) → layer ≡ Expr-F.Name at name → ⊥) → ((at : Place) (a : Expr) (how : Access) (name : Name) → layer ≡ Expr-F.Member at a how name → ⊥)
      → (step env here (map-Expr Expr Node (node env here) layer)).callee ≡ value_callee env (place_at layer) (step env here (map-Expr Expr Node (node env here) layer)).found
  callee_step (Expr-F.Number at value) h i = refl
  callee_step (Expr-F.Char at value) h i = refl
  callee_step (Expr-F.Text at bytes) h i = refl
  callee_step (Expr-F.Nil at) h i = refl
  callee_step (Expr-F.Name at name) h i = absurd (h at name refl)
  callee_step (Expr-F.Tuple at parts) h i = refl
  callee_step (Expr-F.Unary at op a) h i = refl
  callee_step (Expr-F.Cast at to a) h i = refl
  callee_step (Expr-F.SizeofType at of) h i = refl
  callee_step (Expr-F.SizeofValue at a) h i = refl
  callee_step (Expr-F.Index at a b) h i = refl
  callee_step (Expr-F.Member at a how name) h i = absurd (i at a how name refl)
  callee_step (Expr-F.Call at f xs) h i = refl
  callee_step (Expr-F.Postfix at op a) h i = refl
  callee_step (Expr-F.Binary at op a b) h i = refl
  callee_step (Expr-F.Iterator at a b) h i = refl
  callee_step (Expr-F.Assign at op a b) h i = refl
  callee_step (Expr-F.Sequence at parts) h i = refl

  pub callee_else : (e : Expr) → ((at : Place) (name : ℕ) → e ≡ n.Name at name → ⊥) → ((at : Place) (a : Expr) (how : Access) (name : Name) → e ≡ n.Member at a how name → ⊥)
      → (node env here e).callee ≡ value_callee env (place e) (found env here e)
  unfolding node place
  callee_else e h i =
      ap (λ (m : Node). m.callee) (fold_out-Expr Node (step env here) e)
      ∙ callee_step (out-Expr e) (λ at name q. h at name (rolled e (Expr-F.Name at name) q ∙ n.rolls-Name at name)) (λ at a how name q. i at a how name (rolled e (Expr-F.Member at a how name) q ∙ n.rolls-Member at a how name))
      ∙ ap (λ (m : Node). value_callee env (place_at (out-Expr e)) m.found) (sym (fold_out-Expr Node (step env here) e))

  -- ---- what it is on the left of `=`

  pub target-Nil : (at : Place) (is_part : Bool) (by : Place) (t : Ty) → (node env here (n.Nil at)).target is_part by t ≡ nil_aim is_part by t
  target-Nil at is_part by t = ap (λ (m : Node). m.target is_part by t) (node-Nil at)

  pub target-Tuple : (at : Place) (parts : List Expr) (is_part : Bool) (by : Place) (t : Ty) → (node env here (n.Tuple at parts)).target is_part by t ≡ tuple_target env.aggregates by (map (node env here) parts) (parts_of t)
  target-Tuple at parts is_part by t = ap (λ (m : Node). m.target is_part by t) (node-Tuple at parts)

  target_step : (layer : Expr-F Expr) → ((at : Place) → layer ≡ Expr-F.Nil at → ⊥) → ((at : Place) (parts : List Expr) → layer ≡ Expr-F.Tuple at parts → ⊥) → (is_part : Bool) (by : Place) (t : Ty)
      → (step env here (map-Expr Expr Node (node env here) layer)).target is_part by t ≡ aim (step env here (map-Expr Expr Node (node env here) layer)).found is_part by t
  target_step (Expr-F.Number at value) h i is_part by t = refl
  target_step (Expr-F.Char at value) h i is_part by t = refl
  target_step (Expr-F.Text at bytes) h i is_part by t = refl
  target_step (Expr-F.Nil at) h i is_part by t = absurd (h at refl)
  target_step (Expr-F.Name at name) h i is_part by t = refl
  target_step (Expr-F.Tuple at parts) h i is_part by t = absurd (i at parts refl)
  target_step (Expr-F.Unary at op a) h i is_part by t = refl
  target_step (Expr-F.Cast at to a) h i is_part by t = refl
  target_step (Expr-F.SizeofType at of) h i is_part by t = refl
  target_step (Expr-F.SizeofValue at a) h i is_part by t = refl
  target_step (Expr-F.Index at a b) h i is_part by t = refl
  target_step (Expr-F.Member at a how name) h i is_part by t = refl
  target_step (Expr-F.Call at f xs) h i is_part by t = refl
  target_step (Expr-F.Postfix at op a) h i is_part by t = refl
  target_step (Expr-F.Binary at op a b) h i is_part by t = refl
  target_step (Expr-F.Iterator at a b) h i is_part by t = refl
  target_step (Expr-F.Assign at op a b) h i is_part by t = refl
  target_step (Expr-F.Sequence at parts) h i is_part by t = refl

  pub target_else : (e : Expr) (is_part : Bool) (by : Place) (t : Ty) → ((at : Place) → e ≡ n.Nil at → ⊥) → ((at : Place) (parts : List Expr) → e ≡ n.Tuple at parts → ⊥)
      → (node env here e).target is_part by t ≡ aim (found env here e) is_part by t
  unfolding node
  target_else e is_part by t h i =
      ap (λ (m : Node). m.target is_part by t) (fold_out-Expr Node (step env here) e)
      ∙ target_step (out-Expr e) (λ at q. h at (rolled e (Expr-F.Nil at) q ∙ n.rolls-Nil at)) (λ at parts q. i at parts (rolled e (Expr-F.Tuple at parts) q ∙ n.rolls-Tuple at parts)) is_part by t
      ∙ ap (λ (m : Node). aim m.found is_part by t) (sym (fold_out-Expr Node (step env here) e))

  -- ---- the bytes of a string constant

  pub text-Text : (at : Place) (bytes : List ℕ) → (node env here (n.Text at bytes)).text ≡ Some bytes
  text-Text at bytes = ap (λ (m : Node). m.text) (node-Text at bytes)

  text_step : (layer : Expr-F Expr) → ((at : Place) (bytes : List ℕ) → layer ≡ Expr-F.Text at bytes → ⊥) → (step env here (map-Expr Expr Node (node env here) layer)).text ≡ None
  text_step (Expr-F.Number at value) h = refl
  text_step (Expr-F.Char at value) h = refl
  text_step (Expr-F.Text at bytes) h = absurd (h at bytes refl)
  text_step (Expr-F.Nil at) h = refl
  text_step (Expr-F.Name at name) h = refl
  text_step (Expr-F.Tuple at parts) h = refl
  text_step (Expr-F.Unary at op a) h = refl
  text_step (Expr-F.Cast at to a) h = refl
  text_step (Expr-F.SizeofType at of) h = refl
  text_step (Expr-F.SizeofValue at a) h = refl
  text_step (Expr-F.Index at a b) h = refl
  text_step (Expr-F.Member at a how name) h = refl
  text_step (Expr-F.Call at f xs) h = refl
  text_step (Expr-F.Postfix at op a) h = refl
  text_step (Expr-F.Binary at op a b) h = refl
  text_step (Expr-F.Iterator at a b) h = refl
  text_step (Expr-F.Assign at op a b) h = refl
  text_step (Expr-F.Sequence at parts) h = refl

  pub text_else : (e : Expr) → ((at : Place) (bytes : List ℕ) → e ≡ n.Text at bytes → ⊥) → (node env here e).text ≡ None
  unfolding node
  text_else e h =
      ap (λ (m : Node). m.text) (fold_out-Expr Node (step env here) e)
      ∙ text_step (out-Expr e) (λ at bytes q. h at bytes (rolled e (Expr-F.Text at bytes) q ∙ n.rolls-Text at bytes))

-- a print without a format
pub format_none : (env : Environment) (at : Place) (ns : List Node) → format_call env at None ns ≡ Bad (ask 36 at false)
unfolding format_call
format_none env at ns = refl

pub ruleset leaves_are = (found-Number, found-Char, found-Text, found-Nil, found-Name, found-SizeofType, found-Iterator)

pub ruleset tuple_node_is = (found-Tuple)

pub ruleset unary_node_is = (found-Unary, place-is)

pub ruleset cast_node_is = (found-Cast, place-is)

pub ruleset sizeof_node_is = (found-SizeofValue)

pub ruleset index_node_is = (found-Index)

pub ruleset member_node_is = (found-Member, place-is)

pub ruleset call_node_is = (found-Call)

pub ruleset postfix_node_is = (found-Postfix, place-is)

pub ruleset binary_node_is = (found-Binary)

pub ruleset assign_node_is = (found-Assign)

pub ruleset sequence_node_is = (found-Sequence)

pub ruleset place_is = (place-is)

pub ruleset callee_is = (callee-Name, callee-Member, callee_else, place-is)

pub ruleset target_is = (target-Nil, target-Tuple, target_else)

pub ruleset text_is = (text-Text, text_else, format_none)
