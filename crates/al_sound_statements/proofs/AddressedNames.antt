-- An expression whose address is taken is a local only where it is the name of one.
use Rattle.std.proofs.Common.{◌≡◌, ℕ, Bool, false, List, map, Option, Some, None, refl, sym, ◌∙◌, subst}
use Rattle.std.specs.Prelude.{slice_get}
use Rattle.al_base.specs.declared.place.Place.{Place}
use Rattle.al_rules.specs.Outcome.{Outcome, Good, Bad, and_then}
use Rattle.al_tree.specs.declared.integer.Integer.{Integer}
use Rattle.al_tree.specs.declared.constants.EnumConstant.{EnumConstant}
use Rattle.al_tree.specs.declared.expression.Access.{Access}
use Rattle.al_tree.specs.declared.expression.Access.TheVariants as access
use Rattle.al_tree.specs.declared.expression.PostfixOp.{PostfixOp}
use Rattle.al_tree.specs.declared.expression.PostfixOp.TheVariants as postfix
use Rattle.al_tree.specs.declared.expression.UnaryOp.{UnaryOp}
use Rattle.al_tree.specs.declared.expression.UnaryOp.TheVariants as prefix
use Rattle.al_tree.specs.declared.expression.Expr.{Expr, fold-roll-Expr, map-Expr, roll-Expr}
use Rattle.al_tree.specs.declared.expression.Expr.TheViews.{out-Expr, roll-out-Expr}
use Rattle.al_tree.specs.declared.expression.Expr.TheOpen.{Expr-F}
use Rattle.al_tree_walks.specs.Expressions.{Addressed, addressed, addressed_step, behind}
use Rattle.al_scope.specs.declared.declaration.Declaration.{Declaration}
use Rattle.al_scope.specs.declared.declaration.Declaration.TheVariants as declaration
use Rattle.al_scope.specs.Firsts.{declaration_at}
use Rattle.al_typed.specs.declared.program.Aggregate.{Aggregate as AggregateRow}
use Rattle.al_typed.specs.declared.ty.Ty.{Ty}
use Rattle.al_typed.specs.declared.expression.TExpr.{TExpr}
use Rattle.al_typed.specs.declared.expression.TPlace.{TPlace}
use Rattle.al_typed.specs.declared.expression.TPlace.TheVariants as place
use Rattle.al_typed.specs.Typed.{place_type, type_of}
use Rattle.al_typed.specs.WellTyped.{HasAddress, IsSharedLocal, Scope}
use Rattle.al_convert.specs.Same.{pointed}
use Rattle.al_environment.specs.declared.environment.Environment.{Environment}
use Rattle.al_environment.specs.declared.environment.Here.{Here}
use Rattle.al_environment.specs.declared.environment.NamedFunction.{NamedFunction}
use Rattle.al_environment.specs.declared.environment.NamedMember.{NamedMember}
use Rattle.al_environment.specs.declared.environment.Round.{Round}
use Rattle.al_environment.specs.declared.environment.Signature.{Signature}
use Rattle.al_environment.specs.declared.environment.Variable.{Variable as Known}
use Rattle.al_environment.specs.Firsts.{number_at}
use Rattle.al_environment.specs.Lookups.{function, global, local, round}
use Rattle.al_operands.specs.declared.operand.Operand.{Operand}
use Rattle.al_operands.specs.Operands.{plain, plains}
use Rattle.al_places.specs.Places.{element, index, indexed, indirection, pointed_by, pointed_node}
use Rattle.al_type_nodes.specs.declared.found.Found.{Found}
use Rattle.al_type_nodes.specs.declared.found.Found.TheVariants as found_as
use Rattle.al_type_nodes.specs.Uses.{operand, place_of, value}
use Rattle.al_type_nodes.specs.Names.{constant_found, declared, declared_as, defined_function, function_found, function_value, global_found, integer_found, local_found, outer_found, round_found}
use Rattle.al_type_nodes.specs.Members.{arrow, arrow_value, dot, dot_operand, dot_value, function_in, member_behind, member_in, member_of_place, member_of_value, place_dot, place_member, pointed_member, value_arrow, value_dot, whole}
use Rattle.al_type_expr.specs.declared.columns.Columns.{Columns}
use Rattle.al_type_expr.specs.Leaves.{character, iterator_found, nil_found, number, text_found}
use Rattle.al_type_expr.specs.Lists.{columns, small_tuple, tuple}
use Rattle.al_type_expr.specs.Nodes.{Node, node, operand_of, step}
use Rattle.al_type_expr.specs.Parts.{gives, is_at, member_found, postfix_found, unary}
use Rattle.al_sound_operators.specs.Typed.{IfGood}
use Rattle.al_sound_nodes.specs.Nodes.{IsShared}
use Rattle.al_sound_expressions.specs.Expressions.{Every}
use Rattle.al_sound_statements.specs.Named.{IsSharedAt}
use Rattle.al_sound_operators.proofs.Outcomes.{after}
use Rattle.al_sound_statements.proofs.StatementLists.{judged_any}

-- ---- outcomes

always : {A B : Type 0} (Q : B → Type 0) (o : Outcome A) (f : A → Outcome B) → ((a : A) → IfGood (f a) Q) → IfGood (and_then o f) Q
always Q (Good a) f k = k a
always Q (Bad fs) f k = tt

-- ---- what is no local

place_same : {p q : TPlace} {b c : Bool} → found_as.Place p b ≡ found_as.Place q c → p ≡ q
place_same h = cc

no_global : {X : Type 0} (t u : Ty) (n m : ℕ) → place.Global t n ≡ place.Local u m → X
no_global t u n m h = absurd (cc)

module _ (s : Scope) where
  value_shared : (x : Operand) → IsShared s (found_as.Value x)
  value_shared x p is_private e l = absurd (cc)

  open_shared : (p : TPlace) (is_private : Bool) → HasAddress s p → IsShared s (found_as.Place p is_private)
  open_shared p is_private h q c e l = subst (HasAddress s) (place_same e) h

  global_shared : (t : Ty) (n : ℕ) (is_private : Bool) → IsShared s (found_as.Place (place.Global t n) is_private)
  global_shared t n is_private q c e l = no_global t l.0 n l.1 (place_same e ∙ l.2)

  given_shared : (o : Outcome TExpr) → IfGood (gives o) (IsShared s)
  given_shared o = always (IsShared s) o (λ e. Good (value e)) (λ e. value_shared _)

  -- ---- places

  at_shared : (o : Outcome TPlace) → IfGood o (HasAddress s) → IfGood (is_at o) (IsShared s)
  at_shared o h = after (HasAddress s) (IsShared s) o (λ p. Good (place_of p)) h (λ p k. open_shared p false k)

  element_open : (a b : TExpr) → HasAddress s (element a b)
  unfolding element
  element_open a b = tt

  index_open : (rows : List AggregateRow) (at : Place) (x y : Operand) → IfGood (index rows at x y) (HasAddress s)
  unfolding index indexed
  index_open rows at x y =
      always (HasAddress s) (plains x y) (λ p. indexed rows at p.0 p.1) (λ p. judged_any (HasAddress s) _ (element p.0 p.1) (element_open p.0 p.1))

  indirection_open : (at : Place) (x : Operand) → IfGood (indirection at x) (HasAddress s)
  unfolding indirection pointed_by
  indirection_open at x = always (HasAddress s) (plain x) (pointed_by at) (λ a. judged_any (HasAddress s) _ (pointed_node a) tt)

  -- ---- operators

  unary_shared : (rows : List AggregateRow) (at : Place) (op : UnaryOp) (of : Place) (f : Found) → IfGood (unary rows at op of f) (IsShared s)
  unfolding unary
  unary_shared rows at prefix.Plus of f = given_shared _
  unary_shared rows at prefix.Minus of f = given_shared _
  unary_shared rows at prefix.Not of f = given_shared _
  unary_shared rows at prefix.Complement of f = given_shared _
  unary_shared rows at prefix.Indirect of f =
      at_shared (and_then (operand rows of f) (indirection at)) (always (HasAddress s) (operand rows of f) (indirection at) (indirection_open at))
  unary_shared rows at prefix.Address of f = given_shared _
  unary_shared rows at prefix.Increment of f = given_shared _
  unary_shared rows at prefix.Decrement of f = given_shared _
  unary_shared rows at prefix.Receive of f = given_shared _
  unary_shared rows at prefix.CanReceive of f = given_shared _
  unary_shared rows at prefix.Zerox of f = given_shared _

  postfix_shared : (rows : List AggregateRow) (at : Place) (op : PostfixOp) (of : Place) (f : Found) → IfGood (postfix_found rows at op of f) (IsShared s)
  unfolding postfix_found
  postfix_shared rows at postfix.Increment of f = given_shared _
  postfix_shared rows at postfix.Decrement of f = given_shared _
  postfix_shared rows at postfix.CanSend of f = given_shared _

  -- ---- leaves

  text_shared : (at : Place) (o : Option ℕ) → IfGood (text_found at o) (IsShared s)
  unfolding text_found
  text_shared at None = tt
  text_shared at (Some n) = value_shared _

  iterator_shared : (at : Place) (o : Option ℕ) → IfGood (iterator_found at o) (IsShared s)
  unfolding iterator_found
  iterator_shared at None = tt
  iterator_shared at (Some n) = value_shared _

  number_shared : (n : ℕ) → IsShared s (number n)
  unfolding number
  number_shared n = value_shared _

  character_shared : (n : ℕ) → IsShared s (character n)
  unfolding character
  character_shared n = value_shared _

  nil_shared : (at : Place) → IsShared s (nil_found at)
  unfolding nil_found
  nil_shared at = value_shared _

  tuple_shared : (rows : List AggregateRow) (at : Place) (o : Outcome Columns) → IfGood (and_then o (small_tuple rows at)) (IsShared s)
  unfolding small_tuple tuple
  tuple_shared rows at o = always (IsShared s) o (small_tuple rows at) (λ c. judged_any (IsShared s) _ (tuple c) (value_shared _))

  -- ---- members

  place_dot_shared : (here : Here) (at : Place) (p : TPlace) (m : Option NamedMember) (f : Option NamedFunction) → IfGood (place_dot here at p m f) (IsShared s)
  unfolding place_dot member_of_place
  place_dot_shared here at p None f = tt
  place_dot_shared here at p (Some m) f = judged_any (IsShared s) _ (place_of (place_member p m)) (open_shared (place_member p m) false tt)

  value_dot_shared : (here : Here) (at : Place) (e : TExpr) (m : Option NamedMember) (f : Option NamedFunction) → IfGood (value_dot here at e m f) (IsShared s)
  unfolding value_dot member_of_value
  value_dot_shared here at e None f = tt
  value_dot_shared here at e (Some m) f = always (IsShared s) (whole here at e m) _ (λ d. value_shared _)

  value_arrow_shared : (here : Here) (at : Place) (e : TExpr) (m : Option NamedMember) (f : Option NamedFunction) → IfGood (value_arrow here at e m f) (IsShared s)
  unfolding value_arrow member_behind
  value_arrow_shared here at e None f = tt
  value_arrow_shared here at e (Some m) f = judged_any (IsShared s) _ (place_of (pointed_member e m)) (open_shared (pointed_member e m) false tt)

  dot_shared : (env : Environment) (here : Here) (at : Place) (name : ℕ) (f : Found) → IfGood (dot env here at name f) (IsShared s)
  unfolding dot dot_operand
  dot_shared env here at name (found_as.Place p is_private) =
      place_dot_shared here at p (member_in env (Some (place_type p)) name) (function_in env (Some (place_type p)) name)
  dot_shared env here at name (found_as.Value x) =
      always (IsShared s) (plain x) (dot_value env here at name)
      (λ e. value_dot_shared here at e (member_in env (Some (type_of e)) name) (function_in env (Some (type_of e)) name))

  arrow_shared : (env : Environment) (here : Here) (at : Place) (name : ℕ) (x : Operand) → IfGood (arrow env here at name x) (IsShared s)
  unfolding arrow
  arrow_shared env here at name x =
      always (IsShared s) (plain x) (arrow_value env here at name)
      (λ e. value_arrow_shared here at e (member_in env (pointed (type_of e)) name) (function_in env (pointed (type_of e)) name))

  member_shared : (env : Environment) (here : Here) (at : Place) (how : Access) (name : ℕ) (of : Place) (f : Found) → IfGood (member_found env here at how name of f) (IsShared s)
  unfolding member_found
  member_shared env here at access.Dot name of f = dot_shared env here at name f
  member_shared env here at access.Arrow name of f = always (IsShared s) (operand env.aggregates of f) (arrow env here at name) (arrow_shared env here at name)

  -- ---- names

  -- a local of that declaration is shared
  abbrev LocalIs : Here → Option Declaration → Type 0
  LocalIs here d = (n : ℕ) (v : Known) → d ≡ Some (declaration.Local n) → local here n ≡ Some v → IsSharedLocal s.names v.number

  global_found_shared : (at : Place) (o : Option Known) → IfGood (global_found at o) (IsShared s)
  unfolding global_found
  global_found_shared at None = tt
  global_found_shared at (Some v) = global_shared v.ty v.number v.is_private

  local_found_shared : (at : Place) (o : Option Known) → ((v : Known) → o ≡ Some v → IsSharedLocal s.names v.number) → IfGood (local_found at o) (IsShared s)
  unfolding local_found
  local_found_shared at None h = tt
  local_found_shared at (Some v) h = open_shared (place.Local v.ty v.number) false (h v refl)

  outer_found_shared : (at : Place) (around : ℕ) (o : Option Known) → IfGood (outer_found at around o) (IsShared s)
  unfolding outer_found
  outer_found_shared at around None = tt
  outer_found_shared at around (Some v) = open_shared (place.Outer v.ty around v.number) false tt

  round_found_shared : (at : Place) (o : Option Round) (n : ℕ) → IfGood (round_found at o n) (IsShared s)
  unfolding round_found
  round_found_shared at None n = tt
  round_found_shared at (Some r) n = outer_found_shared at r.number (slice_get r.locals n)

  function_found_shared : (at : Place) (o : Option Signature) → IfGood (function_found at o) (IsShared s)
  unfolding function_found defined_function
  function_found_shared at None = tt
  function_found_shared at (Some f) = judged_any (IsShared s) _ (function_value f) (value_shared _)

  integer_found_shared : (at : Place) (o : Option Integer) → IfGood (integer_found at o) (IsShared s)
  integer_found_shared at None = tt
  integer_found_shared at (Some i) = value_shared _

  constant_found_shared : (at : Place) (o : Option EnumConstant) → IfGood (constant_found at o) (IsShared s)
  unfolding constant_found
  constant_found_shared at None = tt
  constant_found_shared at (Some c) = integer_found_shared at c.value

  declared_as_shared : (env : Environment) (here : Here) (at : Place) (d : Declaration) → LocalIs here (Some d) → IfGood (declared_as env here at d) (IsShared s)
  unfolding declared_as
  declared_as_shared env here at (declaration.Global n) h = global_found_shared at (global env n)
  declared_as_shared env here at (declaration.Function n) h = function_found_shared at (function env n)
  declared_as_shared env here at (declaration.Constant n) h = constant_found_shared at (slice_get env.scopes.constants.list n)
  declared_as_shared env here at (declaration.Local n) h = local_found_shared at (local here n) (λ v q. h n v refl q)
  declared_as_shared env here at (declaration.Outer around n) h = round_found_shared at (round here around) n
  declared_as_shared env here at declaration.Print h = tt
  declared_as_shared env here at declaration.Terminate h = tt

  declared_shared : (env : Environment) (here : Here) (at : Place) (d : Option Declaration) → LocalIs here d → IfGood (declared env here at d) (IsShared s)
  unfolding declared
  declared_shared env here at None h = tt
  declared_shared env here at (Some d) h = declared_as_shared env here at d h

  -- ---- every expression

  module _ (env : Environment) (here : Here) where
    abbrev Shared : Place → Type 0
    Shared = IsSharedAt s env here

    abbrev addressed_of : Expr-F Expr → Addressed
    addressed_of z = addressed_step (map-Expr Expr Addressed addressed z)

    abbrev node_of : Expr-F Expr → Node
    node_of z = step env here (map-Expr Expr Node (node env here) z)

    step_shared : (z : Expr-F Expr) → Every Shared (behind prefix.Address (addressed_of z).name) → IfGood (node_of z).found (IsShared s)
    step_shared (Expr-F.Number at n) h = number_shared n
    step_shared (Expr-F.Char at n) h = character_shared n
    step_shared (Expr-F.Text at bytes) h = text_shared at (number_at here.texts at)
    step_shared (Expr-F.Nil at) h = nil_shared at
    step_shared (Expr-F.Name at name) h = declared_shared env here at (declaration_at env.scopes.names at) h.0
    step_shared (Expr-F.Tuple at parts) h = tuple_shared env.aggregates at (columns (map (operand_of env) (map (node env here) parts)))
    step_shared (Expr-F.Unary at op a) h =
        always (IsShared s) (node env here a).found (unary env.aggregates at op (node env here a).at) (unary_shared env.aggregates at op (node env here a).at)
    step_shared (Expr-F.Cast at to a) h = given_shared _
    step_shared (Expr-F.SizeofType at of) h = given_shared _
    step_shared (Expr-F.SizeofValue at a) h = given_shared _
    step_shared (Expr-F.Index at a b) h = at_shared _ (always (HasAddress s) _ _ (λ (p : Operand × Operand). index_open env.aggregates at p.0 p.1))
    step_shared (Expr-F.Member at a how name) h = always (IsShared s) (node env here a).found _ (member_shared env here at how name.name (node env here a).at)
    step_shared (Expr-F.Call at f xs) h = given_shared _
    step_shared (Expr-F.Postfix at op a) h =
        always (IsShared s) (node env here a).found (postfix_found env.aggregates at op (node env here a).at) (postfix_shared env.aggregates at op (node env here a).at)
    step_shared (Expr-F.Binary at op a b) h = given_shared _
    step_shared (Expr-F.Iterator at a b) h = iterator_shared at (number_at here.iterators at)
    step_shared (Expr-F.Assign at op a b) h = given_shared _
    step_shared (Expr-F.Sequence at parts) h = given_shared _

    abbrev Holds : Expr → Type 0
    Holds x = Every Shared (behind prefix.Address (addressed x).name) → IfGood (node env here x).found (IsShared s)

    by_node : (z : Expr-F Expr) → Holds (roll-Expr z)
    unfolding node addressed
    by_node z k =
        subst (λ (n : Node). IfGood n.found (IsShared s)) (sym (fold-roll-Expr Node (step env here) z))
        (step_shared z (subst (λ (a : Addressed). Every Shared (behind prefix.Address a.name)) (fold-roll-Expr Addressed addressed_step z) k))

    -- what stands behind `&`
    pub address_shared : (e : Expr) → Holds e
    address_shared e = subst Holds (roll-out-Expr e) (by_node (out-Expr e))
