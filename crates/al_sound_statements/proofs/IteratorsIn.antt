-- Iterators, and expression statements.
use Rattle.std.proofs.Common.{◌≡◌, ℕ, List, [], ◌∷◌, ◌++◌, map, length, sym, subst}
use Rattle.std.specs.Prelude.{Contains}
use Rattle.std.specs.List.{flat_map}
use Rattle.al_base.specs.declared.arith.Kind.TheVariants as kind
use Rattle.al_base.specs.declared.place.Place.{Place}
use Rattle.al_rules.specs.Outcome.{Good, pair}
use Rattle.al_tree.specs.declared.expression.Expr.{Expr, out-Expr, roll-Expr, para-roll-Expr, map-Expr}
use Rattle.al_tree.specs.declared.expression.Expr.TheViews.{out-roll-Expr}
use Rattle.al_tree.specs.declared.expression.Expr.TheFolds.{ind-Expr}
use Rattle.al_tree.specs.declared.expression.Expr.TheOpen.{Expr-F}
use Rattle.al_typed.specs.declared.expression.TExpr.{TExpr}
use Rattle.al_typed.specs.declared.statement.TBounds.{TBounds}
use Rattle.al_typed.specs.declared.statement.TStmt.TheVariants as stmt
use Rattle.al_typed.specs.Typed.{type_of}
use Rattle.al_typed.specs.WellTyped.{AreBounds, IsStatement, IsValue, Nest, Scope}
use Rattle.al_typed.proofs.StatementRules as rules
use Rattle.al_convert.specs.Kinds.{is_integer}
use Rattle.al_environment.specs.declared.environment.Environment.{Environment}
use Rattle.al_environment.specs.declared.environment.Here.{Here}
use Rattle.al_operands.specs.declared.operand.Operand.{Operand}
use Rattle.al_operands.specs.Operands.{plains}
use Rattle.al_type_expr.specs.Nodes.{dropped_value, value_of}
use Rattle.al_statements.specs.Rules.{rule_42_has_integers}
use Rattle.al_statements.specs.Parts.{bounded, bounds, bounds_of}
use Rattle.al_type_stmt.specs.Iterators.{Spread, all_bounds, bounds_at, iterators, numbered, spreads, step, value_statement, with_iterators}
use Rattle.al_sound_operators.specs.Typed.{IfGood, IsOperand, IsTyped, IsUsable}
use Rattle.al_sound_operators.specs.Operands.{AreUsable}
use Rattle.al_sound_nodes.specs.Nodes.{Tells}
use Rattle.al_sound_expressions.specs.Expressions.{AreFit, EachPart, Every}
use Rattle.al_sound_statements.specs.Statements.{IsFitValue, with_count}
use Rattle.al_sound_operators.proofs.SameTypes.{and_both}
use Rattle.al_sound_operators.proofs.OperatorKinds.{integer_converts}
use Rattle.al_sound_operators.proofs.Outcomes.{after, asked, paired}
use Rattle.al_sound_statements.proofs.StatementLists.{AreMany, every_all, every_append, of_each_is}
use Rattle.al_sound_statements.proofs.Known.{Laws, tells_with}
use Rattle.al_sound_statements.proofs.SimpleStatements.{dropped_is}

bounded_is : (law : Laws) (s : Scope) (at : Place) (a b : TExpr) → IsUsable s a → IsUsable s b → IfGood (bounded at a b) (AreBounds s)
unfolding bounded bounds_of rule_42_has_integers
bounded_is law s at a b u v =
    asked (AreBounds s) 42 at (rule_42_has_integers (type_of a) (type_of b)) (bounds_of a b)
    (λ q. let h = and_both (is_integer (type_of a)) (is_integer (type_of b)) q in
    let i = law.operands.in_kind s kind.Int a u (integer_converts (type_of a) kind.Int h.0) in
    let j = law.operands.in_kind s kind.Int b v (integer_converts (type_of b) kind.Int h.1) in
    (i.usable.value, (i.is, (j.usable.value, j.is))))

bounds_are : (law : Laws) (s : Scope) (at : Place) (x y : Operand) → IsOperand s x → IsOperand s y → IfGood (bounds at x y) (AreBounds s)
unfolding bounds
bounds_are law s at x y o p =
    after (AreUsable s) (AreBounds s) (plains x y) (λ q. bounded at q.0 q.1) (law.operands.plains s x y o p) (λ q u. bounded_is law s at q.0 q.1 u.0 u.1)

module _ (law : Laws) (s : Scope) (env : Environment) (here : Here) (tells : Tells s env here) (trees : List Expr) (fits : AreFit s env here trees) where
  abbrev IsGoodSpread : Spread → Type 0
  IsGoodSpread p = IfGood p.1 (AreBounds s)

  abbrev Holds : Expr → Type 0
  Holds e = Contains trees e → Every IsGoodSpread (iterators env here e)

  abbrev Checked : Type 0
  Checked = (e : Expr) × Holds e

  abbrev tree_of : Expr-F Checked → Expr-F Expr
  tree_of y = map-Expr Checked Expr (λ c. c.0) y

  abbrev with_spreads : Expr → Expr × List Spread
  with_spreads e = (e, iterators env here e)

  abbrev found_in : Expr-F Expr → Expr-F (Expr × List Spread)
  found_in z = map-Expr Expr (Expr × List Spread) with_spreads z

  value_in : (e : Expr) → Contains trees e → IfGood (value_of env here e) (IsOperand s)
  value_in e c = law.expressions.value_of s env here tells trees fits e c

  bounds_at_are : (at : Place) (a b : Expr) → Contains trees a → Contains trees b → IfGood (bounds_at env here at a b) (AreBounds s)
  bounds_at_are at a b c d =
      after (λ (p : Operand × Operand). IsOperand s p.0 × IsOperand s p.1) (AreBounds s) (pair (value_of env here a) (value_of env here b)) (λ p. bounds at p.0 p.1)
      (paired (IsOperand s) (IsOperand s) (value_of env here a) (value_of env here b) (value_in a c) (value_in b d))
      (λ p q. bounds_are law s at p.0 p.1 q.0 q.1)

  every_spread : (ys : List Checked) → Every (Contains trees) (map (λ y. y.0) ys) → Every IsGoodSpread (flat_map spreads (map with_spreads (map (λ y. y.0) ys)))
  every_spread [] h = tt
  every_spread (y ∷ ys) h =
      every_append IsGoodSpread (iterators env here y.0) (flat_map spreads (map with_spreads (map (λ y. y.0) ys))) (y.1 h.0) (every_spread ys h.1)

  two : (a b : Checked) → Contains trees a.0 → Contains trees b.0 → Every IsGoodSpread (iterators env here a.0 ++ iterators env here b.0)
  two a b c d = every_append IsGoodSpread (iterators env here a.0) (iterators env here b.0) (a.1 c) (b.1 d)

  each_spread : (y : Expr-F Checked) → EachPart (Contains trees) (tree_of y) → Every IsGoodSpread (step env here (found_in (tree_of y)))
  each_spread (Expr-F.Number at value) h = tt
  each_spread (Expr-F.Char at value) h = tt
  each_spread (Expr-F.Text at bytes) h = tt
  each_spread (Expr-F.Nil at) h = tt
  each_spread (Expr-F.Name at name) h = tt
  each_spread (Expr-F.Tuple at parts) h = every_spread parts h
  each_spread (Expr-F.Unary at op a) h = a.1 h
  each_spread (Expr-F.Cast at to a) h = a.1 h
  each_spread (Expr-F.SizeofType at of) h = tt
  each_spread (Expr-F.SizeofValue at a) h = a.1 h
  each_spread (Expr-F.Index at a b) h = two a b h.0 h.1
  each_spread (Expr-F.Member at a how name) h = a.1 h
  each_spread (Expr-F.Call at f xs) h =
      every_append IsGoodSpread (iterators env here f.0) (flat_map spreads (map with_spreads (map (λ y. y.0) xs))) (f.1 h.0) (every_spread xs h.1)
  each_spread (Expr-F.Postfix at op a) h = a.1 h
  each_spread (Expr-F.Binary at op a b) h = two a b h.0 h.1
  each_spread (Expr-F.Iterator at a b) h = (bounds_at_are at a.0 b.0 h.0 h.1, tt)
  each_spread (Expr-F.Assign at op a b) h = two a b h.0 h.1
  each_spread (Expr-F.Sequence at parts) h = every_spread parts h

  by_parts : (y : Expr-F Checked) → Holds (roll-Expr (tree_of y))
  unfolding iterators
  by_parts y c =
      let z = tree_of y in
      let same : out-Expr (roll-Expr z) ≡ z = out-roll-Expr z in
      let parts = subst (EachPart (Contains trees)) same (fits.parts (roll-Expr z) c) in
      subst (Every IsGoodSpread) (sym (para-roll-Expr (List Spread) (step env here) z)) (each_spread y parts)

  pub spreads_are : (e : Expr) → Holds e
  spreads_are = ind-Expr Holds (λ x y is. subst (λ z. Holds (roll-Expr z)) is (by_parts y))

pub value_statement_is : (law : Laws) (s : Scope) (n : Nest) (env : Environment) (here : Here) → Tells s env here → (line : ℕ) (e : Expr) → IsFitValue s env here e
    → IfGood (value_statement env here line e) (IsStatement s n)
unfolding value_statement
value_statement_is law s n env here tells line e f =
    let ss = iterators env here e in
    let t = with_count s (length ss) in
    after (λ (p : List TBounds × TExpr). AreMany (AreBounds s) (length ss) p.0 × IsTyped t p.1) (IsStatement s n)
    (pair (all_bounds ss) (dropped_value env (with_iterators here ss) e)) (λ p. Good (stmt.Value line p.0 p.1))
    (paired (AreMany (AreBounds s) (length ss)) (IsTyped t) (all_bounds ss) (dropped_value env (with_iterators here ss) e)
    (of_each_is (λ (p : Spread). IfGood p.1 (AreBounds s)) (AreBounds s) (λ (p : Spread). p.1) ss (spreads_are law s env here tells f.outside.trees f.outside.fit e f.outside.among) (λ p h. h))
    (dropped_is law t n env (with_iterators here ss) (tells_with s env here tells (length ss) (numbered 0 ss)) e f.inside))
    (λ p q. rw (rules.IsStatement-Value s n line p.0 p.1) ((every_all (AreBounds s) p.0 q.0.0, subst (λ k. IsValue (with_count s k) p.1) (sym q.0.1) q.1.value)))
