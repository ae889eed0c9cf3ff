-- Trees of expressions, by their parts.
use Rattle.std.proofs.Common.{◌≡◌, List, [], ◌∷◌, map, sym, subst}
use Rattle.std.specs.Prelude.{Contains}
use Rattle.al_tree.specs.declared.expression.Expr.{Expr, out-Expr, roll-Expr, fold-roll-Expr, map-Expr}
use Rattle.al_tree.specs.declared.expression.Expr.TheViews.{out-roll-Expr}
use Rattle.al_tree.specs.declared.expression.Expr.TheFolds.{ind-Expr}
use Rattle.al_tree.specs.declared.expression.Expr.TheOpen.{Expr-F}
use Rattle.al_typed.specs.WellTyped.{Scope}
use Rattle.al_environment.specs.declared.environment.Environment.{Environment}
use Rattle.al_environment.specs.declared.environment.Here.{Here}
use Rattle.al_type_expr.specs.Nodes.{Node, node, step}
use Rattle.al_sound_nodes.specs.Nodes.{Tells}
use Rattle.al_sound_expressions.specs.Expressions.{AreFit, EachPart, Every, ExpressionsAreSound, IsFit, IsNode, OfTrees}
use Rattle.al_sound_expressions.proofs.ExpressionsAre.{dropped_of_is, operand_of_is, step_is}

module _ (s : Scope) (env : Environment) (here : Here) (t : Tells s env here) (trees : List Expr) (fits : AreFit s env here trees) where
  abbrev Sound : Expr → Type 0
  Sound e = Contains trees e → IsNode s (node env here e)

  abbrev Checked : Type 0
  Checked = (e : Expr) × Sound e

  every_node : (ys : List Checked) → Every (Contains trees) (map (λ y. y.0) ys) → Every (IsNode s) (map (node env here) (map (λ y. y.0) ys))
  every_node [] h = tt
  every_node (y ∷ ys) h = (y.1 h.0, every_node ys h.1)

  abbrev tree_of : Expr-F Checked → Expr-F Expr
  tree_of y = map-Expr Checked Expr (λ c. c.0) y

  abbrev nodes_of : Expr-F Expr → Expr-F Node
  nodes_of z = map-Expr Expr Node (node env here) z

  each_node : (y : Expr-F Checked) → EachPart (Contains trees) (tree_of y) → EachPart (IsNode s) (nodes_of (tree_of y))
  each_node (Expr-F.Number at value) h = tt
  each_node (Expr-F.Char at value) h = tt
  each_node (Expr-F.Text at bytes) h = tt
  each_node (Expr-F.Nil at) h = tt
  each_node (Expr-F.Name at name) h = tt
  each_node (Expr-F.Tuple at parts) h = every_node parts h
  each_node (Expr-F.Unary at op a) h = a.1 h
  each_node (Expr-F.Cast at to a) h = a.1 h
  each_node (Expr-F.SizeofType at of) h = tt
  each_node (Expr-F.SizeofValue at a) h = a.1 h
  each_node (Expr-F.Index at a b) h = (a.1 h.0, b.1 h.1)
  each_node (Expr-F.Member at a how name) h = a.1 h
  each_node (Expr-F.Call at f xs) h = (f.1 h.0, every_node xs h.1)
  each_node (Expr-F.Postfix at op a) h = a.1 h
  each_node (Expr-F.Binary at op a b) h = (a.1 h.0, b.1 h.1)
  each_node (Expr-F.Iterator at a b) h = (a.1 h.0, b.1 h.1)
  each_node (Expr-F.Assign at op a b) h = (a.1 h.0, b.1 h.1)
  each_node (Expr-F.Sequence at parts) h = every_node parts h

  by_parts : (y : Expr-F Checked) → Sound (roll-Expr (tree_of y))
  unfolding node
  by_parts y c =
      let z = tree_of y in
      let same : out-Expr (roll-Expr z) ≡ z = out-roll-Expr z in
      let parts = subst (EachPart (Contains trees)) same (fits.parts (roll-Expr z) c) in
      let fit = subst (λ w. IsFit s env here (nodes_of w)) same (fits.fit (roll-Expr z) c) in
      subst (IsNode s) (sym (fold-roll-Expr Node (step env here) z)) (step_is s env here t (nodes_of z) (each_node y parts) fit)

  pub tree_is : (e : Expr) → Contains trees e → IsNode s (node env here e)
  tree_is = ind-Expr Sound (λ x y is. subst (λ z. Sound (roll-Expr z)) is (by_parts y))

node_is : OfTrees (λ s env here e. IsNode s (node env here e))
node_is s env here t trees fits e c = tree_is s env here t trees fits e c

pub expressions_are_sound : ExpressionsAreSound
expressions_are_sound = record {
  node = node_is;
  value_of = λ s env here t trees fits e c. operand_of_is s env t.aggregates (node env here e) (node_is s env here t trees fits e c);
  dropped_value = λ s env here t trees fits e c. dropped_of_is s env t.aggregates (node env here e) (node_is s env here t trees fits e c);
}
