-- Statements mark what the names in them stand for.
use Rattle.std.proofs.Common.{◌≡◌, ℕ, true, false, List, [], ◌∷◌, ◌++◌, map, Option, Some, None, sym, subst, ◌⊎◌, inl, inr}
use Rattle.std.proofs.lemmas.List.{append-nil}
use Rattle.std.specs.Prelude.{Contains}
use Rattle.std.specs.List.{flat_map}
use Rattle.std.proofs.lemmas.List.Elements.{Contains-append_cases, Contains-append_left, Contains-append_right}
use Rattle.al_base.specs.declared.place.Place.{Place}
use Rattle.al_tree.specs.declared.expression.Expr.{Expr}
use Rattle.al_tree.specs.declared.statement.Variable.{Variable}
use Rattle.al_tree.specs.declared.statement.Stmt.{Stmt, fold-roll-Stmt, map-Stmt, para-roll-Stmt, roll-Stmt}
use Rattle.al_tree.specs.declared.statement.Stmt.TheFolds.{ind-Stmt}
use Rattle.al_tree.specs.declared.statement.Stmt.TheOpen.{Stmt-F}
use Rattle.al_tree_walks.specs.Expressions.{addressed_places, name_places}
use Rattle.al_tree_walks.specs.Statements.{all_of, branches, branches_with, expressions, expressions_with, one_if, own_expressions, value_of}
use Rattle.al_scope.specs.declared.declaration.Resolved.{Resolved}
use Rattle.al_shared.specs.Expressions.{Way, each, expr, optional}
use Rattle.al_shared.specs.Statements.{branch, stmt, stmt_step, variable}
use Rattle.al_sound_shared.proofs.Ways.{Keeps, Marks, first_marks, keeps_none, keeps_then, none_in, one_of, only_one, then_marks}
use Rattle.al_sound_shared.proofs.ExpressionWays.{IsOuter, IsOwn, expression_is}

module _ (names : List Resolved) (round n : ℕ) where
  abbrev Outer : Place → Type 0
  Outer = IsOuter names round n

  abbrev Own : Place → Type 0
  Own = IsOwn names round n

  -- A way that goes through these expressions, of which these stand in no branch of a par, and through these branches.
  pub record Goes (way : Way) (es owns : List Expr) (bs : List Stmt) : Type 0 where
    pub keeps : Keeps n way
    pub outer : (e : Expr) → Contains es e → (at : Place) → Contains (name_places e) at → Outer at → Marks n true way
    pub own : (e : Expr) → Contains owns e → (at : Place) → Contains (addressed_places e) at → Own at → Marks n false way
    pub inner : (b : Stmt) → Contains bs b → (e : Expr) → Contains (expressions b) e → (at : Place) → Contains (name_places e) at → Outer at → Marks n false way
    pub within : (b : Stmt) → Contains bs b → (e : Expr) → Contains (expressions b) e → Contains es e

  none : Goes (λ inside bs. bs) [] [] []
  none = record {
    keeps = keeps_none n;
    outer = λ e c. none_in e c;
    own = λ e c. none_in e c;
    inner = λ b c. none_in b c;
    within = λ b c. none_in b c;
  }

  one : (e : Expr) → Goes (expr names round e) (e ∷ []) (e ∷ []) []
  one e =
      let v = (expression_is names round n e).visits in
      record {
        keeps = v.keeps;
        outer = λ a c at m is. v.outer at (subst (λ (x : Expr). Contains (name_places x) at) (sym (only_one e a c)) m) is;
        own = λ a c at m is. v.own at (subst (λ (x : Expr). Contains (addressed_places x) at) (sym (only_one e a c)) m) is;
        inner = λ b c. none_in b c;
        within = λ b c. none_in b c;
      }

  then : (f g : Way) (es fs owns others : List Expr) (bs cs : List Stmt) → Goes f es owns bs → Goes g fs others cs
      → Goes (λ inside bs. g inside (f inside bs)) (es ++ fs) (owns ++ others) (bs ++ cs)
  then f g es fs owns others bs cs h k = record {
    keeps = keeps_then n f g h.keeps k.keeps;
    outer = λ e c at m is. outer_in e (Contains-append_cases es fs e c) at m is;
    own = λ e c at m is. own_in e (Contains-append_cases owns others e c) at m is;
    inner = λ b c e x at m is. inner_in b (Contains-append_cases bs cs b c) e x at m is;
    within = λ b c e x. within_in b (Contains-append_cases bs cs b c) e x;
  }
    where
      outer_in : (e : Expr) → Contains es e ⊎ Contains fs e → (at : Place) → Contains (name_places e) at → Outer at → Marks n true (λ inside bs. g inside (f inside bs))
      outer_in e (inl c) at m is = first_marks n true f g k.keeps (h.outer e c at m is)
      outer_in e (inr c) at m is = then_marks n true f g h.keeps (k.outer e c at m is)

      own_in : (e : Expr) → Contains owns e ⊎ Contains others e → (at : Place) → Contains (addressed_places e) at → Own at → Marks n false (λ inside bs. g inside (f inside bs))
      own_in e (inl c) at m is = first_marks n false f g k.keeps (h.own e c at m is)
      own_in e (inr c) at m is = then_marks n false f g h.keeps (k.own e c at m is)

      inner_in : (b : Stmt) → Contains bs b ⊎ Contains cs b → (e : Expr) → Contains (expressions b) e → (at : Place) → Contains (name_places e) at → Outer at
          → Marks n false (λ inside bs. g inside (f inside bs))
      inner_in b (inl c) e x at m is = first_marks n false f g k.keeps (h.inner b c e x at m is)
      inner_in b (inr c) e x at m is = then_marks n false f g h.keeps (k.inner b c e x at m is)

      within_in : (b : Stmt) → Contains bs b ⊎ Contains cs b → (e : Expr) → Contains (expressions b) e → Contains (es ++ fs) e
      within_in b (inl c) e x = Contains-append_left es fs e (h.within b c e x)
      within_in b (inr c) e x = Contains-append_right es fs e (k.within b c e x)

  -- ---- expressions in statements

  if_there : (e : Option Expr) → Goes (optional (expr names round) e) (one_if e) (one_if e) []
  if_there None = none
  if_there (Some e) = one e

  each_one : (es : List Expr) → Goes (each (expr names round) es) es es []
  each_one [] = none
  each_one (e ∷ es) = then (expr names round e) (each (expr names round) es) (e ∷ []) es (e ∷ []) es [] [] (one e) (each_one es)

  each_value : (vs : List Variable) → Goes (each (variable names round) vs) (flat_map value_of vs) (flat_map value_of vs) []
  each_value [] = none
  each_value (v ∷ vs) =
      then (variable names round v) (each (variable names round) vs) (value_of v) (flat_map value_of vs) (value_of v) (flat_map value_of vs) [] [] (if_there v.value) (each_value vs)

  -- ---- statements in statements

  abbrev Good : Stmt → Type 0
  Good s = Goes (stmt names round s) (expressions s) (own_expressions s) (branches s)

  abbrev Checked : Type 0
  Checked = (s : Stmt) × Good s

  abbrev plain : List Checked → List Stmt
  plain ys = map (λ (y : Checked). y.0) ys

  abbrev tree_of : Stmt-F Checked → Stmt-F Stmt
  tree_of y = map-Stmt Checked Stmt (λ c. c.0) y

  abbrev with_branches : Stmt → Stmt × List Stmt
  with_branches s = (s, branches s)

  abbrev all_branches : List Stmt → List Stmt
  all_branches ss = flat_map (λ (p : Stmt × List Stmt). p.1) (map with_branches ss)

  all : (ys : List Checked)
      → Goes (each (λ way. way) (map (stmt names round) (plain ys))) (all_of (map expressions (plain ys))) (all_of (map own_expressions (plain ys))) (all_branches (plain ys))
  all [] = none
  all (y ∷ ys) =
      then (stmt names round y.0) (each (λ way. way) (map (stmt names round) (plain ys))) (expressions y.0) (all_of (map expressions (plain ys)))
      (own_expressions y.0) (all_of (map own_expressions (plain ys))) (branches y.0) (all_branches (plain ys)) y.1 (all ys)

  -- ---- branches

  in_branch : (y : Checked) → Goes (branch names round (stmt names round y.0)) (expressions y.0) [] (y.0 ∷ branches y.0)
  in_branch y = record {
    keeps = record { many = λ inside bs. y.1.keeps.many true bs; stays = λ inside bs h. y.1.keeps.stays true bs h };
    outer = λ e c at m is. y.1.outer e c at m is;
    own = λ e c. none_in e c;
    inner = λ b c e x at m is. y.1.outer e (within_in b (one_of y.0 b (branches y.0) c) e x) at m is;
    within = λ b c e x. within_in b (one_of y.0 b (branches y.0) c) e x;
  }
    where
      within_in : (b : Stmt) → (y.0 ≡ b) ⊎ Contains (branches y.0) b → (e : Expr) → Contains (expressions b) e → Contains (expressions y.0) e
      within_in b (inl q) e x = subst (λ (s : Stmt). Contains (expressions s) e) (sym q) x
      within_in b (inr c) e x = y.1.within b c e x

  abbrev par_branches : List Stmt → List Stmt
  par_branches ss = flat_map (λ (p : Stmt × List Stmt). p.0 ∷ p.1) (map with_branches ss)

  all_in_par : (ys : List Checked) → Goes (each (branch names round) (map (stmt names round) (plain ys))) (all_of (map expressions (plain ys))) [] (par_branches (plain ys))
  all_in_par [] = none
  all_in_par (y ∷ ys) =
      then (branch names round (stmt names round y.0)) (each (branch names round) (map (stmt names round) (plain ys))) (expressions y.0) (all_of (map expressions (plain ys)))
      [] [] (y.0 ∷ branches y.0) (par_branches (plain ys)) (in_branch y) (all_in_par ys)

  -- ---- by the kind of a statement

  abbrev ways_of : Stmt-F Stmt → Way
  ways_of z = stmt_step names round (map-Stmt Stmt Way (stmt names round) z)

  abbrev all_of_step : Stmt-F Stmt → List Expr
  all_of_step z = expressions_with all_of (map-Stmt Stmt (List Expr) expressions z)

  abbrev own_of_step : Stmt-F Stmt → List Expr
  own_of_step z = expressions_with (λ bodies. []) (map-Stmt Stmt (List Expr) own_expressions z)

  abbrev branches_of_step : Stmt-F Stmt → List Stmt
  branches_of_step z = branches_with (flat_map (λ (p : Stmt × List Stmt). p.0 ∷ p.1)) (map-Stmt Stmt (Stmt × List Stmt) with_branches z)

  abbrev Way_of : Checked → Way
  Way_of y = stmt names round y.0

  one_then : (e : Expr) (y : Checked) → Goes (λ inside bs. Way_of y inside (expr names round e inside bs)) (e ∷ expressions y.0) (e ∷ own_expressions y.0) (branches y.0)
  one_then e y = then (expr names round e) (Way_of y) (e ∷ []) (expressions y.0) (e ∷ []) (own_expressions y.0) [] (branches y.0) (one e) y.1

  step_is : (y : Stmt-F Checked) → Goes (ways_of (tree_of y)) (all_of_step (tree_of y)) (own_of_step (tree_of y)) (branches_of_step (tree_of y))
  step_is (Stmt-F.Empty at) = none
  step_is (Stmt-F.Block at body) = all body
  step_is (Stmt-F.Declare at base variables) = each_value variables
  step_is (Stmt-F.Value at e) = one e
  step_is (Stmt-F.Label at name body) = body.1
  step_is (Stmt-F.If at e met None) =
      then (expr names round e) (Way_of met) (e ∷ []) (expressions met.0 ++ []) (e ∷ []) (own_expressions met.0 ++ []) [] (branches met.0 ++ []) (one e)
      (then (Way_of met) (λ inside bs. bs) (expressions met.0) [] (own_expressions met.0) [] (branches met.0) [] met.1 none)
  step_is (Stmt-F.If at e met (Some other)) =
      then (expr names round e) (λ inside bs. Way_of other inside (Way_of met inside bs)) (e ∷ []) (expressions met.0 ++ expressions other.0) (e ∷ []) (own_expressions met.0 ++ own_expressions other.0)
      [] (branches met.0 ++ branches other.0) (one e)
      (then (Way_of met) (Way_of other) (expressions met.0) (expressions other.0) (own_expressions met.0) (own_expressions other.0) (branches met.0) (branches other.0) met.1 other.1)
  step_is (Stmt-F.While at e body) = one_then e body
  step_is (Stmt-F.Do at body e) = ends (branches body.0) (then (Way_of body) (expr names round e) (expressions body.0) (e ∷ []) (own_expressions body.0) (e ∷ []) (branches body.0) [] body.1 (one e))
    where
      ends : (bs : List Stmt) {way : Way} {es owns : List Expr} → Goes way es owns (bs ++ []) → Goes way es owns bs
      ends bs {way} {es} {owns} h = subst (Goes way es owns) (append-nil bs) h
  step_is (Stmt-F.For at start e next body) =
      let W = Way_of body in
      let last = then (optional (expr names round) next) W (one_if next) (expressions body.0) (one_if next) (own_expressions body.0) [] (branches body.0) (if_there next) body.1 in
      let more =
      then (optional (expr names round) e) (λ inside bs. W inside (optional (expr names round) next inside bs)) (one_if e) (one_if next ++ expressions body.0) (one_if e) (one_if next ++ own_expressions body.0)
      [] (branches body.0) (if_there e) last in
      then (optional (expr names round) start) (λ inside bs. W inside (optional (expr names round) next inside (optional (expr names round) e inside bs))) (one_if start) (one_if e ++ (one_if next ++ expressions body.0))
      (one_if start) (one_if e ++ (one_if next ++ own_expressions body.0)) [] (branches body.0) (if_there start) more
  step_is (Stmt-F.Switch at e body) =
      then (expr names round e) (each (λ way. way) (map (stmt names round) (plain body))) (e ∷ []) (all_of (map expressions (plain body))) (e ∷ []) (all_of (map own_expressions (plain body)))
      [] (all_branches (plain body)) (one e) (all body)
  step_is (Stmt-F.Alt at body) = all body
  step_is (Stmt-F.Case at e) = one e
  step_is (Stmt-F.Default at) = none
  step_is (Stmt-F.Par at bodies) = all_in_par bodies
  step_is (Stmt-F.Rescue at name body) = body.1
  step_is (Stmt-F.Raise at name) = none
  step_is (Stmt-F.Return at e) = if_there e
  step_is (Stmt-F.Become at e) = one e
  step_is (Stmt-F.Break at count) = none
  step_is (Stmt-F.Continue at count) = none
  step_is (Stmt-F.Goto at name) = none
  step_is (Stmt-F.Alloc at es) = each_one es
  step_is (Stmt-F.Unalloc at es) = each_one es
  step_is (Stmt-F.Check at e text) = one e
  step_is (Stmt-F.Proc at es) = each_one es
  step_is (Stmt-F.Task at es) = each_one es

  by_parts : (y : Stmt-F Checked) → Good (roll-Stmt (tree_of y))
  unfolding stmt expressions own_expressions branches
  by_parts y =
      let z = tree_of y in
      let s = roll-Stmt z in
      subst (λ (way : Way). Goes way (expressions s) (own_expressions s) (branches s)) (sym (fold-roll-Stmt Way (stmt_step names round) z))
      (subst (λ (es : List Expr). Goes (ways_of z) es (own_expressions s) (branches s)) (sym (fold-roll-Stmt (List Expr) (expressions_with all_of) z))
      (subst (λ (es : List Expr). Goes (ways_of z) (all_of_step z) es (branches s)) (sym (fold-roll-Stmt (List Expr) (expressions_with (λ bodies. [])) z))
      (subst (λ (bs : List Stmt). Goes (ways_of z) (all_of_step z) (own_of_step z) bs) (sym (para-roll-Stmt (List Stmt) (branches_with (flat_map (λ (p : Stmt × List Stmt). p.0 ∷ p.1))) z))
      (step_is y))))

  pub statement_is : (s : Stmt) → Good s
  statement_is = ind-Stmt Good (λ x y is. subst (λ z. Good (roll-Stmt z)) is (by_parts y))
