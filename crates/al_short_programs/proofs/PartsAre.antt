-- What is gathered of expressions and statements has no string constants but theirs.
use Rattle.std.proofs.Common.{◌≡◌, ℕ, ◌+◌, ◌≤◌, Bool, true, false, if◌then◌else◌, ◌&&◌, List, [], ◌∷◌, ◌++◌, length, map, flat_map, Option, Some, None, refl, sym, ap, ap₂, ◌∙◌, subst, arith, length-append}
use Rattle.std.specs.List.{list_all}
use Rattle.std.proofs.lemmas.List.Folds.{list_all-append}
use Rattle.std.proofs.lemmas.Bool.{and_parts}
use Rattle.al_base.specs.declared.place.Place.{Place}
use Rattle.al_tree.specs.declared.type_tree.TypeTree.{TypeTree}
use Rattle.al_tree.specs.declared.type_tree.Dcl.{Dcl}
use Rattle.al_tree.specs.declared.expression.Expr.{Expr, roll-Expr, map-Expr, fold-roll-Expr}
use Rattle.al_tree.specs.declared.expression.Expr.TheFolds.{ind-Expr}
use Rattle.al_tree.specs.declared.expression.Expr.TheOpen.{Expr-F}
use Rattle.al_tree.specs.declared.statement.Variable.{Variable}
use Rattle.al_tree.specs.declared.statement.Stmt.{Stmt, roll-Stmt, map-Stmt, fold-roll-Stmt}
use Rattle.al_tree.specs.declared.statement.Stmt.TheFolds.{ind-Stmt}
use Rattle.al_tree.specs.declared.statement.Stmt.TheOpen.{Stmt-F}
use Rattle.al_typed.specs.declared.ty.Ty.{Ty}
use Rattle.al_environment.specs.declared.environment.Environment.{Environment}
use Rattle.al_environment.specs.declared.environment.Here.{Here}
use Rattle.al_environment.specs.Written.{written}
use Rattle.al_body_parts.specs.declared.parts.Parts.{Parts}
use Rattle.al_body_parts.specs.declared.parts.WrittenText.{WrittenText}
use Rattle.al_body_parts.specs.Parts.{nothing, with_text, with_type, with_label, with_base, with_local}
use Rattle.al_body_parts.specs.Expressions.{Part, Way, each, optional, step, part, expr, behind_format, is_print}
use Rattle.al_body_parts.specs.Statements.{stmt_step, stmt, parts, variable, variables, branch}
use Rattle.al_tree_laws.specs.Texts.{Texts, joined, expression_step, texts_of, variable_texts, statement_step, statement_texts}
use Rattle.al_tree_laws.specs.Texts as tree

-- a string constant of whose bytes the test holds
abbrev pub bytes_hold : (List ℕ → Bool) → WrittenText → Bool
bytes_hold Q t = Q t.bytes

-- no string constants are added but these, and not all of them need be
pub record Adds (Q : List ℕ → Bool) (ts : Texts) (q r : Parts) : Type 0 where
  pub count : length r.texts ≤ length q.texts + length ts
  pub each_holds : list_all (bytes_hold Q) q.texts ≡ true → list_all Q ts ≡ true → list_all (bytes_hold Q) r.texts ≡ true

module _ (Q : List ℕ → Bool) where
  pub none : (q r : Parts) → r.texts ≡ q.texts → Adds Q [] q r
  none q r e = record { count = omega (arith, ap length e); each_holds = λ h k. ap (list_all (bytes_hold Q)) e ∙ h }

  pub next : {ts rs : Texts} {q r w : Parts} → Adds Q ts q r → Adds Q rs r w → Adds Q (ts ++ rs) q w
  next {ts} {rs} {q} {r} {w} a b = record {
    count = omega (arith, a.count, b.count, length-append ts rs);
    each_holds = λ h k. let p = and_parts (list_all Q ts) (list_all Q rs) (sym (list_all-append Q ts rs) ∙ k) in b.each_holds (a.each_holds h p.0) p.1;
  }

  -- behind what has none
  pub behind : {ts : Texts} {q r w : Parts} → r.texts ≡ q.texts → Adds Q ts r w → Adds Q ts q w
  behind {ts} {q} {r} {w} e a = next (none q r e) a

  -- one of them is left out
  pub wider : {rs : Texts} {q r : Parts} (ts : Texts) → Adds Q rs q r → Adds Q (ts ++ rs) q r
  wider {rs} {q} {r} ts a = next {r = q} (record { count = omega arith; each_holds = λ h k. h }) a

  pub one : (at : Place) (bytes : List ℕ) (q : Parts) → Adds Q (bytes ∷ []) q (with_text at bytes q)
  one at bytes q = record {
    count = omega (arith, length-append q.texts ((record { at = at; bytes = bytes }) ∷ []));
    each_holds = λ h k. list_all-append (bytes_hold Q) q.texts ((record { at = at; bytes = bytes }) ∷ []) ∙ ap₂ (λ a b. a && b) h k;
  }

  pub last : {ts : Texts} {q r w : Parts} → w.texts ≡ r.texts → Adds Q ts q r → Adds Q ts q w
  last {ts} {q} {r} {w} e a = record { count = omega (arith, a.count, ap length e); each_holds = λ h k. ap (list_all (bytes_hold Q)) e ∙ a.each_holds h k }

  module _ (env : Environment) (here : Here) where
    type_same : (at : Place) (t : TypeTree) (q : Parts) → (with_type env here at t q).texts ≡ q.texts
    unfolding with_type
    type_same at t q = refl

    base_same : (t : TypeTree) (q : Parts) → (with_base env here t q).texts ≡ q.texts
    unfolding with_base
    base_same t q = refl

    local_same : (base : Option Ty) (inside : Bool) (dcl : Dcl) (q : Parts) → (with_local env base inside dcl q).texts ≡ q.texts
    unfolding with_local
    local_same base true dcl q = refl
    local_same base false dcl q = refl

    label_same : (inside : Bool) (at : Place) (q : Parts) → (with_label inside at q).texts ≡ q.texts
    label_same true at q = refl
    label_same false at q = refl

    -- ---- expressions

    abbrev Grows : Expr → Type 0
    Grows e = (inside : Bool) (q : Parts) → Adds Q (texts_of e) q (expr env here e inside q)

    abbrev Checked : Type 0
    Checked = (e : Expr) × Grows e

    abbrev part_of : Checked → Part
    part_of c = part env here c.0

    abbrev trees : List Checked → List Expr
    trees ys = map (λ y. y.0) ys

    each_grows : (ys : List Checked) (inside : Bool) (q : Parts) → Adds Q (joined (map texts_of (trees ys))) q (each (λ (p : Part). p.way) (map (part env here) (trees ys)) inside q)
    each_grows [] inside q = none q q refl
    each_grows (y ∷ ys) inside q = next (y.1 inside q) (each_grows ys inside (expr env here y.0 inside q))

    behind_grows : (is_print : Bool) (ys : List Checked) (inside : Bool) (q : Parts)
        → Adds Q (joined (map texts_of (trees ys))) q (each (λ (p : Part). p.way) (behind_format (λ (p : Part). p.is_text) is_print (map (part env here) (trees ys))) inside q)
    behind_grows false ys inside q = each_grows ys inside q
    behind_grows true [] inside q = none q q refl
    behind_grows true (y ∷ ys) inside q = on (part env here y.0).is_text
      where
        on : (b : Bool) → Adds Q (joined (map texts_of (trees (y ∷ ys)))) q (each (λ (p : Part). p.way) (if b then map (part env here) (trees ys) else map (part env here) (trees (y ∷ ys))) inside q)
        on true = wider (texts_of y.0) (each_grows ys inside q)
        on false = each_grows (y ∷ ys) inside q

    abbrev tree_of : Expr-F Checked → Expr-F Expr
    tree_of y = map-Expr Checked Expr (λ c. c.0) y

    step_grows : (y : Expr-F Checked) (inside : Bool) (q : Parts)
        → Adds Q (expression_step (map-Expr Expr Texts texts_of (tree_of y))) q ((step env here (map-Expr Expr Part (part env here) (tree_of y))).way inside q)
    step_grows (Expr-F.Number at value) inside q = none q q refl
    step_grows (Expr-F.Char at value) inside q = none q q refl
    step_grows (Expr-F.Text at bytes) inside q = one at bytes q
    step_grows (Expr-F.Nil at) inside q = none q q refl
    step_grows (Expr-F.Name at name) inside q = none q q refl
    step_grows (Expr-F.Tuple at parts) inside q = each_grows parts inside q
    step_grows (Expr-F.Unary at op a) inside q = a.1 inside q
    step_grows (Expr-F.Cast at to a) inside q = behind (type_same at to q) (a.1 inside (with_type env here at to q))
    step_grows (Expr-F.SizeofType at of) inside q = none q (with_type env here at of q) (type_same at of q)
    step_grows (Expr-F.SizeofValue at a) inside q = a.1 inside q
    step_grows (Expr-F.Index at a b) inside q = next (a.1 inside q) (b.1 inside (expr env here a.0 inside q))
    step_grows (Expr-F.Member at a how name) inside q = a.1 inside q
    step_grows (Expr-F.Call at f xs) inside q =
        next (f.1 inside q) (behind_grows (is_print env.scopes.names (part env here f.0).name) xs inside (expr env here f.0 inside q))
    step_grows (Expr-F.Postfix at op a) inside q = a.1 inside q
    step_grows (Expr-F.Binary at op a b) inside q = next (a.1 inside q) (b.1 inside (expr env here a.0 inside q))
    step_grows (Expr-F.Iterator at a b) inside q = next (a.1 inside q) (b.1 inside (expr env here a.0 inside q))
    step_grows (Expr-F.Assign at op a b) inside q = next (a.1 inside q) (b.1 inside (expr env here a.0 inside q))
    step_grows (Expr-F.Sequence at parts) inside q = each_grows parts inside q

    rolled_grows : (y : Expr-F Checked) → Grows (roll-Expr (tree_of y))
    unfolding texts_of part
    rolled_grows y inside q =
        let z = tree_of y in
        subst (λ ts. Adds Q ts q (expr env here (roll-Expr z) inside q)) (sym (fold-roll-Expr Texts expression_step z))
        (subst (λ (p : Part). Adds Q (expression_step (map-Expr Expr Texts texts_of z)) q (p.way inside q)) (sym (fold-roll-Expr Part (step env here) z)) (step_grows y inside q))

    pub expression_grows : (e : Expr) (inside : Bool) (q : Parts) → Adds Q (texts_of e) q (expr env here e inside q)
    expression_grows e = ind-Expr Grows (λ x y is. subst (λ z. Grows (roll-Expr z)) is (rolled_grows y)) e

    -- ---- statements

    optional_grows : (o : Option Expr) (inside : Bool) (q : Parts) → Adds Q (tree.optional texts_of o) q (optional (expr env here) o inside q)
    optional_grows None inside q = none q q refl
    optional_grows (Some e) inside q = expression_grows e inside q

    all_grow : (es : List Expr) (inside : Bool) (q : Parts) → Adds Q (flat_map texts_of es) q (each (expr env here) es inside q)
    all_grow [] inside q = none q q refl
    all_grow (e ∷ es) inside q = next (expression_grows e inside q) (all_grow es inside (expr env here e inside q))

    variable_grows : (base : Option Ty) (v : Variable) (inside : Bool) (q : Parts) → Adds Q (variable_texts v) q (variable env here base v inside q)
    variable_grows base v inside q = behind (local_same base inside v.dcl q) (optional_grows v.value inside (with_local env base inside v.dcl q))

    each_variable : (base : Option Ty) (vs : List Variable) (inside : Bool) (q : Parts) → Adds Q (flat_map variable_texts vs) q (each (variable env here base) vs inside q)
    each_variable base [] inside q = none q q refl
    each_variable base (v ∷ vs) inside q = next (variable_grows base v inside q) (each_variable base vs inside (variable env here base v inside q))

    variables_grow : (base : TypeTree) (vs : List Variable) (inside : Bool) (q : Parts) → Adds Q (flat_map variable_texts vs) q (variables env here base vs inside q)
    variables_grow base vs inside q = behind (base_same base q) (each_variable (written env here base) vs inside (with_base env here base q))

    abbrev Grow : Stmt → Type 0
    Grow s = (inside : Bool) (q : Parts) → Adds Q (statement_texts s) q (stmt env here s inside q)

    abbrev Proved : Type 0
    Proved = (s : Stmt) × Grow s

    abbrev statements : List Proved → List Stmt
    statements ys = map (λ y. y.0) ys

    body_grows : (ys : List Proved) (inside : Bool) (q : Parts) → Adds Q (joined (map statement_texts (statements ys))) q (each (λ (way : Way). way) (map (stmt env here) (statements ys)) inside q)
    body_grows [] inside q = none q q refl
    body_grows (y ∷ ys) inside q = next (y.1 inside q) (body_grows ys inside (stmt env here y.0 inside q))

    branches_grow : (ys : List Proved) (inside : Bool) (q : Parts) → Adds Q (joined (map statement_texts (statements ys))) q (each (branch env here) (map (stmt env here) (statements ys)) inside q)
    branches_grow [] inside q = none q q refl
    branches_grow (y ∷ ys) inside q = next (y.1 true q) (branches_grow ys inside (stmt env here y.0 true q))

    abbrev stmt_of : Stmt-F Proved → Stmt-F Stmt
    stmt_of y = map-Stmt Proved Stmt (λ c. c.0) y

    abbrev StepGrows : Stmt-F Proved → Type 0
    StepGrows y = (inside : Bool) (q : Parts)
        → Adds Q (statement_step (map-Stmt Stmt Texts statement_texts (stmt_of y))) q (stmt_step env here (map-Stmt Stmt Way (stmt env here) (stmt_of y)) inside q)

    statement_grows : (y : Stmt-F Proved) → StepGrows y
    statement_grows (Stmt-F.Empty at) inside q = none q q refl
    statement_grows (Stmt-F.Block at body) inside q = body_grows body inside q
    statement_grows (Stmt-F.Declare at base vs) inside q = variables_grow base vs inside q
    statement_grows (Stmt-F.Value at value) inside q = expression_grows value inside q
    statement_grows (Stmt-F.Label at name body) inside q = behind (label_same inside at q) (body.1 inside (with_label inside at q))
    statement_grows (Stmt-F.If at condition met None) inside q =
        next (expression_grows condition inside q) (next (met.1 inside (expr env here condition inside q)) (none _ _ refl))
    statement_grows (Stmt-F.If at condition met (Some other)) inside q =
        next (expression_grows condition inside q) (next (met.1 inside (expr env here condition inside q)) (other.1 inside (stmt env here met.0 inside (expr env here condition inside q))))
    statement_grows (Stmt-F.While at condition body) inside q = next (expression_grows condition inside q) (body.1 inside (expr env here condition inside q))
    statement_grows (Stmt-F.Do at body condition) inside q = next (body.1 inside q) (expression_grows condition inside (stmt env here body.0 inside q))
    statement_grows (Stmt-F.For at start condition step body) inside q =
        let e = optional (expr env here) in
        next (optional_grows start inside q) (next (optional_grows condition inside (e start inside q))
        (next (optional_grows step inside (e condition inside (e start inside q))) (body.1 inside (e step inside (e condition inside (e start inside q))))))
    statement_grows (Stmt-F.Switch at value body) inside q = next (expression_grows value inside q) (body_grows body inside (expr env here value inside q))
    statement_grows (Stmt-F.Alt at body) inside q = body_grows body inside q
    statement_grows (Stmt-F.Case at value) inside q = expression_grows value inside q
    statement_grows (Stmt-F.Default at) inside q = none q q refl
    statement_grows (Stmt-F.Par at branches) inside q = branches_grow branches inside q
    statement_grows (Stmt-F.Rescue at name body) inside q = behind (label_same inside at q) (body.1 inside (with_label inside at q))
    statement_grows (Stmt-F.Raise at name) inside q = none q q refl
    statement_grows (Stmt-F.Return at value) inside q = optional_grows value inside q
    statement_grows (Stmt-F.Become at value) inside q = expression_grows value inside q
    statement_grows (Stmt-F.Break at count) inside q = none q q refl
    statement_grows (Stmt-F.Continue at count) inside q = none q q refl
    statement_grows (Stmt-F.Goto at label) inside q = none q q refl
    statement_grows (Stmt-F.Alloc at places) inside q = all_grow places inside q
    statement_grows (Stmt-F.Unalloc at values) inside q = all_grow values inside q
    statement_grows (Stmt-F.Check at value text) inside q = expression_grows value inside q
    statement_grows (Stmt-F.Proc at calls) inside q = all_grow calls inside q
    statement_grows (Stmt-F.Task at calls) inside q = all_grow calls inside q

    rolled_grow : (y : Stmt-F Proved) → Grow (roll-Stmt (stmt_of y))
    unfolding statement_texts stmt
    rolled_grow y inside q =
        let z = stmt_of y in
        subst (λ ts. Adds Q ts q (stmt env here (roll-Stmt z) inside q)) (sym (fold-roll-Stmt Texts statement_step z))
        (subst (λ (way : Way). Adds Q (statement_step (map-Stmt Stmt Texts statement_texts z)) q (way inside q)) (sym (fold-roll-Stmt Way (stmt_step env here) z)) (statement_grows y inside q))

    pub stmt_grows : (s : Stmt) (inside : Bool) (q : Parts) → Adds Q (statement_texts s) q (stmt env here s inside q)
    stmt_grows s = ind-Stmt Grow (λ x y is. subst (λ z. Grow (roll-Stmt z)) is (rolled_grow y)) s

    -- what a body writes
    pub parts_grow : (s : Stmt) → Adds Q (statement_texts s) nothing (parts env here s)
    unfolding parts
    parts_grow s = stmt_grows s false nothing
