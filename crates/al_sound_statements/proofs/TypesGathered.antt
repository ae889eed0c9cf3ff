-- The types that are written in a body, and what is gathered of it.
use Rattle.std.proofs.Common.{◌≡◌, ℕ, Bool, true, false, List, [], ◌∷◌, ◌++◌, map, Option, Some, None, refl, sym, ◌∙◌, subst, arith}
use Rattle.std.specs.Prelude.{Contains, if◌then◌else◌}
use Rattle.std.specs.List.{flat_map}
use Rattle.std.proofs.lemmas.List.Elements.{Contains-append_left, Contains-append_right}
use Rattle.al_base.specs.declared.place.Place.{Place}
use Rattle.al_rules.specs.declared.fault.TypeFault.{TypeFault}
use Rattle.al_rules.specs.Outcome.{ask}
use Rattle.al_tree.specs.declared.type_tree.Dcl.{Dcl}
use Rattle.al_tree.specs.declared.type_tree.TypeTree.{TypeTree}
use Rattle.al_tree.specs.declared.expression.Expr.{Expr, fold-roll-Expr, map-Expr, roll-Expr}
use Rattle.al_tree.specs.declared.expression.Expr.TheFolds.{ind-Expr}
use Rattle.al_tree.specs.declared.expression.Expr.TheOpen.{Expr-F}
use Rattle.al_tree.specs.declared.statement.Variable.{Variable}
use Rattle.al_tree.specs.declared.statement.Stmt.{Stmt, fold-roll-Stmt, map-Stmt, roll-Stmt}
use Rattle.al_tree.specs.declared.statement.Stmt.TheFolds.{ind-Stmt}
use Rattle.al_tree.specs.declared.statement.Stmt.TheOpen.{Stmt-F}
use Rattle.al_typed.specs.declared.ty.Ty.{Ty}
use Rattle.al_environment.specs.declared.environment.Environment.{Environment}
use Rattle.al_environment.specs.declared.environment.Here.{Here}
use Rattle.al_environment.specs.Written.{written}
use Rattle.al_type_rules.specs.Rules.{rule_18_size}
use Rattle.al_type_rules.specs.Types.{declared, known, variable_faults}
use Rattle.al_type_rules.specs.Written.{faults_in}
use Rattle.al_body_parts.specs.declared.parts.Parts.{Parts}
use Rattle.al_body_parts.specs.Parts.{listed, nothing, type_faults, with_base, with_declared, with_faults, with_label, with_local, with_text, with_type}
use Rattle.al_body_parts.specs.Expressions.{Part, Way, behind_format, each, expr, is_print, optional, part, step}
use Rattle.al_body_parts.specs.Statements.{branch, parts, stmt, stmt_step, variable, variables}
use Rattle.al_sound_expressions.specs.Expressions.{Every}
use Rattle.al_sound_statements.specs.Bodies.{all_types, each_types, expr_types, expr_types_step, optional_types, types_in, types_step, variable_types}
use Rattle.al_sound_statements.specs.Gathered.{BreaksNone, TypesAreGathered}
use Rattle.al_sound_operators.proofs.OperatorKinds.{not_true}
use Rattle.al_sound_statements.proofs.StatementLists.{every_also, every_append, every_at}
use Rattle.al_sound_statements.proofs.WrittenTypes.{written_same}

-- ---- lists

none_left : {A : Type 0} (xs ys : List A) → (xs ++ ys) ≡ [] → (xs ≡ []) × (ys ≡ [])
none_left [] ys h = (refl, h)
none_left (x ∷ xs) ys h = absurd (cc)

asked_none : (at : Place) (b : Bool) → ask 18 at b ≡ [] → b ≡ true
asked_none at true h = refl
asked_none at false h = absurd (cc)

module _ (env : Environment) (here : Here) where
  -- ---- what is added

  -- it is among these types, where it has a meaning
  abbrev IsAmong : List Ty → TypeTree → Type 0
  IsAmong us t = (u : Ty) → written env here t ≡ Some u → Contains us u

  -- to what was gathered these were added
  record Adds (ts : List TypeTree) (q r : Parts) : Type 0 where
    before : r.faults ≡ [] → q.faults ≡ []
    free : r.faults ≡ [] → Every (BreaksNone env here) ts
    kept : (u : Ty) → Contains q.types u → Contains r.types u
    met : Every (IsAmong r.types) ts

  abbrev Does : List TypeTree → Way → Type 0
  Does ts way = (inside : Bool) (q : Parts) → Adds ts q (way inside q)

  nothing_added : (q r : Parts) → (r.faults ≡ [] → q.faults ≡ []) → ((u : Ty) → Contains q.types u → Contains r.types u) → Adds [] q r
  nothing_added q r h k = record { before = h; free = λ e. tt; kept = k; met = tt }

  same : (q : Parts) → Adds [] q q
  same q = nothing_added q q (λ h. h) (λ u c. c)

  follow : (ts us : List TypeTree) (q r v : Parts) → Adds ts q r → Adds us r v → Adds (ts ++ us) q v
  follow ts us q r v h k = record {
    before = λ e. h.before (k.before e);
    free = λ e. every_append (BreaksNone env here) ts us (h.free (k.before e)) (k.free e);
    kept = λ u c. k.kept u (h.kept u c);
    met = every_append (IsAmong v.types) ts us (every_also (IsAmong r.types) (IsAmong v.types) (λ t m u e. k.kept u (m u e)) ts h.met) k.met;
  }

  type_is : (o : Option Ty) (us : List Ty) (u : Ty) → o ≡ Some u → Contains (us ++ listed o) u
  type_is None us u h = absurd (cc)
  type_is (Some t) us u h = subst (λ (a : Ty). Contains (us ++ t ∷ []) a) (some_of h) (Contains-append_right us (t ∷ []) t (0, omega arith, refl))
    where
      some_of : Some t ≡ Some u → t ≡ u
      some_of h = cc

  type_adds : (at : Place) (t : TypeTree) (q : Parts) → Adds (t ∷ []) q (with_type env here at t q)
  unfolding with_type
  type_adds at t q = record {
    before = λ e. (none_left q.faults (type_faults env here at t) e).0;
    free = λ e. let b = none_left (faults_in env here t) (ask 18 at (rule_18_size env.aggregates (written env here t))) (none_left q.faults (type_faults env here at t) e).1 in
        ((b.0, asked_none at (rule_18_size env.aggregates (written env here t)) b.1), tt);
    kept = λ u c. Contains-append_left q.types (listed (written env here t)) u c;
    met = (λ u e. type_is (written env here t) q.types u e, tt);
  }

  faults_add : (fs : List TypeFault) (q : Parts) → Adds [] q (with_faults fs q)
  faults_add fs q = nothing_added q (with_faults fs q) (λ e. (none_left q.faults fs e).0) (λ u c. c)

  base_adds : (base : TypeTree) (q : Parts) → Adds [] q (with_base env here base q)
  unfolding with_base
  base_adds base q = faults_add (faults_in env here base) q

  declared_adds : (inside : Bool) (dcl : Dcl) (t : Ty) (q : Parts) → Adds [] q (with_declared inside dcl t q)
  declared_adds true dcl t q = nothing_added q (with_declared true dcl t q) (λ h. h) (λ u c. Contains-append_left q.types (t ∷ []) u c)
  declared_adds false dcl t q = nothing_added q (with_declared false dcl t q) (λ h. h) (λ u c. c)

  label_adds : (inside : Bool) (at : Place) (q : Parts) → Adds [] q (with_label inside at q)
  label_adds true at q = same q
  label_adds false at q = nothing_added q (with_label false at q) (λ h. h) (λ u c. c)

  text_adds : (at : Place) (bytes : List ℕ) (q : Parts) → Adds [] q (with_text at bytes q)
  text_adds at bytes q = nothing_added q (with_text at bytes q) (λ h. h) (λ u c. c)

  local_adds : (base : Option Ty) (inside : Bool) (dcl : Dcl) (q : Parts) → Adds [] q (with_local env base inside dcl q)
  unfolding with_local
  local_adds base inside dcl q =
      let r = with_faults (variable_faults env base dcl) q in
      follow [] [] q r (with_local env base inside dcl q) (faults_add (variable_faults env base dcl) q) (declared_adds inside dcl (known (declared env base dcl)) r)

  -- ---- expressions

  -- a string constant has no types
  record Holds (e : Expr) : Type 0 where
    does : Does (expr_types e) (expr env here e)
    plain : (part env here e).is_text ≡ true → expr_types e ≡ []

  abbrev Checked : Type 0
  Checked = (e : Expr) × Holds e

  abbrev tree_of : Expr-F Checked → Expr-F Expr
  tree_of y = map-Expr Checked Expr (λ c. c.0) y

  abbrev trees_of : List Checked → List Expr
  trees_of ys = map (λ y. y.0) ys

  abbrev parts_of : Expr-F Expr → Expr-F Part
  parts_of z = map-Expr Expr Part (part env here) z

  abbrev types_of : Expr-F Expr → List TypeTree
  types_of z = expr_types_step (map-Expr Expr (List TypeTree) expr_types z)

  two : (a b : Checked) → Does (expr_types a.0 ++ expr_types b.0) (λ inside q. expr env here b.0 inside (expr env here a.0 inside q))
  two a b inside q =
      let r = expr env here a.0 inside q in follow (expr_types a.0) (expr_types b.0) q r (expr env here b.0 inside r) (a.1.does inside q) (b.1.does inside r)

  each_adds : (ys : List Checked) → Does (all_types (map expr_types (trees_of ys))) (each (λ (p : Part). p.way) (map (part env here) (trees_of ys)))
  each_adds [] inside q = same q
  each_adds (y ∷ ys) inside q =
      let r = expr env here y.0 inside q in
      let ts = all_types (map expr_types (trees_of ys)) in
      follow (expr_types y.0) ts q r (each (λ (p : Part). p.way) (map (part env here) (trees_of ys)) inside r) (y.1.does inside q) (each_adds ys inside r)

  -- the format of a print is left out
  format_adds : (y : Checked) (ys : List Checked) (is_text : Bool) → (is_text ≡ true → expr_types y.0 ≡ [])
      → Does (expr_types y.0 ++ all_types (map expr_types (trees_of ys)))
      (each (λ (p : Part). p.way) (if is_text then map (part env here) (trees_of ys) else part env here y.0 ∷ map (part env here) (trees_of ys)))
  format_adds y ys true h inside q =
      let ts = all_types (map expr_types (trees_of ys)) in
      let r = each (λ (p : Part). p.way) (map (part env here) (trees_of ys)) inside q in
      subst (λ (us : List TypeTree). Adds (us ++ ts) q r) (sym (h refl)) (each_adds ys inside q)
  format_adds y ys false h inside q = each_adds (y ∷ ys) inside q

  behind_adds : (ys : List Checked) (is_print : Bool)
      → Does (all_types (map expr_types (trees_of ys))) (each (λ (p : Part). p.way) (behind_format (λ (p : Part). p.is_text) is_print (map (part env here) (trees_of ys))))
  behind_adds ys false inside q = each_adds ys inside q
  behind_adds [] true inside q = same q
  behind_adds (y ∷ ys) true inside q = format_adds y ys (part env here y.0).is_text y.1.plain inside q

  step_adds : (y : Expr-F Checked) → Does (types_of (tree_of y)) (step env here (parts_of (tree_of y))).way
  step_adds (Expr-F.Number at value) inside q = same q
  step_adds (Expr-F.Char at value) inside q = same q
  step_adds (Expr-F.Text at bytes) inside q = text_adds at bytes q
  step_adds (Expr-F.Nil at) inside q = same q
  step_adds (Expr-F.Name at name) inside q = same q
  step_adds (Expr-F.Tuple at parts) inside q = each_adds parts inside q
  step_adds (Expr-F.Unary at op a) inside q = a.1.does inside q
  step_adds (Expr-F.Cast at to a) inside q =
      let r = with_type env here at to q in follow (to ∷ []) (expr_types a.0) q r (expr env here a.0 inside r) (type_adds at to q) (a.1.does inside r)
  step_adds (Expr-F.SizeofType at of) inside q = type_adds at of q
  step_adds (Expr-F.SizeofValue at a) inside q = a.1.does inside q
  step_adds (Expr-F.Index at a b) inside q = two a b inside q
  step_adds (Expr-F.Member at a how name) inside q = a.1.does inside q
  step_adds (Expr-F.Call at f xs) inside q =
      let r = expr env here f.0 inside q in
      let print = is_print env.scopes.names (part env here f.0).name in
      let v = each (λ (p : Part). p.way) (behind_format (λ (p : Part). p.is_text) print (map (part env here) (trees_of xs))) inside r in
      follow (expr_types f.0) (all_types (map expr_types (trees_of xs))) q r v (f.1.does inside q) (behind_adds xs print inside r)
  step_adds (Expr-F.Postfix at op a) inside q = a.1.does inside q
  step_adds (Expr-F.Binary at op a b) inside q = two a b inside q
  step_adds (Expr-F.Iterator at a b) inside q = two a b inside q
  step_adds (Expr-F.Assign at op a b) inside q = two a b inside q
  step_adds (Expr-F.Sequence at parts) inside q = each_adds parts inside q

  step_plain : (z : Expr-F Expr) → (step env here (parts_of z)).is_text ≡ true → types_of z ≡ []
  step_plain (Expr-F.Number at value) h = refl
  step_plain (Expr-F.Char at value) h = refl
  step_plain (Expr-F.Text at bytes) h = refl
  step_plain (Expr-F.Nil at) h = refl
  step_plain (Expr-F.Name at name) h = refl
  step_plain (Expr-F.Tuple at parts) h = not_true h
  step_plain (Expr-F.Unary at op a) h = not_true h
  step_plain (Expr-F.Cast at to a) h = not_true h
  step_plain (Expr-F.SizeofType at of) h = not_true h
  step_plain (Expr-F.SizeofValue at a) h = not_true h
  step_plain (Expr-F.Index at a b) h = not_true h
  step_plain (Expr-F.Member at a how name) h = not_true h
  step_plain (Expr-F.Call at f xs) h = not_true h
  step_plain (Expr-F.Postfix at op a) h = not_true h
  step_plain (Expr-F.Binary at op a b) h = not_true h
  step_plain (Expr-F.Iterator at a b) h = not_true h
  step_plain (Expr-F.Assign at op a b) h = not_true h
  step_plain (Expr-F.Sequence at parts) h = not_true h

  -- of what is said of a tree by its folds
  of_folds : (e : Expr) (ts : List TypeTree) (p : Part) → expr_types e ≡ ts → part env here e ≡ p → Does ts p.way → (p.is_text ≡ true → ts ≡ []) → Holds e
  of_folds e ts p s k d t =
      let does = subst (λ (us : List TypeTree). Does us p.way) (sym s) d in
      let plain = subst (λ (us : List TypeTree). p.is_text ≡ true → us ≡ []) (sym s) t in
      record { does = subst (λ (a : Part). Does (expr_types e) a.way) (sym k) does; plain = subst (λ (a : Part). a.is_text ≡ true → expr_types e ≡ []) (sym k) plain }

  by_parts : (y : Expr-F Checked) → Holds (roll-Expr (tree_of y))
  unfolding expr_types part
  by_parts y =
      let z = tree_of y in
      of_folds (roll-Expr z) (types_of z) (step env here (parts_of z)) (fold-roll-Expr (List TypeTree) expr_types_step z) (fold-roll-Expr Part (step env here) z)
      (step_adds y) (step_plain z)

  expression_adds : (e : Expr) → Holds e
  expression_adds = ind-Expr Holds (λ x y is. subst (λ z. Holds (roll-Expr z)) is (by_parts y))

  -- ---- statements

  abbrev In : List TypeTree → (Parts → Parts) → Type 0
  In ts f = (q : Parts) → Adds ts q (f q)

  expr_adds : (e : Expr) → Does (expr_types e) (expr env here e)
  expr_adds e = (expression_adds e).does

  optional_adds : (e : Option Expr) → Does (optional_types e) (optional (expr env here) e)
  optional_adds None inside q = same q
  optional_adds (Some e) inside q = expr_adds e inside q

  exprs_add : (es : List Expr) → Does (each_types es) (each (expr env here) es)
  exprs_add [] inside q = same q
  exprs_add (e ∷ es) inside q =
      let r = expr env here e inside q in follow (expr_types e) (each_types es) q r (each (expr env here) es inside r) (expr_adds e inside q) (exprs_add es inside r)

  variable_adds : (base : Option Ty) (v : Variable) → Does (variable_types v) (variable env here base v)
  variable_adds base v inside q =
      let r = with_local env base inside v.dcl q in
      follow [] (optional_types v.value) q r (optional (expr env here) v.value inside r) (local_adds base inside v.dcl q) (optional_adds v.value inside r)

  each_variable : (base : Option Ty) (vs : List Variable) → Does (flat_map variable_types vs) (each (variable env here base) vs)
  each_variable base [] inside q = same q
  each_variable base (v ∷ vs) inside q =
      let r = variable env here base v inside q in
      follow (variable_types v) (flat_map variable_types vs) q r (each (variable env here base) vs inside r) (variable_adds base v inside q) (each_variable base vs inside r)

  variables_add : (base : TypeTree) (vs : List Variable) → Does (flat_map variable_types vs) (variables env here base vs)
  variables_add base vs inside q =
      let r = with_base env here base q in
      follow [] (flat_map variable_types vs) q r (each (variable env here (written env here base)) vs inside r) (base_adds base q) (each_variable (written env here base) vs inside r)

  abbrev Gathers : Stmt → Type 0
  Gathers x = Does (types_in x) (stmt env here x)

  abbrev Known : Type 0
  Known = (x : Stmt) × Gathers x

  abbrev stmt_of : Stmt-F Known → Stmt-F Stmt
  stmt_of y = map-Stmt Known Stmt (λ c. c.0) y

  abbrev stmts_of : List Known → List Stmt
  stmts_of ys = map (λ y. y.0) ys

  abbrev ways_of : Stmt-F Stmt → Stmt-F Way
  ways_of z = map-Stmt Stmt Way (stmt env here) z

  abbrev written_in : Stmt-F Stmt → List TypeTree
  written_in z = types_step (map-Stmt Stmt (List TypeTree) types_in z)

  statements_add : (ys : List Known) → Does (all_types (map types_in (stmts_of ys))) (each (λ way. way) (map (stmt env here) (stmts_of ys)))
  statements_add [] inside q = same q
  statements_add (y ∷ ys) inside q =
      let r = stmt env here y.0 inside q in
      let ts = all_types (map types_in (stmts_of ys)) in
      follow (types_in y.0) ts q r (each (λ way. way) (map (stmt env here) (stmts_of ys)) inside r) (y.1 inside q) (statements_add ys inside r)

  branches_add : (ys : List Known) → Does (all_types (map types_in (stmts_of ys))) (each (branch env here) (map (stmt env here) (stmts_of ys)))
  branches_add [] inside q = same q
  branches_add (y ∷ ys) inside q =
      let r = stmt env here y.0 true q in
      let ts = all_types (map types_in (stmts_of ys)) in
      follow (types_in y.0) ts q r (each (branch env here) (map (stmt env here) (stmts_of ys)) inside r) (y.1 true q) (branches_add ys inside r)

  -- two, the first one's types first
  two_add : (ts us : List TypeTree) (f g : Way) → Does ts f → Does us g → Does (ts ++ us) (λ inside q. g inside (f inside q))
  two_add ts us f g h k inside q = let r = f inside q in follow ts us q r (g inside r) (h inside q) (k inside r)

  labelled_adds : (at : Place) (body : Known) → Does (types_in body.0) (λ inside q. stmt env here body.0 inside (with_label inside at q))
  labelled_adds at body inside q =
      let r = with_label inside at q in follow [] (types_in body.0) q r (stmt env here body.0 inside r) (label_adds inside at q) (body.1 inside r)

  stmt_adds : (y : Stmt-F Known) → Does (written_in (stmt_of y)) (stmt_step env here (ways_of (stmt_of y)))
  stmt_adds (Stmt-F.Empty at) inside q = same q
  stmt_adds (Stmt-F.Block at body) inside q = statements_add body inside q
  stmt_adds (Stmt-F.Declare at base vs) inside q = variables_add base vs inside q
  stmt_adds (Stmt-F.Value at e) inside q = expr_adds e inside q
  stmt_adds (Stmt-F.Label at name body) inside q = labelled_adds at body inside q
  stmt_adds (Stmt-F.If at e met None) inside q =
      two_add (expr_types e) (types_in met.0 ++ []) (expr env here e) (λ inside q. stmt env here met.0 inside q) (expr_adds e)
      (two_add (types_in met.0) [] (stmt env here met.0) (λ inside q. q) met.1 (λ inside q. same q)) inside q
  stmt_adds (Stmt-F.If at e met (Some other)) inside q =
      two_add (expr_types e) (types_in met.0 ++ types_in other.0) (expr env here e) (λ inside q. stmt env here other.0 inside (stmt env here met.0 inside q)) (expr_adds e)
      (two_add (types_in met.0) (types_in other.0) (stmt env here met.0) (stmt env here other.0) met.1 other.1) inside q
  stmt_adds (Stmt-F.While at e body) inside q = two_add (expr_types e) (types_in body.0) (expr env here e) (stmt env here body.0) (expr_adds e) body.1 inside q
  stmt_adds (Stmt-F.Do at body e) inside q = two_add (types_in body.0) (expr_types e) (stmt env here body.0) (expr env here e) body.1 (expr_adds e) inside q
  stmt_adds (Stmt-F.For at start e next body) inside q =
      let o = optional (expr env here) in
      two_add (optional_types start) (optional_types e ++ (optional_types next ++ types_in body.0)) (o start) (λ inside q. stmt env here body.0 inside (o next inside (o e inside q)))
      (optional_adds start)
      (two_add (optional_types e) (optional_types next ++ types_in body.0) (o e) (λ inside q. stmt env here body.0 inside (o next inside q)) (optional_adds e)
      (two_add (optional_types next) (types_in body.0) (o next) (stmt env here body.0) (optional_adds next) body.1)) inside q
  stmt_adds (Stmt-F.Switch at e body) inside q =
      two_add (expr_types e) (all_types (map types_in (stmts_of body))) (expr env here e) (each (λ way. way) (map (stmt env here) (stmts_of body))) (expr_adds e) (statements_add body) inside q
  stmt_adds (Stmt-F.Alt at body) inside q = statements_add body inside q
  stmt_adds (Stmt-F.Case at e) inside q = expr_adds e inside q
  stmt_adds (Stmt-F.Default at) inside q = same q
  stmt_adds (Stmt-F.Par at branches) inside q = branches_add branches inside q
  stmt_adds (Stmt-F.Rescue at name body) inside q = labelled_adds at body inside q
  stmt_adds (Stmt-F.Raise at name) inside q = same q
  stmt_adds (Stmt-F.Return at e) inside q = optional_adds e inside q
  stmt_adds (Stmt-F.Become at e) inside q = expr_adds e inside q
  stmt_adds (Stmt-F.Break at count) inside q = same q
  stmt_adds (Stmt-F.Continue at count) inside q = same q
  stmt_adds (Stmt-F.Goto at name) inside q = same q
  stmt_adds (Stmt-F.Alloc at es) inside q = exprs_add es inside q
  stmt_adds (Stmt-F.Unalloc at es) inside q = exprs_add es inside q
  stmt_adds (Stmt-F.Check at e text) inside q = expr_adds e inside q
  stmt_adds (Stmt-F.Proc at es) inside q = exprs_add es inside q
  stmt_adds (Stmt-F.Task at es) inside q = exprs_add es inside q

  -- by its folds
  gathers_of : (x : Stmt) (ts : List TypeTree) (way : Way) → types_in x ≡ ts → stmt env here x ≡ way → Does ts way → Gathers x
  gathers_of x ts way s k d = subst (Does (types_in x)) (sym k) (subst (λ (us : List TypeTree). Does us way) (sym s) d)

  by_statements : (y : Stmt-F Known) → Gathers (roll-Stmt (stmt_of y))
  unfolding types_in stmt
  by_statements y =
      let z = stmt_of y in
      gathers_of (roll-Stmt z) (written_in z) (stmt_step env here (ways_of z)) (fold-roll-Stmt (List TypeTree) types_step z) (fold-roll-Stmt Way (stmt_step env here) z) (stmt_adds y)

  statement_adds : (x : Stmt) → Gathers x
  statement_adds = ind-Stmt Gathers (λ x y is. subst (λ z. Gathers (roll-Stmt z)) is (by_statements y))

  body_adds : (x : Stmt) → Adds (types_in x) nothing (parts env here x)
  unfolding parts
  body_adds x = statement_adds x false nothing

  free_of_faults : (x : Stmt) → (parts env here x).faults ≡ [] → (t : TypeTree) → Contains (types_in x) t → BreaksNone env here t
  free_of_faults x e t c = every_at (BreaksNone env here) (types_in x) t ((body_adds x).free e) c

  among_types : (x : Stmt) (t : TypeTree) → Contains (types_in x) t → (u : Ty) → written env here t ≡ Some u → Contains (parts env here x).types u
  among_types x t c = every_at (IsAmong (parts env here x).types) (types_in x) t (body_adds x).met c

pub types_are_gathered : TypesAreGathered
types_are_gathered = record {
  faults = free_of_faults;
  types = λ env here there e tree t c u q. among_types env there tree t c u (sym (written_same env here there e t) ∙ q);
}
