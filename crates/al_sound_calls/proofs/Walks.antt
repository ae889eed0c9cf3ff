-- What the parts of items leave as it was where names are resolved.
use Rattle.std.proofs.Common.{◌≡◌, ℕ, List, [], ◌∷◌, ◌++◌, length, map, take, Option, Some, None, refl, sym, ap, ◌∙◌, subst, append-nil, append_assoc}
use Rattle.std.proofs.Math.Seq.{take-append_seam}
use Rattle.std.specs.List.{Contains}
use Rattle.std.proofs.lemmas.List.Elements.{Contains-append_left}
use Rattle.al_base.specs.declared.place.Place.{Place}
use Rattle.al_tree.specs.declared.constants.EnumConstant.{EnumConstant}
use Rattle.al_tree.specs.declared.expression.Name.{Name}
use Rattle.al_tree.specs.declared.expression.Expr.{Expr, roll-Expr, map-Expr, fold-roll-Expr}
use Rattle.al_tree.specs.declared.expression.Expr.TheFolds.{ind-Expr}
use Rattle.al_tree.specs.declared.expression.Expr.TheOpen.{Expr-F}
use Rattle.al_tree.specs.declared.type_tree.Bound.{Bound}
use Rattle.al_tree.specs.declared.type_tree.Dcl.{Dcl}
use Rattle.al_tree.specs.declared.type_tree.TypeTree.{TypeTree, roll-TypeTree, map-TypeTree, fold-roll-TypeTree}
use Rattle.al_tree.specs.declared.type_tree.TypeTree.TheFolds.{ind-TypeTree}
use Rattle.al_tree.specs.declared.type_tree.TypeTree.TheOpen.{TypeTree-F}
use Rattle.al_tree.specs.declared.statement.Variable.{Variable}
use Rattle.al_tree.specs.declared.statement.Stmt.{Stmt, roll-Stmt, map-Stmt, fold-roll-Stmt}
use Rattle.al_tree.specs.declared.statement.Stmt.TheFolds.{ind-Stmt}
use Rattle.al_tree.specs.declared.statement.Stmt.TheOpen.{Stmt-F}
use Rattle.al_rules.specs.declared.fault.TypeFault.{TypeFault}
use Rattle.al_rules.specs.Outcome.{ask}
use Rattle.al_scope.specs.declared.declaration.Declaration.{Declaration}
use Rattle.al_scope.specs.declared.declaration.Resolved.{Resolved}
use Rattle.al_scope.specs.Rules.{is_declared, is_constant_bound, bound_place}
use Rattle.al_scope.specs.Names.{resolved_if, asked, found, used, meant, local, nameless, scope, branch, body}
use Rattle.al_scope.specs.Types.{Way, each, all, optional, bound, type_step, type_tree, dcl_bounds}
use Rattle.al_scope.specs.Expressions.{expr_step, expr}
use Rattle.al_scope.specs.Statements.{variable, scoped, parted, stmt_step, stmt}
use Rattle.al_sound_calls.proofs.Unnamed.{KnownNames, Walk}

-- the same is known, and entries are added
pub record Stays (w u : Walk) : Type 0 where
  pub known : u.known ≡ w.known
  pub functions : u.functions ≡ w.functions
  pub names : (r : Resolved) → Contains w.names r → Contains u.names r

-- more is known
pub record Keeps (w u : Walk) : Type 0 where
  pub more : KnownNames
  pub known : u.known ≡ w.known ++ more
  pub functions : u.functions ≡ w.functions
  pub names : (r : Resolved) → Contains w.names r → Contains u.names r

pub same : (w : Walk) → Stays w w
same w = record { known = refl; functions = refl; names = λ r h. h }

pub next : {w v u : Walk} → Stays w v → Stays v u → Stays w u
next a b = record { known = b.known ∙ a.known; functions = b.functions ∙ a.functions; names = λ r h. b.names r (a.names r h) }

pub kept : {w u : Walk} → Stays w u → Keeps w u
kept {w} {u} a = record { more = []; known = a.known ∙ sym (append-nil w.known); functions = a.functions; names = a.names }

-- one part and then another
pub then : {w v u : Walk} → Keeps w v → Keeps v u → Keeps w u
then {w} {v} {u} a b = record {
  more = a.more ++ b.more;
  known = b.known ∙ ap (λ l. l ++ b.more) a.known ∙ append_assoc w.known a.more b.more;
  functions = b.functions ∙ a.functions;
  names = λ r h. b.names r (a.names r h);
}

-- what is known up to the end of a scope
pub ended : {w u : Walk} → Keeps w u → take (length w.known) u.known ≡ w.known
ended {w} a = ap (take (length w.known)) a.known ∙ take-append_seam w.known a.more

pub quiet : (fs : List TypeFault) (w : Walk) → Stays w (asked fs w)
quiet fs w = record { known = refl; functions = refl; names = λ r h. h }

pub found_stays : (at : Place) (d : Option Declaration) (w : Walk) → Stays w (found at d w)
found_stays at d w = record { known = refl; functions = refl; names = λ r h. Contains-append_left w.names (resolved_if at d) r h }

used_stays : (at : Place) (name : ℕ) (w : Walk) → Stays w (used at name w)
unfolding used
used_stays at name w = next (quiet (ask 1 at (is_declared (meant w name))) w) (found_stays at (meant w name) (asked (ask 1 at (is_declared (meant w name))) w))

pub local_keeps : (name : Name) (w : Walk) → Keeps w (local name w)
unfolding local
local_keeps name w = record { more = _ ∷ []; known = refl; functions = refl; names = λ r h. Contains-append_left w.names (_ ∷ []) r h }

pub nameless_stays : (w : Walk) → Stays w (nameless w)
unfolding nameless
nameless_stays w = record { known = refl; functions = refl; names = λ r h. h }

module _ (c : List EnumConstant) where
  pub each_stays : {A : Type 0} (f : A → Way) → ((x : A) (w : Walk) → Stays w (f x c w)) → (xs : List A) (w : Walk) → Stays w (each f xs c w)
  each_stays f h [] w = same w
  each_stays f h (x ∷ xs) w = next (h x w) (each_stays f h xs (f x c w))

  pub each_keeps : {A : Type 0} (f : A → Way) → ((x : A) (w : Walk) → Keeps w (f x c w)) → (xs : List A) (w : Walk) → Keeps w (each f xs c w)
  each_keeps f h [] w = kept (same w)
  each_keeps f h (x ∷ xs) w = then (h x w) (each_keeps f h xs (f x c w))

  pub optional_stays : {A : Type 0} (f : A → Way) → ((x : A) (w : Walk) → Stays w (f x c w)) → (o : Option A) (w : Walk) → Stays w (optional f o c w)
  optional_stays f h None w = same w
  optional_stays f h (Some x) w = h x w

  -- ---- bounds and types

  pub bound_stays : (b : Bound) (w : Walk) → Stays w (bound b c w)
  unfolding bound
  bound_stays b w = quiet (ask 22 (bound_place b) (is_constant_bound b c (bound_place b))) w

  pub dcl_stays : (d : Dcl) (w : Walk) → Stays w (dcl_bounds d c w)
  dcl_stays d w = each_stays bound bound_stays d.bounds w

  abbrev Quiet : TypeTree → Type 0
  Quiet t = (w : Walk) → Stays w (type_tree t c w)

  abbrev CheckedType : Type 0
  CheckedType = (t : TypeTree) × Quiet t

  abbrev types_of : List CheckedType → List TypeTree
  types_of ys = map (λ y. y.0) ys

  types_stay : (ys : List CheckedType) (w : Walk) → Stays w (all (map type_tree (types_of ys)) c w)
  types_stay [] w = same w
  types_stay (y ∷ ys) w = next (y.1 w) (types_stay ys (type_tree y.0 c w))

  abbrev type_of : TypeTree-F CheckedType → TypeTree-F TypeTree
  type_of y = map-TypeTree CheckedType TypeTree (λ t. t.0) y

  type_step_stays : (y : TypeTree-F CheckedType) (w : Walk) → Stays w (type_step (map-TypeTree TypeTree Way type_tree (type_of y)) c w)
  type_step_stays (TypeTree-F.Basic at basic) w = same w
  type_step_stays (TypeTree-F.Named at name arguments) w = types_stay arguments w
  type_step_stays (TypeTree-F.Tuple at parts) w = types_stay parts w
  type_step_stays (TypeTree-F.Chan at element capacity) w = next (element.1 w) (optional_stays bound bound_stays capacity (type_tree element.0 c w))
  type_step_stays (TypeTree-F.Pointer at to) w = to.1 w
  type_step_stays (TypeTree-F.Array at size element) w = next (element.1 w) (bound_stays size (type_tree element.0 c w))

  rolled_type : (y : TypeTree-F CheckedType) → Quiet (roll-TypeTree (type_of y))
  unfolding type_tree
  rolled_type y w = subst (λ (way : Way). Stays w (way c w)) (sym (fold-roll-TypeTree Way type_step (type_of y))) (type_step_stays y w)

  pub type_stays : (t : TypeTree) (w : Walk) → Stays w (type_tree t c w)
  type_stays t = ind-TypeTree Quiet (λ x y is. subst (λ z. Quiet (roll-TypeTree z)) is (rolled_type y)) t

  -- ---- expressions

  abbrev IsQuiet : Expr → Type 0
  IsQuiet e = (w : Walk) → Stays w (expr e c w)

  abbrev CheckedExpr : Type 0
  CheckedExpr = (e : Expr) × IsQuiet e

  abbrev exprs_of : List CheckedExpr → List Expr
  exprs_of ys = map (λ y. y.0) ys

  exprs_stay : (ys : List CheckedExpr) (w : Walk) → Stays w (all (map expr (exprs_of ys)) c w)
  exprs_stay [] w = same w
  exprs_stay (y ∷ ys) w = next (y.1 w) (exprs_stay ys (expr y.0 c w))

  abbrev expr_of : Expr-F CheckedExpr → Expr-F Expr
  expr_of y = map-Expr CheckedExpr Expr (λ e. e.0) y

  expr_step_stays : (y : Expr-F CheckedExpr) (w : Walk) → Stays w (expr_step (map-Expr Expr Way expr (expr_of y)) c w)
  expr_step_stays (Expr-F.Number at value) w = same w
  expr_step_stays (Expr-F.Char at value) w = same w
  expr_step_stays (Expr-F.Text at bytes) w = same w
  expr_step_stays (Expr-F.Nil at) w = same w
  expr_step_stays (Expr-F.Name at name) w = used_stays at name w
  expr_step_stays (Expr-F.Tuple at parts) w = exprs_stay parts w
  expr_step_stays (Expr-F.Unary at op a) w = a.1 w
  expr_step_stays (Expr-F.Cast at to a) w = next (type_stays to w) (a.1 (type_tree to c w))
  expr_step_stays (Expr-F.SizeofType at of) w = type_stays of w
  expr_step_stays (Expr-F.SizeofValue at a) w = a.1 w
  expr_step_stays (Expr-F.Index at a b) w = next (a.1 w) (b.1 (expr a.0 c w))
  expr_step_stays (Expr-F.Member at a how name) w = a.1 w
  expr_step_stays (Expr-F.Call at f xs) w = next (f.1 w) (exprs_stay xs (expr f.0 c w))
  expr_step_stays (Expr-F.Postfix at op a) w = a.1 w
  expr_step_stays (Expr-F.Binary at op a b) w = next (a.1 w) (b.1 (expr a.0 c w))
  expr_step_stays (Expr-F.Iterator at a b) w = next (a.1 w) (b.1 (expr a.0 c w))
  expr_step_stays (Expr-F.Assign at op a b) w = next (a.1 w) (b.1 (expr a.0 c w))
  expr_step_stays (Expr-F.Sequence at parts) w = exprs_stay parts w

  rolled_expr : (y : Expr-F CheckedExpr) → IsQuiet (roll-Expr (expr_of y))
  unfolding expr
  rolled_expr y w = subst (λ (way : Way). Stays w (way c w)) (sym (fold-roll-Expr Way expr_step (expr_of y))) (expr_step_stays y w)

  pub expr_stays : (e : Expr) (w : Walk) → Stays w (expr e c w)
  expr_stays e = ind-Expr IsQuiet (λ x y is. subst (λ z. IsQuiet (roll-Expr z)) is (rolled_expr y)) e

  -- ---- statements

  variable_keeps : (v : Variable) (w : Walk) → Keeps w (variable v c w)
  unfolding variable
  variable_keeps v w =
      then (kept (dcl_stays v.dcl w)) (then (local_keeps v.dcl.name (dcl_bounds v.dcl c w)) (kept (optional_stays expr expr_stays v.value (local v.dcl.name (dcl_bounds v.dcl c w)))))

  value_keeps : (e : Expr) (w : Walk) → Keeps w (expr e c w)
  value_keeps e w = kept (expr_stays e w)

  optional_keeps : (o : Option Expr) (w : Walk) → Keeps w (optional expr o c w)
  optional_keeps o w = kept (optional_stays expr expr_stays o w)

  values_keep : (es : List Expr) (w : Walk) → Keeps w (each expr es c w)
  values_keep es w = kept (each_stays expr expr_stays es w)

  abbrev Kept : Stmt → Type 0
  Kept s = (w : Walk) → Keeps w (stmt s c w)

  abbrev Checked : Type 0
  Checked = (s : Stmt) × Kept s

  abbrev trees : List Checked → List Stmt
  trees ys = map (λ y. y.0) ys

  all_keep : (ys : List Checked) (w : Walk) → Keeps w (all (map stmt (trees ys)) c w)
  all_keep [] w = kept (same w)
  all_keep (y ∷ ys) w = then (y.1 w) (all_keep ys (stmt y.0 c w))

  scoped_stays : (a : Way) (w : Walk) → Keeps w (a c w) → Stays w (scoped a c w)
  unfolding scope
  scoped_stays a w h = record { known = ended h; functions = h.functions; names = h.names }

  parted_stays : (a : Way) → ((w : Walk) → Keeps w (a c w)) → (w : Walk) → Stays w (parted a c w)
  unfolding branch
  parted_stays a h w =
      let v : Walk = record w { around = w.around ++ w.start ∷ []; start = length w.locals } in
      let k = h v in
      record { known = ended k; functions = k.functions; names = k.names }

  pub body_stays : (a : Way) → ((w : Walk) → Keeps w (a c w)) → (w : Walk) → Stays w (body (a c) w)
  unfolding body
  body_stays a h w =
      let v : Walk = record w { around = []; start = 0; locals = [] } in
      let k = h v in
      record { known = ended k; functions = k.functions; names = k.names }

  branches_stay : (ys : List Checked) (w : Walk) → Stays w (each parted (map stmt (trees ys)) c w)
  branches_stay [] w = same w
  branches_stay (y ∷ ys) w = next (parted_stays (stmt y.0) y.1 w) (branches_stay ys (parted (stmt y.0) c w))

  abbrev tree_of : Stmt-F Checked → Stmt-F Stmt
  tree_of y = map-Stmt Checked Stmt (λ s. s.0) y

  step_keeps : (y : Stmt-F Checked) (w : Walk) → Keeps w (stmt_step (map-Stmt Stmt Way stmt (tree_of y)) c w)
  step_keeps (Stmt-F.Empty at) w = kept (same w)
  step_keeps (Stmt-F.Block at body) w = kept (scoped_stays (all (map stmt (trees body))) w (all_keep body w))
  step_keeps (Stmt-F.Declare at base vs) w = then (kept (type_stays base w)) (each_keeps variable variable_keeps vs (type_tree base c w))
  step_keeps (Stmt-F.Value at value) w = value_keeps value w
  step_keeps (Stmt-F.Label at name body) w = body.1 w
  step_keeps (Stmt-F.If at condition met None) w = then (value_keeps condition w) (met.1 (expr condition c w))
  step_keeps (Stmt-F.If at condition met (Some other)) w = then (value_keeps condition w) (then (met.1 (expr condition c w)) (other.1 (stmt met.0 c (expr condition c w))))
  step_keeps (Stmt-F.While at condition body) w = then (value_keeps condition w) (body.1 (expr condition c w))
  step_keeps (Stmt-F.Do at body condition) w = then (body.1 w) (value_keeps condition (stmt body.0 c w))
  step_keeps (Stmt-F.For at start condition step body) w =
      let a = optional expr start c w in
      let b = optional expr condition c a in
      then (optional_keeps start w) (then (optional_keeps condition a) (then (optional_keeps step b) (body.1 (optional expr step c b))))
  step_keeps (Stmt-F.Switch at value body) w =
      then (value_keeps value w) (kept (scoped_stays (all (map stmt (trees body))) (expr value c w) (all_keep body (expr value c w))))
  step_keeps (Stmt-F.Alt at body) w = kept (scoped_stays (all (map stmt (trees body))) w (all_keep body w))
  step_keeps (Stmt-F.Case at value) w = value_keeps value w
  step_keeps (Stmt-F.Default at) w = kept (same w)
  step_keeps (Stmt-F.Par at branches) w = kept (branches_stay branches w)
  step_keeps (Stmt-F.Rescue at name body) w = body.1 w
  step_keeps (Stmt-F.Raise at name) w = kept (same w)
  step_keeps (Stmt-F.Return at value) w = optional_keeps value w
  step_keeps (Stmt-F.Become at value) w = value_keeps value w
  step_keeps (Stmt-F.Break at count) w = kept (same w)
  step_keeps (Stmt-F.Continue at count) w = kept (same w)
  step_keeps (Stmt-F.Goto at label) w = kept (same w)
  step_keeps (Stmt-F.Alloc at places) w = values_keep places w
  step_keeps (Stmt-F.Unalloc at values) w = values_keep values w
  step_keeps (Stmt-F.Check at value text) w = value_keeps value w
  step_keeps (Stmt-F.Proc at calls) w = values_keep calls w
  step_keeps (Stmt-F.Task at calls) w = values_keep calls w

  rolled_keeps : (y : Stmt-F Checked) → Kept (roll-Stmt (tree_of y))
  unfolding stmt
  rolled_keeps y w = subst (λ (way : Way). Keeps w (way c w)) (sym (fold-roll-Stmt Way stmt_step (tree_of y))) (step_keeps y w)

  pub statement_keeps : (s : Stmt) (w : Walk) → Keeps w (stmt s c w)
  statement_keeps s = ind-Stmt Kept (λ x y is. subst (λ z. Kept (roll-Stmt z)) is (rolled_keeps y)) s
