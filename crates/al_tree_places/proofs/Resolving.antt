-- What the names of a text add to what is resolved, one after the other.
use Rattle.std.proofs.Common.{◌≡◌, if◌then◌else◌, List, [], ◌∷◌, ◌++◌, length, map, flat_map, Option, Some, None, refl, sym, ap, ◌∙◌, subst, append-nil}
use Rattle.al_base.specs.declared.place.Place.{Place}
use Rattle.al_tree.specs.declared.constants.EnumConstant.{EnumConstant}
use Rattle.al_tree.specs.declared.expression.Name.{Name}
use Rattle.al_tree.specs.declared.expression.Expr.{Expr}
use Rattle.al_tree.specs.declared.statement.Variable.{Variable}
use Rattle.al_tree.specs.declared.statement.Stmt.{Stmt, roll-Stmt, map-Stmt, fold-roll-Stmt}
use Rattle.al_tree.specs.declared.statement.Stmt.TheFolds.{ind-Stmt}
use Rattle.al_tree.specs.declared.statement.Stmt.TheOpen.{Stmt-F}
use Rattle.al_scope.specs.declared.declaration.Declaration.{Declaration}
use Rattle.al_scope.specs.declared.declaration.Declaration.TheVariants as d
use Rattle.al_tree_places.specs.Entries.{place_of}
use Rattle.al_tree_places.proofs.Unnamed.{Walk}
use Rattle.al_scope.specs.Names.{local, nameless, global, function, constant, scope, branch, meant, found, declared, is_global, is_function, next_local}
use Rattle.al_scope.specs.Types.{Way, each, all, optional, type_tree, dcl_bounds}
use Rattle.al_scope.specs.Expressions.{expr}
use Rattle.al_scope.specs.Statements.{variable, scoped, parted, stmt_step, stmt}
use Rattle.al_tree_walks.specs.Expressions.{name_places, all_places}
use Rattle.al_tree_places.specs.Names.{variable_places, statement_step, statement_places}
use Rattle.al_tree_places.specs.Names as place
use Rattle.al_tree_places.proofs.Entering.{Enters, nowhere, same, next, enters_is, behind, one, optional_enters, each_enters, dcl_quiet, type_quiet, expr_resolves}

-- ---- single names

pub local_enters : (name : Name) (w : Walk) → Enters (name.at ∷ []) w (local name w)
unfolding local
local_enters name w = one name.at (d.Local (next_local w)) (λ h. h) refl

pub nameless_quiet : (w : Walk) → Enters [] w (nameless w)
unfolding nameless
nameless_quiet w = nowhere (λ h. h) refl

pub global_enters : (name : Name) (w : Walk) → Enters (name.at ∷ []) w (global name w)
unfolding global
global_enters name w = on (meant w name.name)
  where
    new : Enters (name.at ∷ []) w (declared name (d.Global (length w.globals)) (record w { globals = w.globals ++ name ∷ [] }))
    new = one name.at (d.Global (length w.globals)) (λ h. h) refl

    on : (m : Option Declaration) → Enters (name.at ∷ []) w (if is_global m then found name.at m w else declared name (d.Global (length w.globals)) (record w { globals = w.globals ++ name ∷ [] }))
    on None = new
    on (Some (d.Global n)) = one name.at (d.Global n) (λ h. h) refl
    on (Some (d.Function n)) = new
    on (Some (d.Constant n)) = new
    on (Some (d.Local n)) = new
    on (Some (d.Outer around n)) = new
    on (Some d.Print) = new
    on (Some d.Terminate) = new

pub function_enters : (name : Name) (w : Walk) → Enters (name.at ∷ []) w (function name w)
unfolding function
function_enters name w = on (meant w name.name)
  where
    new : Enters (name.at ∷ []) w (declared name (d.Function (length w.functions)) (record w { functions = w.functions ++ name ∷ [] }))
    new = one name.at (d.Function (length w.functions)) (λ h. h) refl

    on : (m : Option Declaration) → Enters (name.at ∷ []) w (if is_function m then found name.at m w else declared name (d.Function (length w.functions)) (record w { functions = w.functions ++ name ∷ [] }))
    on None = new
    on (Some (d.Global n)) = new
    on (Some (d.Function n)) = one name.at (d.Function n) (λ h. h) refl
    on (Some (d.Constant n)) = new
    on (Some (d.Local n)) = new
    on (Some (d.Outer around n)) = new
    on (Some d.Print) = new
    on (Some d.Terminate) = new

pub constant_enters : (name : Name) (w : Walk) → Enters (name.at ∷ []) w (constant name w)
unfolding constant
constant_enters name w = one name.at (d.Constant (length w.constants)) (λ h. h) refl

-- ---- statements

-- walks that differ in what is known and in the locals alone
pub alike : {ats : List Place} {w v u x : Walk} → v.names ≡ w.names → v.faults ≡ w.faults → u.names ≡ x.names → u.faults ≡ x.faults → Enters ats v x → Enters ats w u
alike {ats} {w} {v} {u} {x} a b c e h = record {
  good = λ k. sym b ∙ h.good (sym e ∙ k);
  places = λ k. ap (map place_of) c ∙ h.places (sym e ∙ k) ∙ ap (λ l. map place_of l ++ ats) a;
}

module _ (c : List EnumConstant) where
  variable_enters : (v : Variable) (w : Walk) → Enters (variable_places v) w (variable v c w)
  unfolding variable
  variable_enters v w =
      behind (dcl_quiet c v.dcl w) (next (local_enters v.dcl.name (dcl_bounds v.dcl c w))
      (optional_enters c expr name_places (expr_resolves c) v.value (local v.dcl.name (dcl_bounds v.dcl c w))))

  optional_resolves : (o : Option Expr) (w : Walk) → Enters (place.optional name_places o) w (optional expr o c w)
  optional_resolves o w = optional_enters c expr name_places (expr_resolves c) o w

  each_resolves : (es : List Expr) (w : Walk) → Enters (flat_map name_places es) w (each expr es c w)
  each_resolves es w = each_enters c expr name_places (expr_resolves c) es w

  abbrev Resolves : Stmt → Type 0
  Resolves s = (w : Walk) → Enters (statement_places s) w (stmt s c w)

  abbrev Checked : Type 0
  Checked = (s : Stmt) × Resolves s

  abbrev trees : List Checked → List Stmt
  trees ys = map (λ y. y.0) ys

  all_resolve : (ys : List Checked) (w : Walk) → Enters (all_places (map statement_places (trees ys))) w (all (map stmt (trees ys)) c w)
  all_resolve [] w = same w
  all_resolve (y ∷ ys) w = next (y.1 w) (all_resolve ys (stmt y.0 c w))

  scoped_enters : {ats : List Place} (a : Way) (w : Walk) → Enters ats w (a c w) → Enters ats w (scoped a c w)
  unfolding scope
  scoped_enters a w h = alike refl refl refl refl h

  parted_enters : {ats : List Place} (a : Way) → ((w : Walk) → Enters ats w (a c w)) → (w : Walk) → Enters ats w (parted a c w)
  unfolding branch
  parted_enters a h w = let v : Walk = record w { around = w.around ++ w.start ∷ []; start = length w.locals } in alike {v = v} refl refl refl refl (h v)

  branches_resolve : (ys : List Checked) (w : Walk) → Enters (all_places (map statement_places (trees ys))) w (each parted (map stmt (trees ys)) c w)
  branches_resolve [] w = same w
  branches_resolve (y ∷ ys) w = next (parted_enters (stmt y.0) y.1 w) (branches_resolve ys (parted (stmt y.0) c w))

  abbrev tree_of : Stmt-F Checked → Stmt-F Stmt
  tree_of y = map-Stmt Checked Stmt (λ s. s.0) y

  abbrev StepResolves : Stmt-F Checked → Type 0
  StepResolves y = (w : Walk) → Enters (statement_step (map-Stmt Stmt (List Place) statement_places (tree_of y))) w (stmt_step (map-Stmt Stmt Way stmt (tree_of y)) c w)

  step_resolves : (y : Stmt-F Checked) → StepResolves y
  step_resolves (Stmt-F.Empty at) w = same w
  step_resolves (Stmt-F.Block at body) w = scoped_enters (all (map stmt (trees body))) w (all_resolve body w)
  step_resolves (Stmt-F.Declare at base vs) w = behind (type_quiet c base w) (each_enters c variable variable_places variable_enters vs (type_tree base c w))
  step_resolves (Stmt-F.Value at value) w = expr_resolves c value w
  step_resolves (Stmt-F.Label at name body) w = body.1 w
  step_resolves (Stmt-F.If at condition met None) w =
      next (expr_resolves c condition w) (enters_is (sym (append-nil (statement_places met.0))) (met.1 (expr condition c w)))
  step_resolves (Stmt-F.If at condition met (Some other)) w =
      next (expr_resolves c condition w) (next (met.1 (expr condition c w)) (other.1 (stmt met.0 c (expr condition c w))))
  step_resolves (Stmt-F.While at condition body) w = next (expr_resolves c condition w) (body.1 (expr condition c w))
  step_resolves (Stmt-F.Do at body condition) w = next (body.1 w) (expr_resolves c condition (stmt body.0 c w))
  step_resolves (Stmt-F.For at start condition step body) w =
      let a = optional expr start c w in
      let b = optional expr condition c a in
      next (optional_resolves start w) (next (optional_resolves condition a) (next (optional_resolves step b) (body.1 (optional expr step c b))))
  step_resolves (Stmt-F.Switch at value body) w =
      next (expr_resolves c value w) (scoped_enters (all (map stmt (trees body))) (expr value c w) (all_resolve body (expr value c w)))
  step_resolves (Stmt-F.Alt at body) w = scoped_enters (all (map stmt (trees body))) w (all_resolve body w)
  step_resolves (Stmt-F.Case at value) w = expr_resolves c value w
  step_resolves (Stmt-F.Default at) w = same w
  step_resolves (Stmt-F.Par at branches) w = branches_resolve branches w
  step_resolves (Stmt-F.Rescue at name body) w = body.1 w
  step_resolves (Stmt-F.Raise at name) w = same w
  step_resolves (Stmt-F.Return at value) w = optional_resolves value w
  step_resolves (Stmt-F.Become at value) w = expr_resolves c value w
  step_resolves (Stmt-F.Break at count) w = same w
  step_resolves (Stmt-F.Continue at count) w = same w
  step_resolves (Stmt-F.Goto at label) w = same w
  step_resolves (Stmt-F.Alloc at places) w = each_resolves places w
  step_resolves (Stmt-F.Unalloc at values) w = each_resolves values w
  step_resolves (Stmt-F.Check at value text) w = expr_resolves c value w
  step_resolves (Stmt-F.Proc at calls) w = each_resolves calls w
  step_resolves (Stmt-F.Task at calls) w = each_resolves calls w

  rolled_resolves : (y : Stmt-F Checked) → Resolves (roll-Stmt (tree_of y))
  unfolding statement_places stmt
  rolled_resolves y w =
      let z = tree_of y in
      subst (λ ats. Enters ats w (stmt (roll-Stmt z) c w)) (sym (fold-roll-Stmt (List Place) statement_step z))
      (subst (λ (way : Way). Enters (statement_step (map-Stmt Stmt (List Place) statement_places z)) w (way c w)) (sym (fold-roll-Stmt Way stmt_step z)) (step_resolves y w))

  pub statement_resolves : (s : Stmt) (w : Walk) → Enters (statement_places s) w (stmt s c w)
  statement_resolves s = ind-Stmt Resolves (λ x y is. subst (λ z. Resolves (roll-Stmt z)) is (rolled_resolves y)) s
