-- What the parts of items leave as it was where names are declared.
use Rattle.std.proofs.Common.{◌≡◌, ℕ, false, List, [], ◌∷◌, ◌++◌, map, Option, Some, None, refl, sym, ◌∙◌, subst}
use Rattle.std.specs.Prelude.{nat_eq}
use Rattle.std.specs.Map.{lookup}
use Rattle.al_base.specs.declared.place.Place.{Place}
use Rattle.al_tree.specs.Constants.{bound_number}
use Rattle.al_tree.specs.declared.expression.Name.{Name}
use Rattle.al_tree.specs.declared.expression.Expr.{Expr, roll-Expr, map-Expr, fold-roll-Expr}
use Rattle.al_tree.specs.declared.expression.Expr.TheFolds.{ind-Expr}
use Rattle.al_tree.specs.declared.expression.Expr.TheOpen.{Expr-F}
use Rattle.al_tree.specs.declared.type_tree.Bound.{Bound}
use Rattle.al_tree.specs.declared.type_tree.Dcl.{Dcl}
use Rattle.al_tree.specs.declared.type_tree.TypeTree.{TypeTree, roll-TypeTree, map-TypeTree, fold-roll-TypeTree}
use Rattle.al_tree.specs.declared.type_tree.TypeTree.TheFolds.{ind-TypeTree}
use Rattle.al_tree.specs.declared.type_tree.TypeTree.TheOpen.{TypeTree-F}
use Rattle.al_tree.specs.declared.statement.Variable.{Variable}
use Rattle.al_tree.specs.declared.statement.Stmt.{Stmt, out-Stmt, roll-Stmt, map-Stmt, fold-roll-Stmt}
use Rattle.al_tree.specs.declared.statement.Stmt.TheFolds.{ind-Stmt}
use Rattle.al_tree.specs.declared.statement.Stmt.TheOpen.{Stmt-F}
use Rattle.al_tree.specs.declared.item.Parameter.{Parameter}
use Rattle.al_tree.specs.declared.item.Parameter.TheVariants as parameter
use Rattle.al_tree.specs.declared.item.Owner.{Owner}
use Rattle.al_tree.specs.declared.item.Initializer.{Initializer, roll-Initializer, map-Initializer, fold-roll-Initializer}
use Rattle.al_tree.specs.declared.item.Initializer.TheFolds.{ind-Initializer}
use Rattle.al_tree.specs.declared.item.Initializer.TheOpen.{Initializer-F}
use Rattle.al_tree.specs.declared.item.Member.{Member, roll-Member, map-Member, fold-roll-Member}
use Rattle.al_tree.specs.declared.item.Member.TheFolds.{ind-Member}
use Rattle.al_tree.specs.declared.item.Member.TheOpen.{Member-F}
use Rattle.al_tree.specs.declared.item.AdtPart.{AdtPart}
use Rattle.al_tree.specs.declared.item.AdtPart.TheVariants as adt
use Rattle.al_rules.specs.declared.fault.TypeFault.{TypeFault}
use Rattle.al_rules.specs.Outcome.{ask}
use Rattle.al_declare.specs.Rules.{rule_2_new, rule_3_free, rule_12_own, rule_15_list, rule_17_bound, rule_17_capacity}
use Rattle.al_declare.specs.Asking.{asked, free_name, local, inner}
use Rattle.al_declare.specs.Types.{Way, each, all, optional, bound, capacity, type_step, type_tree, dcl_bounds}
use Rattle.al_declare.specs.Expressions.{expr_step, expr}
use Rattle.al_declare.specs.Statements.{variable, scoped, stmt_step, stmt, body_at, body}
use Rattle.al_declare.specs.Items.{first_bound, later_bound, parameter_bounds, local_if, parameter_way, parameters, scope_of_parameters, owner_of_definition, scope_of_definition, initializer_step, initializer, member_step, member, adt_part, adt_parameters}
use Rattle.al_sound_calls.proofs.Unnamed.{Asked, Text}

-- no name at file level is declared, and rules are asked
pub record IsQuiet (a b : Asked) : Type 0 where
  pub names : b.names ≡ a.names
  pub faults : b.faults ≡ [] → a.faults ≡ []

pub nil_first : {A : Type 0} (xs ys : List A) → xs ++ ys ≡ [] → xs ≡ []
nil_first [] ys e = refl
nil_first (x ∷ xs) ys e = absurd (let f : ⊥ = cc in f)

pub same : (a : Asked) → IsQuiet a a
same a = record { names = refl; faults = λ h. h }

pub next : {a b d : Asked} → IsQuiet a b → IsQuiet b d → IsQuiet a d
next p q = record { names = q.names ∙ p.names; faults = λ h. p.faults (q.faults h) }

pub asked_quiet : (fs : List TypeFault) (a : Asked) → IsQuiet a (asked fs a)
asked_quiet fs a = record { names = refl; faults = nil_first a.faults fs }

module _ (text : Text) where
  pub each_quiet : {A : Type 0} (f : A → Way) → ((x : A) (a : Asked) → IsQuiet a (f x text a)) → (xs : List A) (a : Asked) → IsQuiet a (each f xs text a)
  each_quiet f h [] a = same a
  each_quiet f h (x ∷ xs) a = next (h x a) (each_quiet f h xs (f x text a))

  pub optional_quiet : {A : Type 0} (f : A → Way) → ((x : A) (a : Asked) → IsQuiet a (f x text a)) → (o : Option A) (a : Asked) → IsQuiet a (optional f o text a)
  optional_quiet f h None a = same a
  optional_quiet f h (Some x) a = h x a

  pub inner_quiet : (f : Asked → Asked) → ((a : Asked) → IsQuiet a (f a)) → (a : Asked) → IsQuiet a (inner f a)
  unfolding inner
  inner_quiet f h a = let q = h (record a { scope = [] }) in record { names = q.names; faults = q.faults }

  pub free_quiet : (n : Name) (a : Asked) → IsQuiet a (free_name n text a)
  unfolding free_name
  free_quiet n a = asked_quiet (ask 3 n.at (rule_3_free text n.name)) a

  local_quiet : (n : Name) (a : Asked) → IsQuiet a (local n text a)
  unfolding local
  local_quiet n a =
      let q = next (free_quiet n a) (asked_quiet (ask 2 n.at (rule_2_new a.scope n.name)) (free_name n text a)) in
      record { names = q.names; faults = q.faults }

  -- ---- bounds and types

  bound_quiet : (at : Place) (b : Bound) (a : Asked) → IsQuiet a (bound at b text a)
  unfolding bound
  bound_quiet at b a = asked_quiet (ask 17 at (rule_17_bound (bound_number text.constants.list b at))) a

  capacity_quiet : (at : Place) (b : Bound) (a : Asked) → IsQuiet a (capacity at b text a)
  unfolding capacity
  capacity_quiet at b a = asked_quiet (ask 17 at (rule_17_capacity (bound_number text.constants.list b at))) a

  pub dcl_quiet : (d : Dcl) (a : Asked) → IsQuiet a (dcl_bounds d text a)
  dcl_quiet d a = each_quiet (bound d.at) (bound_quiet d.at) d.bounds a

  abbrev QuietType : TypeTree → Type 0
  QuietType t = (a : Asked) → IsQuiet a (type_tree t text a)

  abbrev CheckedType : Type 0
  CheckedType = (t : TypeTree) × QuietType t

  abbrev types_of : List CheckedType → List TypeTree
  types_of ys = map (λ y. y.0) ys

  types_quiet : (ys : List CheckedType) (a : Asked) → IsQuiet a (all (map type_tree (types_of ys)) text a)
  types_quiet [] a = same a
  types_quiet (y ∷ ys) a = next (y.1 a) (types_quiet ys (type_tree y.0 text a))

  abbrev type_of : TypeTree-F CheckedType → TypeTree-F TypeTree
  type_of y = map-TypeTree CheckedType TypeTree (λ t. t.0) y

  type_step_quiet : (y : TypeTree-F CheckedType) (a : Asked) → IsQuiet a (type_step (map-TypeTree TypeTree Way type_tree (type_of y)) text a)
  type_step_quiet (TypeTree-F.Basic at basic) a = same a
  type_step_quiet (TypeTree-F.Named at name arguments) a = types_quiet arguments a
  type_step_quiet (TypeTree-F.Tuple at parts) a = types_quiet parts a
  type_step_quiet (TypeTree-F.Chan at element size) a = next (element.1 a) (optional_quiet (capacity at) (capacity_quiet at) size (type_tree element.0 text a))
  type_step_quiet (TypeTree-F.Pointer at to) a = to.1 a
  type_step_quiet (TypeTree-F.Array at size element) a = next (element.1 a) (bound_quiet at size (type_tree element.0 text a))

  rolled_type : (y : TypeTree-F CheckedType) → QuietType (roll-TypeTree (type_of y))
  unfolding type_tree
  rolled_type y a = subst (λ (way : Way). IsQuiet a (way text a)) (sym (fold-roll-TypeTree Way type_step (type_of y))) (type_step_quiet y a)

  pub type_quiet : (t : TypeTree) (a : Asked) → IsQuiet a (type_tree t text a)
  type_quiet t = ind-TypeTree QuietType (λ x y is. subst (λ z. QuietType (roll-TypeTree z)) is (rolled_type y)) t

  -- ---- expressions

  abbrev QuietExpr : Expr → Type 0
  QuietExpr e = (a : Asked) → IsQuiet a (expr e text a)

  abbrev CheckedExpr : Type 0
  CheckedExpr = (e : Expr) × QuietExpr e

  abbrev exprs_of : List CheckedExpr → List Expr
  exprs_of ys = map (λ y. y.0) ys

  exprs_quiet : (ys : List CheckedExpr) (a : Asked) → IsQuiet a (all (map expr (exprs_of ys)) text a)
  exprs_quiet [] a = same a
  exprs_quiet (y ∷ ys) a = next (y.1 a) (exprs_quiet ys (expr y.0 text a))

  abbrev expr_of : Expr-F CheckedExpr → Expr-F Expr
  expr_of y = map-Expr CheckedExpr Expr (λ e. e.0) y

  expr_step_quiet : (y : Expr-F CheckedExpr) (a : Asked) → IsQuiet a (expr_step (map-Expr Expr Way expr (expr_of y)) text a)
  expr_step_quiet (Expr-F.Number at value) a = same a
  expr_step_quiet (Expr-F.Char at value) a = same a
  expr_step_quiet (Expr-F.Text at bytes) a = same a
  expr_step_quiet (Expr-F.Nil at) a = same a
  expr_step_quiet (Expr-F.Name at name) a = same a
  expr_step_quiet (Expr-F.Tuple at parts) a = exprs_quiet parts a
  expr_step_quiet (Expr-F.Unary at op x) a = x.1 a
  expr_step_quiet (Expr-F.Cast at to x) a = next (type_quiet to a) (x.1 (type_tree to text a))
  expr_step_quiet (Expr-F.SizeofType at of) a = type_quiet of a
  expr_step_quiet (Expr-F.SizeofValue at x) a = x.1 a
  expr_step_quiet (Expr-F.Index at x y) a = next (x.1 a) (y.1 (expr x.0 text a))
  expr_step_quiet (Expr-F.Member at x how name) a = x.1 a
  expr_step_quiet (Expr-F.Call at f xs) a = next (f.1 a) (exprs_quiet xs (expr f.0 text a))
  expr_step_quiet (Expr-F.Postfix at op x) a = x.1 a
  expr_step_quiet (Expr-F.Binary at op x y) a = next (x.1 a) (y.1 (expr x.0 text a))
  expr_step_quiet (Expr-F.Iterator at x y) a = next (x.1 a) (y.1 (expr x.0 text a))
  expr_step_quiet (Expr-F.Assign at op x y) a = next (x.1 a) (y.1 (expr x.0 text a))
  expr_step_quiet (Expr-F.Sequence at parts) a = exprs_quiet parts a

  rolled_expr : (y : Expr-F CheckedExpr) → QuietExpr (roll-Expr (expr_of y))
  unfolding expr
  rolled_expr y a = subst (λ (way : Way). IsQuiet a (way text a)) (sym (fold-roll-Expr Way expr_step (expr_of y))) (expr_step_quiet y a)

  pub expr_quiet : (e : Expr) (a : Asked) → IsQuiet a (expr e text a)
  expr_quiet e = ind-Expr QuietExpr (λ x y is. subst (λ z. QuietExpr (roll-Expr z)) is (rolled_expr y)) e

  -- ---- statements

  variable_quiet : (v : Variable) (a : Asked) → IsQuiet a (variable v text a)
  unfolding variable
  variable_quiet v a =
      next (dcl_quiet v.dcl a) (next (local_quiet v.dcl.name (dcl_bounds v.dcl text a)) (optional_quiet expr expr_quiet v.value (local v.dcl.name text (dcl_bounds v.dcl text a))))

  values_quiet : (es : List Expr) (a : Asked) → IsQuiet a (each expr es text a)
  values_quiet es a = each_quiet expr expr_quiet es a

  value_quiet : (o : Option Expr) (a : Asked) → IsQuiet a (optional expr o text a)
  value_quiet o a = optional_quiet expr expr_quiet o a

  abbrev QuietStmt : Stmt → Type 0
  QuietStmt s = (a : Asked) → IsQuiet a (stmt s text a)

  abbrev Checked : Type 0
  Checked = (s : Stmt) × QuietStmt s

  abbrev trees : List Checked → List Stmt
  trees ys = map (λ y. y.0) ys

  all_quiet : (ys : List Checked) (a : Asked) → IsQuiet a (all (map stmt (trees ys)) text a)
  all_quiet [] a = same a
  all_quiet (y ∷ ys) a = next (y.1 a) (all_quiet ys (stmt y.0 text a))

  block_quiet : (ys : List Checked) (a : Asked) → IsQuiet a (scoped (all (map stmt (trees ys))) text a)
  block_quiet ys a = inner_quiet (all (map stmt (trees ys)) text) (all_quiet ys) a

  abbrev tree_of : Stmt-F Checked → Stmt-F Stmt
  tree_of y = map-Stmt Checked Stmt (λ s. s.0) y

  step_quiet : (y : Stmt-F Checked) (a : Asked) → IsQuiet a (stmt_step (map-Stmt Stmt Way stmt (tree_of y)) text a)
  step_quiet (Stmt-F.Empty at) a = same a
  step_quiet (Stmt-F.Block at body) a = block_quiet body a
  step_quiet (Stmt-F.Declare at base vs) a = next (type_quiet base a) (each_quiet variable variable_quiet vs (type_tree base text a))
  step_quiet (Stmt-F.Value at value) a = expr_quiet value a
  step_quiet (Stmt-F.Label at name body) a = body.1 a
  step_quiet (Stmt-F.If at condition met None) a = next (expr_quiet condition a) (met.1 (expr condition text a))
  step_quiet (Stmt-F.If at condition met (Some other)) a = next (expr_quiet condition a) (next (met.1 (expr condition text a)) (other.1 (stmt met.0 text (expr condition text a))))
  step_quiet (Stmt-F.While at condition body) a = next (expr_quiet condition a) (body.1 (expr condition text a))
  step_quiet (Stmt-F.Do at body condition) a = next (body.1 a) (expr_quiet condition (stmt body.0 text a))
  step_quiet (Stmt-F.For at start condition step body) a =
      let b = optional expr start text a in
      let d = optional expr condition text b in
      next (value_quiet start a) (next (value_quiet condition b) (next (value_quiet step d) (body.1 (optional expr step text d))))
  step_quiet (Stmt-F.Switch at value body) a = next (expr_quiet value a) (block_quiet body (expr value text a))
  step_quiet (Stmt-F.Alt at body) a = block_quiet body a
  step_quiet (Stmt-F.Case at value) a = expr_quiet value a
  step_quiet (Stmt-F.Default at) a = same a
  step_quiet (Stmt-F.Par at branches) a = all_quiet branches a
  step_quiet (Stmt-F.Rescue at name body) a = body.1 a
  step_quiet (Stmt-F.Raise at name) a = same a
  step_quiet (Stmt-F.Return at value) a = value_quiet value a
  step_quiet (Stmt-F.Become at value) a = expr_quiet value a
  step_quiet (Stmt-F.Break at count) a = same a
  step_quiet (Stmt-F.Continue at count) a = same a
  step_quiet (Stmt-F.Goto at label) a = same a
  step_quiet (Stmt-F.Alloc at places) a = values_quiet places a
  step_quiet (Stmt-F.Unalloc at values) a = values_quiet values a
  step_quiet (Stmt-F.Check at value words) a = expr_quiet value a
  step_quiet (Stmt-F.Proc at calls) a = values_quiet calls a
  step_quiet (Stmt-F.Task at calls) a = values_quiet calls a

  rolled_quiet : (y : Stmt-F Checked) → QuietStmt (roll-Stmt (tree_of y))
  unfolding stmt
  rolled_quiet y a = subst (λ (way : Way). IsQuiet a (way text a)) (sym (fold-roll-Stmt Way stmt_step (tree_of y))) (step_quiet y a)

  statement_quiet : (s : Stmt) (a : Asked) → IsQuiet a (stmt s text a)
  statement_quiet s = ind-Stmt QuietStmt (λ x y is. subst (λ z. QuietStmt (roll-Stmt z)) is (rolled_quiet y)) s

  pub body_quiet : (s : Stmt) (a : Asked) → IsQuiet a (body s text a)
  unfolding body
  body_quiet s a = go (out-Stmt s)
    where
      go : (x : Stmt-F Stmt) → IsQuiet a (body_at s x text a)
      go (Stmt-F.Block at parts) = each_quiet stmt statement_quiet parts a
      go (Stmt-F.Empty at) = statement_quiet s a
      go (Stmt-F.Declare at base vs) = statement_quiet s a
      go (Stmt-F.Value at value) = statement_quiet s a
      go (Stmt-F.Label at name x) = statement_quiet s a
      go (Stmt-F.If at condition met other) = statement_quiet s a
      go (Stmt-F.While at condition x) = statement_quiet s a
      go (Stmt-F.Do at x condition) = statement_quiet s a
      go (Stmt-F.For at start condition step x) = statement_quiet s a
      go (Stmt-F.Switch at value x) = statement_quiet s a
      go (Stmt-F.Alt at x) = statement_quiet s a
      go (Stmt-F.Case at value) = statement_quiet s a
      go (Stmt-F.Default at) = statement_quiet s a
      go (Stmt-F.Par at branches) = statement_quiet s a
      go (Stmt-F.Rescue at name x) = statement_quiet s a
      go (Stmt-F.Raise at name) = statement_quiet s a
      go (Stmt-F.Return at value) = statement_quiet s a
      go (Stmt-F.Become at value) = statement_quiet s a
      go (Stmt-F.Break at count) = statement_quiet s a
      go (Stmt-F.Continue at count) = statement_quiet s a
      go (Stmt-F.Goto at label) = statement_quiet s a
      go (Stmt-F.Alloc at places) = statement_quiet s a
      go (Stmt-F.Unalloc at values) = statement_quiet s a
      go (Stmt-F.Check at value words) = statement_quiet s a
      go (Stmt-F.Proc at calls) = statement_quiet s a
      go (Stmt-F.Task at calls) = statement_quiet s a

  -- ---- parameters

  first_quiet : (at : Place) (b : Option Bound) (a : Asked) → IsQuiet a (first_bound at b text a)
  first_quiet at b a = optional_quiet (bound at) (bound_quiet at) b a

  later_quiet : (at : Place) (b : Option Bound) (a : Asked) → IsQuiet a (later_bound at b text a)
  later_quiet at None a = asked_quiet (ask 17 at false) a
  later_quiet at (Some b) a = bound_quiet at b a

  bounds_quiet : (at : Place) (bs : List (Option Bound)) (a : Asked) → IsQuiet a (parameter_bounds at bs text a)
  unfolding parameter_bounds
  bounds_quiet at [] a = same a
  bounds_quiet at (b ∷ bs) a = next (first_quiet at b a) (each_quiet (later_bound at) (later_quiet at) bs (first_bound at b text a))

  local_if_quiet : (o : Option Name) (a : Asked) → IsQuiet a (local_if o text a)
  local_if_quiet None a = same a
  local_if_quiet (Some name) a = local_quiet name a

  pub parameter_quiet : (own : Option ℕ) (p : Parameter) (a : Asked) → IsQuiet a (parameter_way own p text a)
  unfolding parameter_way
  parameter_quiet own (parameter.Plain at base stars name bounds) a =
      next (type_quiet base a) (next (bounds_quiet at bounds (type_tree base text a)) (local_if_quiet name (parameter_bounds at bounds text (type_tree base text a))))
  parameter_quiet own (parameter.OwnPointer at name) a = asked_quiet (ask 12 at (rule_12_own own name)) a
  parameter_quiet own (parameter.OwnValue at name) a = asked_quiet (ask 12 at (rule_12_own own name)) a

  parameters_quiet : (own : Option ℕ) (ps : List Parameter) (a : Asked) → IsQuiet a (parameters own ps text a)
  unfolding parameters
  parameters_quiet own [] a = same a
  parameters_quiet own (p ∷ ps) a = next (parameter_quiet own p a) (each_quiet (parameter_way None) (parameter_quiet None) ps (parameter_way own p text a))

  pub scope_quiet : (own : Option ℕ) (ps : List Parameter) (a : Asked) → IsQuiet a (scope_of_parameters own ps text a)
  scope_quiet own ps a = inner_quiet (parameters own ps text) (parameters_quiet own ps) a

  -- ---- functions

  pub owner_quiet : (at : Place) (o : Option Owner) (a : Asked) → IsQuiet a (owner_of_definition at o text a)
  unfolding owner_of_definition
  owner_quiet at None a = same a
  owner_quiet at (Some owner) a = asked_quiet (ask 15 at (rule_15_list (lookup (nat_eq owner.adt.name) text.adts) owner.parameters)) a

  pub definition_quiet : (ps : List Parameter) (s : Stmt) (a : Asked) → IsQuiet a (scope_of_definition ps s text a)
  definition_quiet ps s a = inner_quiet (λ u. body s text (parameters None ps text u)) (λ u. next (parameters_quiet None ps u) (body_quiet s (parameters None ps text u))) a

  -- ---- initializers and members

  abbrev QuietInitializer : Initializer → Type 0
  QuietInitializer i = (a : Asked) → IsQuiet a (initializer i text a)

  abbrev CheckedInitializer : Type 0
  CheckedInitializer = (i : Initializer) × QuietInitializer i

  abbrev initializers_of : List CheckedInitializer → List Initializer
  initializers_of ys = map (λ y. y.0) ys

  initializers_quiet : (ys : List CheckedInitializer) (a : Asked) → IsQuiet a (all (map initializer (initializers_of ys)) text a)
  initializers_quiet [] a = same a
  initializers_quiet (y ∷ ys) a = next (y.1 a) (initializers_quiet ys (initializer y.0 text a))

  abbrev initializer_of : Initializer-F CheckedInitializer → Initializer-F Initializer
  initializer_of y = map-Initializer CheckedInitializer Initializer (λ i. i.0) y

  initializer_step_quiet : (y : Initializer-F CheckedInitializer) (a : Asked) → IsQuiet a (initializer_step (map-Initializer Initializer Way initializer (initializer_of y)) text a)
  initializer_step_quiet (Initializer-F.Value e) a = expr_quiet e a
  initializer_step_quiet (Initializer-F.Braces at parts) a = initializers_quiet parts a

  rolled_initializer : (y : Initializer-F CheckedInitializer) → QuietInitializer (roll-Initializer (initializer_of y))
  unfolding initializer
  rolled_initializer y a =
      subst (λ (way : Way). IsQuiet a (way text a)) (sym (fold-roll-Initializer Way initializer_step (initializer_of y))) (initializer_step_quiet y a)

  pub initializer_quiet : (i : Initializer) (a : Asked) → IsQuiet a (initializer i text a)
  initializer_quiet i = ind-Initializer QuietInitializer (λ x y is. subst (λ z. QuietInitializer (roll-Initializer z)) is (rolled_initializer y)) i

  abbrev QuietMember : Member → Type 0
  QuietMember m = (a : Asked) → IsQuiet a (member m text a)

  abbrev CheckedMember : Type 0
  CheckedMember = (m : Member) × QuietMember m

  abbrev members_of : List CheckedMember → List Member
  members_of ys = map (λ y. y.0) ys

  members_quiet : (ys : List CheckedMember) (a : Asked) → IsQuiet a (all (map member (members_of ys)) text a)
  members_quiet [] a = same a
  members_quiet (y ∷ ys) a = next (y.1 a) (members_quiet ys (member y.0 text a))

  abbrev member_of : Member-F CheckedMember → Member-F Member
  member_of y = map-Member CheckedMember Member (λ m. m.0) y

  member_step_quiet : (y : Member-F CheckedMember) (a : Asked) → IsQuiet a (member_step (map-Member Member Way member (member_of y)) text a)
  member_step_quiet (Member-F.Fields at base fields) a = next (type_quiet base a) (each_quiet dcl_bounds dcl_quiet fields (type_tree base text a))
  member_step_quiet (Member-F.Unnamed at of) a = type_quiet of a
  member_step_quiet (Member-F.Inner at kind members) a = members_quiet members a

  rolled_member : (y : Member-F CheckedMember) → QuietMember (roll-Member (member_of y))
  unfolding member
  rolled_member y a = subst (λ (way : Way). IsQuiet a (way text a)) (sym (fold-roll-Member Way member_step (member_of y))) (member_step_quiet y a)

  pub member_quiet : (m : Member) (a : Asked) → IsQuiet a (member m text a)
  member_quiet m = ind-Member QuietMember (λ x y is. subst (λ z. QuietMember (roll-Member z)) is (rolled_member y)) m

  pub part_quiet : (own : ℕ) (p : AdtPart) (a : Asked) → IsQuiet a (adt_part own p text a)
  unfolding adt_part
  part_quiet own (adt.Data m) a = member_quiet m a
  part_quiet own (adt.Function base stars name ps) a = next (type_quiet base a) (scope_quiet (Some own) ps (type_tree base text a))

  pub adt_parameters_quiet : (names : List Name) (a : Asked) → IsQuiet a (adt_parameters names text a)
  adt_parameters_quiet names a = inner_quiet (each local names text) (each_quiet local local_quiet names) a
