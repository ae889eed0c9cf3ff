-- What the items of a text add to what is resolved.
use Rattle.std.proofs.Common.{◌≡◌, List, [], ◌∷◌, ◌++◌, length, map, flat_map, slice_get, Option, Some, None, refl, sym, ap, ◌∙◌, subst, append_assoc}
use Rattle.al_base.specs.declared.place.Place.{Place}
use Rattle.al_tree.specs.Constants.{values}
use Rattle.al_tree.specs.declared.constants.EnumConstant.{EnumConstant}
use Rattle.al_tree.specs.declared.expression.Name.{Name}
use Rattle.al_tree.specs.declared.expression.Expr.{Expr}
use Rattle.al_tree.specs.declared.item.Parameter.{Parameter}
use Rattle.al_tree.specs.declared.item.Parameter.TheVariants as parameter
use Rattle.al_tree.specs.declared.item.Owner.{Owner}
use Rattle.al_tree.specs.declared.item.Head.{Head}
use Rattle.al_tree.specs.declared.item.Initializer.{Initializer, roll-Initializer, map-Initializer, fold-roll-Initializer}
use Rattle.al_tree.specs.declared.item.Initializer.TheFolds.{ind-Initializer}
use Rattle.al_tree.specs.declared.item.Initializer.TheOpen.{Initializer-F}
use Rattle.al_tree.specs.declared.item.Declarator.{Declarator}
use Rattle.al_tree.specs.declared.item.Declarator.TheVariants as declarator
use Rattle.al_tree.specs.declared.item.Member.{Member, roll-Member, map-Member, fold-roll-Member}
use Rattle.al_tree.specs.declared.item.Member.TheFolds.{ind-Member}
use Rattle.al_tree.specs.declared.item.Member.TheOpen.{Member-F}
use Rattle.al_tree.specs.declared.item.AdtPart.{AdtPart}
use Rattle.al_tree.specs.declared.item.AdtPart.TheVariants as adt
use Rattle.al_tree.specs.declared.item.Constant.{Constant}
use Rattle.al_tree.specs.declared.item.Item.{Item}
use Rattle.al_tree.specs.declared.item.Item.TheVariants as item
use Rattle.al_tree.specs.declared.item.Tree.{Tree}
use Rattle.al_rules.specs.declared.fault.TypeFault.{TypeFault}
use Rattle.al_rules.specs.Outcome.{Good, ask, judge}
use Rattle.al_scope.specs.declared.declaration.Scopes.{Scopes}
use Rattle.al_tree_places.proofs.Unnamed.{Walk}
use Rattle.al_scope.specs.Rules.{is_constant_value}
use Rattle.al_scope.specs.Names.{body, begun}
use Rattle.al_scope.specs.Types.{Way, bound, each, all, type_tree, dcl_bounds}
use Rattle.al_scope.specs.Expressions.{expr}
use Rattle.al_scope.specs.Expressions as expression
use Rattle.al_scope.specs.Statements.{stmt}
use Rattle.al_scope.specs.Items.{bound_if, parameter_bounds, local_if, own_parameter, function_if, prototype, initializer_step, initializer, declarator_way, member_step, member, adt_part, adt_member, valued, enum_constant, defined, item_way, scopes_of, resolved}
use Rattle.al_tree_walks.specs.Expressions.{name_places, all_places}
use Rattle.al_tree_places.specs.Names as place
use Rattle.al_tree_places.specs.Names.{initializer_places, name_if, head_places, declarator_places, constant_places, parameter_places, statement_places, item_places, resolved_places}
use Rattle.al_tree_places.specs.Entries.{place_of}
use Rattle.al_tree_places.proofs.Entering.{Enters, quiet, same, next, enters_is, behind, before, optional_enters, optional_quiet, each_enters, each_quiet, bound_quiet, dcl_quiet, type_quiet, expr_resolves}
use Rattle.al_tree_places.proofs.Resolving.{alike, local_enters, nameless_quiet, global_enters, function_enters, constant_enters, statement_resolves}

module _ (c : List EnumConstant) where
  -- ---- functions

  bounds_quiet : (p : Parameter) (w : Walk) → Enters [] w (parameter_bounds p c w)
  unfolding parameter_bounds
  bounds_quiet (parameter.Plain at base stars name bounds) w =
      behind (type_quiet c base w) (each_quiet c bound_if (λ b v. optional_quiet c bound (bound_quiet c) b v) bounds (type_tree base c w))
  bounds_quiet (parameter.OwnPointer at name) w = same w
  bounds_quiet (parameter.OwnValue at name) w = same w

  each_bounds : (ps : List Parameter) (w : Walk) → Enters [] w (each parameter_bounds ps c w)
  each_bounds ps w = each_quiet c parameter_bounds bounds_quiet ps w

  local_if_enters : (o : Option Name) (w : Walk) → Enters (place.optional (λ (n : Name). n.at ∷ []) o) w (local_if o w)
  local_if_enters None w = nameless_quiet w
  local_if_enters (Some name) w = local_enters name w

  parameter_enters : (p : Parameter) (w : Walk) → Enters (parameter_places p) w (own_parameter p c w)
  unfolding own_parameter
  parameter_enters (parameter.Plain at base stars name bounds) w = behind (bounds_quiet (parameter.Plain at base stars name bounds) w) (local_if_enters name _)
  parameter_enters (parameter.OwnPointer at name) w = behind (bounds_quiet (parameter.OwnPointer at name) w) (nameless_quiet _)
  parameter_enters (parameter.OwnValue at name) w = behind (bounds_quiet (parameter.OwnValue at name) w) (nameless_quiet _)

  function_if_enters : (o : Option Owner) (name : Name) (w : Walk) → Enters (name_if o name) w (function_if o name w)
  unfolding function_if
  function_if_enters None name w = function_enters name w
  function_if_enters (Some owner) name w = same w

  prototype_enters : (h : Head) (w : Walk) → Enters (head_places h) w (prototype h c w)
  unfolding prototype
  prototype_enters h w = before (function_if_enters h.owner h.name w) (each_bounds h.parameters (function_if h.owner h.name w))

  -- ---- globals

  abbrev Resolves : Initializer → Type 0
  Resolves i = (w : Walk) → Enters (initializer_places i) w (initializer i c w)

  abbrev Checked : Type 0
  Checked = (i : Initializer) × Resolves i

  abbrev trees : List Checked → List Initializer
  trees ys = map (λ y. y.0) ys

  all_resolve : (ys : List Checked) (w : Walk) → Enters (all_places (map initializer_places (trees ys))) w (all (map initializer (trees ys)) c w)
  all_resolve [] w = same w
  all_resolve (y ∷ ys) w = next (y.1 w) (all_resolve ys (initializer y.0 c w))

  abbrev tree_of : Initializer-F Checked → Initializer-F Initializer
  tree_of y = map-Initializer Checked Initializer (λ i. i.0) y

  step_resolves : (y : Initializer-F Checked) (w : Walk)
      → Enters (place.initializer_step (map-Initializer Initializer (List Place) initializer_places (tree_of y))) w (initializer_step (map-Initializer Initializer Way initializer (tree_of y)) c w)
  step_resolves (Initializer-F.Value e) w = expr_resolves c e w
  step_resolves (Initializer-F.Braces at parts) w = all_resolve parts w

  rolled_resolves : (y : Initializer-F Checked) → Resolves (roll-Initializer (tree_of y))
  unfolding initializer_places initializer
  rolled_resolves y w =
      let z = tree_of y in
      subst (λ ats. Enters ats w (initializer (roll-Initializer z) c w)) (sym (fold-roll-Initializer (List Place) place.initializer_step z))
      (subst (λ (way : Way). Enters (place.initializer_step (map-Initializer Initializer (List Place) initializer_places z)) w (way c w)) (sym (fold-roll-Initializer Way initializer_step z)) (step_resolves y w))

  initializer_enters : (i : Initializer) (w : Walk) → Enters (initializer_places i) w (initializer i c w)
  initializer_enters i = ind-Initializer Resolves (λ x y is. subst (λ z. Resolves (roll-Initializer z)) is (rolled_resolves y)) i

  declarator_enters : (x : Declarator) (w : Walk) → Enters (declarator_places x) w (declarator_way x c w)
  unfolding declarator_way
  declarator_enters (declarator.Global dcl value) w =
      behind (dcl_quiet c dcl w) (next (global_enters dcl.name (dcl_bounds dcl c w)) (optional_enters c initializer initializer_places initializer_enters value _))
  declarator_enters (declarator.Function h) w = prototype_enters h w

  -- ---- members

  abbrev Quiet : Member → Type 0
  Quiet m = (w : Walk) → Enters [] w (member m c w)

  abbrev CheckedMember : Type 0
  CheckedMember = (m : Member) × Quiet m

  abbrev members_of : List CheckedMember → List Member
  members_of ys = map (λ y. y.0) ys

  all_quiet : (ys : List CheckedMember) (w : Walk) → Enters [] w (all (map member (members_of ys)) c w)
  all_quiet [] w = same w
  all_quiet (y ∷ ys) w = behind (y.1 w) (all_quiet ys (member y.0 c w))

  abbrev member_of : Member-F CheckedMember → Member-F Member
  member_of y = map-Member CheckedMember Member (λ m. m.0) y

  step_quiet : (y : Member-F CheckedMember) (w : Walk) → Enters [] w (member_step (map-Member Member Way member (member_of y)) c w)
  step_quiet (Member-F.Fields at base fields) w = behind (type_quiet c base w) (each_quiet c dcl_bounds (dcl_quiet c) fields (type_tree base c w))
  step_quiet (Member-F.Unnamed at of) w = type_quiet c of w
  step_quiet (Member-F.Inner at kind members) w = all_quiet members w

  rolled_quiet : (y : Member-F CheckedMember) → Quiet (roll-Member (member_of y))
  unfolding member
  rolled_quiet y w = subst (λ (way : Way). Enters [] w (way c w)) (sym (fold-roll-Member Way member_step (member_of y))) (step_quiet y w)

  member_quiet : (m : Member) (w : Walk) → Enters [] w (member m c w)
  member_quiet m = ind-Member Quiet (λ x y is. subst (λ z. Quiet (roll-Member z)) is (rolled_quiet y)) m

  part_quiet : (p : AdtPart) (w : Walk) → Enters [] w (adt_part p c w)
  unfolding adt_part
  part_quiet (adt.Data m) w = member_quiet m w
  part_quiet (adt.Function base stars name parameters) w = behind (type_quiet c base w) (each_bounds parameters (type_tree base c w))

  -- ---- enum constants

  valued_enters : (o : Option Expr) (w : Walk) → Enters (place.optional name_places o) w (valued o c w)
  unfolding valued
  valued_enters None w = same w
  valued_enters (Some e) w = before (expr_resolves c e w) (quiet (ask 22 (expression.place e) (is_constant_value (Some e) (slice_get c (length w.constants)))) (expr e c w))

  constant_enters_with : (x : Constant) (w : Walk) → Enters (constant_places x) w (enum_constant x c w)
  unfolding enum_constant
  constant_enters_with x w = next (valued_enters x.value w) (constant_enters x.name (valued x.value c w))

  -- ---- items

  defined_enters : {ats : List Place} (ps : List Parameter) (a : Way) → ((w : Walk) → Enters ats w (a c w)) → (w : Walk) → Enters (flat_map parameter_places ps ++ ats) w (defined ps a c w)
  unfolding defined body
  defined_enters ps a h w =
      let v : Walk = record w { around = []; start = 0; locals = [] } in
      alike {v = v} refl refl refl refl (next (each_enters c own_parameter parameter_places parameter_enters ps v) (h (each own_parameter ps c v)))

  item_enters : (x : Item) (w : Walk) → Enters (item_places x) w (item_way x c w)
  unfolding item_way
  item_enters (item.Typedef at base dcl) w = behind (type_quiet c base w) (dcl_quiet c dcl (type_tree base c w))
  item_enters (item.FunctionType at base stars name parameters) w = behind (type_quiet c base w) (each_bounds parameters (type_tree base c w))
  item_enters (item.Forward at kind name) w = same w
  item_enters (item.Aggregate at kind name members) w = each_quiet c member member_quiet members w
  item_enters (item.Adt at name parameters members) w = each_quiet c adt_member (λ m v. part_quiet m.part v) members w
  item_enters (item.Enum at name constants) w = each_enters c enum_constant constant_places constant_enters_with constants w
  item_enters (item.Declare at scope base declarators) w = behind (type_quiet c base w) (each_enters c declarator_way declarator_places declarator_enters declarators (type_tree base c w))
  item_enters (item.Function at scope base head block) w =
      let v = type_tree base c w in
      behind (type_quiet c base w) (enters_is (sym (append_assoc (head_places head) (flat_map parameter_places head.parameters) (statement_places block)))
      (next (function_if_enters head.owner head.name v) (defined_enters head.parameters (stmt block) (statement_resolves c block) (function_if head.owner head.name v))))

-- ---- a text

judge_good : {A : Type 0} (fs : List TypeFault) (a b : A) → judge fs a ≡ Good b → (fs ≡ []) × (a ≡ b)
judge_good [] a b e = (refl, cc)
judge_good (f ∷ fs) a b e = absurd (let f : ⊥ = cc in f)

pub entries_are : (tree : Tree) (scopes : Scopes) → resolved tree ≡ Good scopes → map place_of scopes.names ≡ resolved_places tree
unfolding resolved scopes_of
entries_are tree scopes e =
    let c = values tree.items in
    let w = each item_way tree.items c (begun tree.names) in
    let g = judge_good w.faults (scopes_of c w) scopes e in
    ap (λ (s : Scopes). map place_of s.names) (sym g.1) ∙ (each_enters c item_way item_places (item_enters c) tree.items (begun tree.names)).places g.0
