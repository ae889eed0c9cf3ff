-- What the parts of items that declare no function, global or enum constant leave as it was where names are resolved.
use Rattle.std.proofs.Common.{List, [], ◌∷◌, length, map, slice_get, Option, Some, None, sym, subst}
use Rattle.al_tree.specs.declared.constants.EnumConstant.{EnumConstant}
use Rattle.al_tree.specs.declared.expression.Name.{Name}
use Rattle.al_tree.specs.declared.expression.Expr.{Expr}
use Rattle.al_tree.specs.declared.statement.Stmt.{Stmt}
use Rattle.al_tree.specs.declared.item.Parameter.{Parameter}
use Rattle.al_tree.specs.declared.item.Parameter.TheVariants as parameter
use Rattle.al_tree.specs.declared.item.Initializer.{Initializer, roll-Initializer, map-Initializer, fold-roll-Initializer}
use Rattle.al_tree.specs.declared.item.Initializer.TheFolds.{ind-Initializer}
use Rattle.al_tree.specs.declared.item.Initializer.TheOpen.{Initializer-F}
use Rattle.al_tree.specs.declared.item.Member.{Member, roll-Member, map-Member, fold-roll-Member}
use Rattle.al_tree.specs.declared.item.Member.TheFolds.{ind-Member}
use Rattle.al_tree.specs.declared.item.Member.TheOpen.{Member-F}
use Rattle.al_tree.specs.declared.item.AdtPart.{AdtPart}
use Rattle.al_tree.specs.declared.item.AdtPart.TheVariants as adt
use Rattle.al_rules.specs.Outcome.{ask}
use Rattle.al_scope.specs.Rules.{is_constant_value}
use Rattle.al_scope.specs.Types.{Way, bound, each, all, type_tree, dcl_bounds}
use Rattle.al_scope.specs.Expressions.{expr, place}
use Rattle.al_scope.specs.Statements.{stmt}
use Rattle.al_scope.specs.Items.{bound_if, parameter_bounds, local_if, name_of, own_parameter, initializer_step, initializer, member_step, member, adt_part, valued, defined}
use Rattle.al_sound_calls.proofs.Unnamed.{Walk}
use Rattle.al_sound_calls.proofs.Walks.{Stays, Keeps, same, next, kept, then, quiet, each_stays, each_keeps, optional_stays, bound_stays, dcl_stays, type_stays, expr_stays, local_keeps, nameless_stays, statement_keeps, body_stays}

module _ (c : List EnumConstant) where
  -- ---- parameters

  bounds_stay : (p : Parameter) (w : Walk) → Stays w (parameter_bounds p c w)
  unfolding parameter_bounds
  bounds_stay (parameter.Plain at base stars name bounds) w =
      next (type_stays c base w) (each_stays c bound_if (λ b v. optional_stays c bound (bound_stays c) b v) bounds (type_tree base c w))
  bounds_stay (parameter.OwnPointer at name) w = same w
  bounds_stay (parameter.OwnValue at name) w = same w

  pub each_bounds : (ps : List Parameter) (w : Walk) → Stays w (each parameter_bounds ps c w)
  each_bounds ps w = each_stays c parameter_bounds bounds_stay ps w

  local_if_keeps : (o : Option Name) (w : Walk) → Keeps w (local_if o w)
  local_if_keeps None w = kept (nameless_stays w)
  local_if_keeps (Some name) w = local_keeps name w

  parameter_keeps : (p : Parameter) (w : Walk) → Keeps w (own_parameter p c w)
  unfolding own_parameter
  parameter_keeps p w = then (kept (bounds_stay p w)) (local_if_keeps (name_of p) (parameter_bounds p c w))

  pub defined_stays : (ps : List Parameter) (s : Stmt) (w : Walk) → Stays w (defined ps (stmt s) c w)
  unfolding defined
  defined_stays ps s w =
      body_stays c (λ d u. stmt s d (each own_parameter ps d u)) (λ u. then (each_keeps c own_parameter parameter_keeps ps u) (statement_keeps c s (each own_parameter ps c u))) w

  -- ---- initializers

  abbrev Quiet : Initializer → Type 0
  Quiet i = (w : Walk) → Stays w (initializer i c w)

  abbrev Checked : Type 0
  Checked = (i : Initializer) × Quiet i

  abbrev trees : List Checked → List Initializer
  trees ys = map (λ y. y.0) ys

  all_stay : (ys : List Checked) (w : Walk) → Stays w (all (map initializer (trees ys)) c w)
  all_stay [] w = same w
  all_stay (y ∷ ys) w = next (y.1 w) (all_stay ys (initializer y.0 c w))

  abbrev tree_of : Initializer-F Checked → Initializer-F Initializer
  tree_of y = map-Initializer Checked Initializer (λ i. i.0) y

  step_stays : (y : Initializer-F Checked) (w : Walk) → Stays w (initializer_step (map-Initializer Initializer Way initializer (tree_of y)) c w)
  step_stays (Initializer-F.Value e) w = expr_stays c e w
  step_stays (Initializer-F.Braces at parts) w = all_stay parts w

  rolled_stays : (y : Initializer-F Checked) → Quiet (roll-Initializer (tree_of y))
  unfolding initializer
  rolled_stays y w = subst (λ (way : Way). Stays w (way c w)) (sym (fold-roll-Initializer Way initializer_step (tree_of y))) (step_stays y w)

  pub initializer_stays : (i : Initializer) (w : Walk) → Stays w (initializer i c w)
  initializer_stays i = ind-Initializer Quiet (λ x y is. subst (λ z. Quiet (roll-Initializer z)) is (rolled_stays y)) i

  -- ---- members

  abbrev QuietMember : Member → Type 0
  QuietMember m = (w : Walk) → Stays w (member m c w)

  abbrev CheckedMember : Type 0
  CheckedMember = (m : Member) × QuietMember m

  abbrev members_of : List CheckedMember → List Member
  members_of ys = map (λ y. y.0) ys

  members_stay : (ys : List CheckedMember) (w : Walk) → Stays w (all (map member (members_of ys)) c w)
  members_stay [] w = same w
  members_stay (y ∷ ys) w = next (y.1 w) (members_stay ys (member y.0 c w))

  abbrev member_of : Member-F CheckedMember → Member-F Member
  member_of y = map-Member CheckedMember Member (λ m. m.0) y

  member_step_stays : (y : Member-F CheckedMember) (w : Walk) → Stays w (member_step (map-Member Member Way member (member_of y)) c w)
  member_step_stays (Member-F.Fields at base fields) w = next (type_stays c base w) (each_stays c dcl_bounds (dcl_stays c) fields (type_tree base c w))
  member_step_stays (Member-F.Unnamed at of) w = type_stays c of w
  member_step_stays (Member-F.Inner at kind members) w = members_stay members w

  rolled_member : (y : Member-F CheckedMember) → QuietMember (roll-Member (member_of y))
  unfolding member
  rolled_member y w = subst (λ (way : Way). Stays w (way c w)) (sym (fold-roll-Member Way member_step (member_of y))) (member_step_stays y w)

  pub member_stays : (m : Member) (w : Walk) → Stays w (member m c w)
  member_stays m = ind-Member QuietMember (λ x y is. subst (λ z. QuietMember (roll-Member z)) is (rolled_member y)) m

  pub part_stays : (p : AdtPart) (w : Walk) → Stays w (adt_part p c w)
  unfolding adt_part
  part_stays (adt.Data m) w = member_stays m w
  part_stays (adt.Function base stars name parameters) w = next (type_stays c base w) (each_bounds parameters (type_tree base c w))

  -- ---- enum constants

  pub valued_stays : (o : Option Expr) (w : Walk) → Stays w (valued o c w)
  unfolding valued
  valued_stays None w = same w
  valued_stays (Some e) w = next (expr_stays c e w) (quiet (ask 22 (place e) (is_constant_value (Some e) (slice_get c (length w.constants)))) (expr e c w))
