-- What names in expressions, types and bounds add to what is resolved.
use Rattle.std.proofs.Common.{◌≡◌, ℕ, false, List, [], ◌∷◌, ◌++◌, map, flat_map, Option, Some, None, refl, sym, ap, ◌∙◌, subst, append-nil, append_assoc}
use Rattle.std.proofs.lemmas.List.{map-append}
use Rattle.al_base.specs.declared.place.Place.{Place}
use Rattle.al_tree.specs.declared.constants.EnumConstant.{EnumConstant}
use Rattle.al_tree.specs.declared.type_tree.Bound.{Bound}
use Rattle.al_tree.specs.declared.type_tree.Dcl.{Dcl}
use Rattle.al_tree.specs.declared.type_tree.TypeTree.{TypeTree, roll-TypeTree, map-TypeTree, fold-roll-TypeTree}
use Rattle.al_tree.specs.declared.type_tree.TypeTree.TheFolds.{ind-TypeTree}
use Rattle.al_tree.specs.declared.type_tree.TypeTree.TheOpen.{TypeTree-F}
use Rattle.al_tree.specs.declared.expression.Expr.{Expr, roll-Expr, map-Expr, fold-roll-Expr}
use Rattle.al_tree.specs.declared.expression.Expr.TheFolds.{ind-Expr}
use Rattle.al_tree.specs.declared.expression.Expr.TheOpen.{Expr-F}
use Rattle.al_rules.specs.declared.fault.TypeFault.{TypeFault}
use Rattle.al_rules.specs.Outcome.{ask}
use Rattle.al_scope.specs.declared.declaration.Declaration.{Declaration}
use Rattle.al_tree_places.proofs.Unnamed.{Walk}
use Rattle.al_scope.specs.Rules.{is_declared, is_constant_bound, bound_place}
use Rattle.al_scope.specs.Names.{resolved, asked, found, used, meant}
use Rattle.al_scope.specs.Types.{Way, each, all, optional, bound, type_step, type_tree, dcl_bounds}
use Rattle.al_scope.specs.Expressions.{expr_step, expr}
use Rattle.al_tree_walks.specs.Expressions.{name_places, names_step, all_places}
use Rattle.al_tree_places.specs.Names as place
use Rattle.al_tree_places.specs.Entries.{place_of}

abbrev pub entered : Walk → List Place
entered w = map place_of w.names

-- without a fault these are the places of the entries that are added
pub record Enters (ats : List Place) (w u : Walk) : Type 0 where
  pub good : u.faults ≡ [] → w.faults ≡ []
  pub places : u.faults ≡ [] → entered u ≡ entered w ++ ats

pub nil_first : {A : Type 0} (xs ys : List A) → xs ++ ys ≡ [] → xs ≡ []
nil_first [] ys e = refl
nil_first (x ∷ xs) ys e = absurd (let f : ⊥ = cc in f)

-- nothing is entered
pub nowhere : {w u : Walk} → (u.faults ≡ [] → w.faults ≡ []) → u.names ≡ w.names → Enters [] w u
nowhere {w} {u} f e = record { good = f; places = λ h. ap (map place_of) e ∙ sym (append-nil (entered w)) }

pub same : (w : Walk) → Enters [] w w
same w = nowhere (λ h. h) refl

pub next : {ats bts : List Place} {w v u : Walk} → Enters ats w v → Enters bts v u → Enters (ats ++ bts) w u
next {ats} {bts} {w} {v} {u} a b = record {
  good = λ h. a.good (b.good h);
  places = λ h. b.places h ∙ ap (λ l. l ++ bts) (a.places (b.good h)) ∙ append_assoc (entered w) ats bts;
}

pub enters_is : {ats bts : List Place} {w u : Walk} → ats ≡ bts → Enters ats w u → Enters bts w u
enters_is {w = w} {u = u} e a = subst (λ l. Enters l w u) e a

-- behind what enters nothing
pub behind : {ats : List Place} {w v u : Walk} → Enters [] w v → Enters ats v u → Enters ats w u
behind a b = next a b

-- and then nothing
pub before : {ats : List Place} {w v u : Walk} → Enters ats w v → Enters [] v u → Enters ats w u
before {ats} a b = enters_is (append-nil ats) (next a b)

pub quiet : (fs : List TypeFault) (w : Walk) → Enters [] w (asked fs w)
quiet fs w = nowhere (λ h. nil_first w.faults fs h) refl

-- one entry
pub one : (at : Place) (d : Declaration) {w u : Walk} → (u.faults ≡ [] → w.faults ≡ []) → u.names ≡ w.names ++ resolved at d ∷ [] → Enters (at ∷ []) w u
one at d {w} {u} f e = record { good = f; places = λ h. ap (map place_of) e ∙ map-append place_of w.names (resolved at d ∷ []) }

-- a name in an expression
used_enters : (at : Place) (name : ℕ) (w : Walk) → Enters (at ∷ []) w (used at name w)
unfolding used
used_enters at name w = on (meant w name)
  where
    on : (m : Option Declaration) → Enters (at ∷ []) w (found at m (asked (ask 1 at (is_declared m)) w))
    on None = record { good = λ h. nil_first w.faults (ask 1 at false) h; places = λ h. absurd (some_fault w.faults h) }
      where
        some_fault : (fs : List TypeFault) → fs ++ ask 1 at false ≡ [] → ⊥
        some_fault [] e = let f : ⊥ = cc in f
        some_fault (x ∷ fs) e = let f : ⊥ = cc in f
    on (Some d) = one at d (λ h. nil_first w.faults [] h) refl

module _ (c : List EnumConstant) where
  pub optional_enters : {A : Type 0} (f : A → Way) (g : A → List Place) → ((x : A) (w : Walk) → Enters (g x) w (f x c w)) → (o : Option A) (w : Walk) → Enters (place.optional g o) w (optional f o c w)
  optional_enters f g h None w = same w
  optional_enters f g h (Some x) w = h x w

  pub each_enters : {A : Type 0} (f : A → Way) (g : A → List Place) → ((x : A) (w : Walk) → Enters (g x) w (f x c w)) → (xs : List A) (w : Walk) → Enters (flat_map g xs) w (each f xs c w)
  each_enters f g h [] w = same w
  each_enters f g h (x ∷ xs) w = next (h x w) (each_enters f g h xs (f x c w))

  -- parts of which none enters anything
  pub each_quiet : {A : Type 0} (f : A → Way) → ((x : A) (w : Walk) → Enters [] w (f x c w)) → (xs : List A) (w : Walk) → Enters [] w (each f xs c w)
  each_quiet f h [] w = same w
  each_quiet f h (x ∷ xs) w = behind (h x w) (each_quiet f h xs (f x c w))

  -- ---- bounds and types

  pub bound_quiet : (b : Bound) (w : Walk) → Enters [] w (bound b c w)
  unfolding bound
  bound_quiet b w = quiet (ask 22 (bound_place b) (is_constant_bound b c (bound_place b))) w

  pub optional_quiet : {A : Type 0} (f : A → Way) → ((x : A) (w : Walk) → Enters [] w (f x c w)) → (o : Option A) (w : Walk) → Enters [] w (optional f o c w)
  optional_quiet f h None w = same w
  optional_quiet f h (Some x) w = h x w

  pub dcl_quiet : (d : Dcl) (w : Walk) → Enters [] w (dcl_bounds d c w)
  dcl_quiet d w = each_quiet bound bound_quiet d.bounds w

  abbrev Quiet : TypeTree → Type 0
  Quiet t = (w : Walk) → Enters [] w (type_tree t c w)

  abbrev CheckedType : Type 0
  CheckedType = (t : TypeTree) × Quiet t

  abbrev types_of : List CheckedType → List TypeTree
  types_of ys = map (λ y. y.0) ys

  types_quiet : (ys : List CheckedType) (w : Walk) → Enters [] w (all (map type_tree (types_of ys)) c w)
  types_quiet [] w = same w
  types_quiet (y ∷ ys) w = behind (y.1 w) (types_quiet ys (type_tree y.0 c w))

  abbrev type_of : TypeTree-F CheckedType → TypeTree-F TypeTree
  type_of y = map-TypeTree CheckedType TypeTree (λ t. t.0) y

  type_step_quiet : (y : TypeTree-F CheckedType) (w : Walk) → Enters [] w (type_step (map-TypeTree TypeTree Way type_tree (type_of y)) c w)
  type_step_quiet (TypeTree-F.Basic at basic) w = same w
  type_step_quiet (TypeTree-F.Named at name arguments) w = types_quiet arguments w
  type_step_quiet (TypeTree-F.Tuple at parts) w = types_quiet parts w
  type_step_quiet (TypeTree-F.Chan at element capacity) w = behind (element.1 w) (optional_quiet bound bound_quiet capacity (type_tree element.0 c w))
  type_step_quiet (TypeTree-F.Pointer at to) w = to.1 w
  type_step_quiet (TypeTree-F.Array at size element) w = behind (element.1 w) (bound_quiet size (type_tree element.0 c w))

  rolled_quiet : (y : TypeTree-F CheckedType) → Quiet (roll-TypeTree (type_of y))
  unfolding type_tree
  rolled_quiet y w = subst (λ (way : Way). Enters [] w (way c w)) (sym (fold-roll-TypeTree Way type_step (type_of y))) (type_step_quiet y w)

  pub type_quiet : (t : TypeTree) (w : Walk) → Enters [] w (type_tree t c w)
  type_quiet t = ind-TypeTree Quiet (λ x y is. subst (λ z. Quiet (roll-TypeTree z)) is (rolled_quiet y)) t

  -- ---- expressions

  abbrev Resolves : Expr → Type 0
  Resolves e = (w : Walk) → Enters (name_places e) w (expr e c w)

  abbrev Checked : Type 0
  Checked = (e : Expr) × Resolves e

  abbrev trees : List Checked → List Expr
  trees ys = map (λ y. y.0) ys

  all_resolve : (ys : List Checked) (w : Walk) → Enters (all_places (map name_places (trees ys))) w (all (map expr (trees ys)) c w)
  all_resolve [] w = same w
  all_resolve (y ∷ ys) w = next (y.1 w) (all_resolve ys (expr y.0 c w))

  abbrev tree_of : Expr-F Checked → Expr-F Expr
  tree_of y = map-Expr Checked Expr (λ e. e.0) y

  step_resolves : (y : Expr-F Checked) (w : Walk) → Enters (names_step (map-Expr Expr (List Place) name_places (tree_of y))) w (expr_step (map-Expr Expr Way expr (tree_of y)) c w)
  step_resolves (Expr-F.Number at value) w = same w
  step_resolves (Expr-F.Char at value) w = same w
  step_resolves (Expr-F.Text at bytes) w = same w
  step_resolves (Expr-F.Nil at) w = same w
  step_resolves (Expr-F.Name at name) w = used_enters at name w
  step_resolves (Expr-F.Tuple at parts) w = all_resolve parts w
  step_resolves (Expr-F.Unary at op a) w = a.1 w
  step_resolves (Expr-F.Cast at to a) w = behind (type_quiet to w) (a.1 (type_tree to c w))
  step_resolves (Expr-F.SizeofType at of) w = type_quiet of w
  step_resolves (Expr-F.SizeofValue at a) w = a.1 w
  step_resolves (Expr-F.Index at a b) w = next (a.1 w) (b.1 (expr a.0 c w))
  step_resolves (Expr-F.Member at a how name) w = a.1 w
  step_resolves (Expr-F.Call at f xs) w = next (f.1 w) (all_resolve xs (expr f.0 c w))
  step_resolves (Expr-F.Postfix at op a) w = a.1 w
  step_resolves (Expr-F.Binary at op a b) w = next (a.1 w) (b.1 (expr a.0 c w))
  step_resolves (Expr-F.Iterator at a b) w = next (a.1 w) (b.1 (expr a.0 c w))
  step_resolves (Expr-F.Assign at op a b) w = next (a.1 w) (b.1 (expr a.0 c w))
  step_resolves (Expr-F.Sequence at parts) w = all_resolve parts w

  rolled_resolves : (y : Expr-F Checked) → Resolves (roll-Expr (tree_of y))
  unfolding name_places expr
  rolled_resolves y w =
      let z = tree_of y in
      subst (λ ats. Enters ats w (expr (roll-Expr z) c w)) (sym (fold-roll-Expr (List Place) names_step z))
      (subst (λ (way : Way). Enters (names_step (map-Expr Expr (List Place) name_places z)) w (way c w)) (sym (fold-roll-Expr Way expr_step z)) (step_resolves y w))

  pub expr_resolves : (e : Expr) (w : Walk) → Enters (name_places e) w (expr e c w)
  expr_resolves e = ind-Expr Resolves (λ x y is. subst (λ z. Resolves (roll-Expr z)) is (rolled_resolves y)) e
