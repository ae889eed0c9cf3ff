-- The branches in a statement, and where they stand, by those that stand in no other branch.
use Rattle.std.proofs.Common.{◌≡◌, List, [], ◌∷◌, ◌++◌, map, Some, None, refl, sym, ap, ◌∙◌, subst}
use Rattle.std.specs.List.{flat_map}
use Rattle.std.proofs.lemmas.Grind.{flat_map-append}
use Rattle.al_tree.specs.declared.statement.Stmt.{Stmt, fold-roll-Stmt, map-Stmt, para-roll-Stmt, roll-Stmt}
use Rattle.al_tree.specs.declared.statement.Stmt.TheFolds.{ind-Stmt}
use Rattle.al_tree.specs.declared.statement.Stmt.TheOpen.{Stmt-F}
use Rattle.al_tree.specs.declared.statement.Stmt.TheViews.{out-roll-Stmt}
use Rattle.al_tree_walks.specs.Statements.{branches, branches_with, own_branches}
use Rattle.al_branches.specs.Statements.{Part, as_branch, at_step, branch_places, branches_step, in_par, part, step}
use Rattle.al_branches.specs.Statements.{inside as places_inside, place as place_in_text}
use Rattle.al_type_function.specs.Branches.{place, place_at}

abbrev pub with_inner : Stmt → List Stmt
with_inner u = u ∷ branches u

abbrev pub Pair : Type 0
Pair = Stmt × List Stmt

abbrev pub second : Pair → List Stmt
second p = p.1

abbrev pub own_par : List Pair → List Stmt
own_par bodies = map (λ (p : Pair). p.0) bodies

abbrev pub all_par : List Pair → List Stmt
all_par = flat_map (λ (p : Pair). p.0 ∷ p.1)

abbrev pub own_of : Stmt → Pair
own_of s = (s, own_branches s)

abbrev pub all_of : Stmt → Pair
all_of s = (s, branches s)

-- ---- lists that are joined of what branches give

module _ {X : Type 0} (g : Stmt → List X) where
  joined : (xs ys : List X) (us vs : List Stmt) → xs ≡ flat_map g us → ys ≡ flat_map g vs → xs ++ ys ≡ flat_map g (us ++ vs)
  joined xs ys us vs e f = ap (λ l. l ++ ys) e ∙ ap (λ l. flat_map g us ++ l) f ∙ sym (flat_map-append g us vs)

-- ---- all branches

module _ where
  abbrev AllAre : Stmt → Type 0
  AllAre s = branches s ≡ flat_map with_inner (own_branches s)

  abbrev Checked : Type 0
  Checked = (s : Stmt) × AllAre s

  abbrev plain : List Checked → List Stmt
  plain ys = map (λ (y : Checked). y.0) ys

  abbrev tree_of : Stmt-F Checked → Stmt-F Stmt
  tree_of y = map-Stmt Checked Stmt (λ (c : Checked). c.0) y

  each_all : (ys : List Checked) → flat_map second (map all_of (plain ys)) ≡ flat_map with_inner (flat_map second (map own_of (plain ys)))
  each_all [] = refl
  each_all (y ∷ ys) = joined with_inner (branches y.0) (flat_map second (map all_of (plain ys))) (own_branches y.0) (flat_map second (map own_of (plain ys))) y.1 (each_all ys)

  par_all : (ys : List Checked) → all_par (map all_of (plain ys)) ≡ flat_map with_inner (own_par (map own_of (plain ys)))
  par_all [] = refl
  par_all (y ∷ ys) = ap (λ l. (y.0 ∷ branches y.0) ++ l) (par_all ys)

  all_step : (y : Stmt-F Checked) → branches_with all_par (map-Stmt Stmt Pair all_of (tree_of y)) ≡ flat_map with_inner (branches_with own_par (map-Stmt Stmt Pair own_of (tree_of y)))
  all_step (Stmt-F.Block at body) = each_all body
  all_step (Stmt-F.Label at name body) = body.1
  all_step (Stmt-F.If at e met None) = joined with_inner (branches met.0) [] (own_branches met.0) [] met.1 refl
  all_step (Stmt-F.If at e met (Some other)) = joined with_inner (branches met.0) (branches other.0) (own_branches met.0) (own_branches other.0) met.1 other.1
  all_step (Stmt-F.While at e body) = body.1
  all_step (Stmt-F.Do at body e) = body.1
  all_step (Stmt-F.For at start e next body) = body.1
  all_step (Stmt-F.Switch at e body) = each_all body
  all_step (Stmt-F.Alt at body) = each_all body
  all_step (Stmt-F.Par at bodies) = par_all bodies
  all_step (Stmt-F.Rescue at name body) = body.1
  all_step (Stmt-F.Empty at) = refl
  all_step (Stmt-F.Declare at base variables) = refl
  all_step (Stmt-F.Value at e) = refl
  all_step (Stmt-F.Case at e) = refl
  all_step (Stmt-F.Default at) = refl
  all_step (Stmt-F.Raise at name) = refl
  all_step (Stmt-F.Return at e) = refl
  all_step (Stmt-F.Become at e) = refl
  all_step (Stmt-F.Break at count) = refl
  all_step (Stmt-F.Continue at count) = refl
  all_step (Stmt-F.Goto at name) = refl
  all_step (Stmt-F.Alloc at es) = refl
  all_step (Stmt-F.Unalloc at es) = refl
  all_step (Stmt-F.Check at e text) = refl
  all_step (Stmt-F.Proc at es) = refl
  all_step (Stmt-F.Task at es) = refl

  all_roll : (y : Stmt-F Checked) → AllAre (roll-Stmt (tree_of y))
  unfolding branches own_branches
  all_roll y =
      para-roll-Stmt (List Stmt) (branches_with all_par) (tree_of y) ∙ all_step y
      ∙ ap (flat_map with_inner) (sym (para-roll-Stmt (List Stmt) (branches_with own_par) (tree_of y)))

  -- all branches in a statement are those of its own pars, each with those in it
  pub all_are : (s : Stmt) → AllAre s
  all_are = ind-Stmt AllAre (λ x y is. subst (λ z. AllAre (roll-Stmt z)) is (all_roll y))

-- ---- their places

same_at : (y : Stmt-F Stmt) → at_step (map-Stmt Stmt Part part y) ≡ place_at y
same_at (Stmt-F.Block at body) = refl
same_at (Stmt-F.Label at name body) = refl
same_at (Stmt-F.If at e met other) = refl
same_at (Stmt-F.While at e body) = refl
same_at (Stmt-F.Do at body e) = refl
same_at (Stmt-F.For at start e next body) = refl
same_at (Stmt-F.Switch at e body) = refl
same_at (Stmt-F.Alt at body) = refl
same_at (Stmt-F.Par at bodies) = refl
same_at (Stmt-F.Rescue at name body) = refl
same_at (Stmt-F.Empty at) = refl
same_at (Stmt-F.Declare at base variables) = refl
same_at (Stmt-F.Value at e) = refl
same_at (Stmt-F.Case at e) = refl
same_at (Stmt-F.Default at) = refl
same_at (Stmt-F.Raise at name) = refl
same_at (Stmt-F.Return at e) = refl
same_at (Stmt-F.Become at e) = refl
same_at (Stmt-F.Break at count) = refl
same_at (Stmt-F.Continue at count) = refl
same_at (Stmt-F.Goto at name) = refl
same_at (Stmt-F.Alloc at es) = refl
same_at (Stmt-F.Unalloc at es) = refl
same_at (Stmt-F.Check at e text) = refl
same_at (Stmt-F.Proc at es) = refl
same_at (Stmt-F.Task at es) = refl

rolled_place : (x : Stmt-F Stmt) → place_in_text (roll-Stmt x) ≡ place (roll-Stmt x)
unfolding part place
rolled_place x = ap (λ (p : Part). p.at) (fold-roll-Stmt Part step x) ∙ same_at x ∙ sym (ap place_at (out-roll-Stmt x))

-- a statement has one place
pub same_place_of : (s : Stmt) → place_in_text s ≡ place s
same_place_of = ind-Stmt (λ t. place_in_text t ≡ place t) (λ x y is. rolled_place x)

module _ where
  abbrev PlacesAre : Stmt → Type 0
  PlacesAre s = branch_places s ≡ flat_map in_par (own_branches s)

  abbrev Placed : Type 0
  Placed = (s : Stmt) × PlacesAre s

  abbrev bare : List Placed → List Stmt
  bare ys = map (λ (y : Placed). y.0) ys

  abbrev bare_of : Stmt-F Placed → Stmt-F Stmt
  bare_of y = map-Stmt Placed Stmt (λ (c : Placed). c.0) y

  each_places : (ys : List Placed) → flat_map places_inside (map part (bare ys)) ≡ flat_map in_par (flat_map second (map own_of (bare ys)))
  each_places [] = refl
  each_places (y ∷ ys) = joined in_par (branch_places y.0) (flat_map places_inside (map part (bare ys))) (own_branches y.0) (flat_map second (map own_of (bare ys))) y.1 (each_places ys)

  par_places : (ys : List Placed) → flat_map as_branch (map part (bare ys)) ≡ flat_map in_par (own_par (map own_of (bare ys)))
  par_places [] = refl
  par_places (y ∷ ys) = ap (λ l. in_par y.0 ++ l) (par_places ys)

  places_step : (y : Stmt-F Placed) → branches_step (map-Stmt Stmt Part part (bare_of y)) ≡ flat_map in_par (branches_with own_par (map-Stmt Stmt Pair own_of (bare_of y)))
  places_step (Stmt-F.Block at body) = each_places body
  places_step (Stmt-F.Label at name body) = body.1
  places_step (Stmt-F.If at e met None) = joined in_par (branch_places met.0) [] (own_branches met.0) [] met.1 refl
  places_step (Stmt-F.If at e met (Some other)) = joined in_par (branch_places met.0) (branch_places other.0) (own_branches met.0) (own_branches other.0) met.1 other.1
  places_step (Stmt-F.While at e body) = body.1
  places_step (Stmt-F.Do at body e) = body.1
  places_step (Stmt-F.For at start e next body) = body.1
  places_step (Stmt-F.Switch at e body) = each_places body
  places_step (Stmt-F.Alt at body) = each_places body
  places_step (Stmt-F.Par at bodies) = par_places bodies
  places_step (Stmt-F.Rescue at name body) = body.1
  places_step (Stmt-F.Empty at) = refl
  places_step (Stmt-F.Declare at base variables) = refl
  places_step (Stmt-F.Value at e) = refl
  places_step (Stmt-F.Case at e) = refl
  places_step (Stmt-F.Default at) = refl
  places_step (Stmt-F.Raise at name) = refl
  places_step (Stmt-F.Return at e) = refl
  places_step (Stmt-F.Become at e) = refl
  places_step (Stmt-F.Break at count) = refl
  places_step (Stmt-F.Continue at count) = refl
  places_step (Stmt-F.Goto at name) = refl
  places_step (Stmt-F.Alloc at es) = refl
  places_step (Stmt-F.Unalloc at es) = refl
  places_step (Stmt-F.Check at e text) = refl
  places_step (Stmt-F.Proc at es) = refl
  places_step (Stmt-F.Task at es) = refl

  places_roll : (y : Stmt-F Placed) → PlacesAre (roll-Stmt (bare_of y))
  unfolding part own_branches
  places_roll y =
      ap places_inside (fold-roll-Stmt Part step (bare_of y)) ∙ places_step y
      ∙ ap (flat_map in_par) (sym (para-roll-Stmt (List Stmt) (branches_with own_par) (bare_of y)))

  -- the places of all branches in a statement
  pub places_are : (s : Stmt) → PlacesAre s
  places_are = ind-Stmt PlacesAre (λ x y is. subst (λ z. PlacesAre (roll-Stmt z)) is (places_roll y))
