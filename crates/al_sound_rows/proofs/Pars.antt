-- The branches of each par in a statement are branches of the statement.
use Rattle.std.proofs.Common.{◌≡◌, ℕ, ◌+◌, List, [], ◌∷◌, ◌++◌, map, Some, None, refl, sym, ap, ◌∙◌, subst}
use Rattle.std.specs.Prelude.{All, Contains}
use Rattle.std.specs.List.{flat_map}
use Rattle.std.proofs.lemmas.List.Elements.{All-append, All-cons, All-contains_itself, All-nil, All-weaker, Contains-append_left, Contains-append_right}
use Rattle.al_base.specs.declared.place.Place.{Place}
use Rattle.al_tree.specs.declared.statement.Stmt.{Stmt, map-Stmt, out-Stmt, para-roll-Stmt, roll-Stmt}
use Rattle.al_tree.specs.declared.statement.Stmt.TheFolds.{ind-Stmt}
use Rattle.al_tree.specs.declared.statement.Stmt.TheOpen.{Stmt-F}
use Rattle.al_tree.specs.declared.statement.Stmt.TheViews.{out-roll-Stmt}
use Rattle.al_tree_walks.specs.Statements.{Standing, branches_with, inner_step, own_branches, standing, standing_step}
use Rattle.al_tree_walks.specs.Statements.{Way as StandingWay}
use Rattle.al_sound_rows.proofs.Trees.{own_of, own_par, second}

-- ---- what stands in a statement

abbrev Pair : Type 0
Pair = Stmt × StandingWay

abbrev pub stand : Stmt → Pair
stand s = (s, standing s)

-- of each par that stands in a statement
abbrev pub OfPars : (List Stmt → Type 0) → Standing → Type 0
OfPars P x = (at : Place) (bodies : List Stmt) → out-Stmt x.tree ≡ Stmt-F.Par at bodies → P bodies

abbrev pub AllPars : (List Stmt → Type 0) → Stmt → Type 0
AllPars P s = (b l : ℕ) → All (OfPars P) (standing s b l)

pars_weaker : (P Q : List Stmt → Type 0) → ((us : List Stmt) → P us → Q us) → (xs : List Standing) → All (OfPars P) xs → All (OfPars Q) xs
pars_weaker P Q f xs h = All-weaker (OfPars P) (OfPars Q) (λ x p at bodies e. f bodies (p at bodies e)) xs h

-- what is no par
abbrev pub NoPar : Stmt-F Stmt → Type 0
NoPar y = (at : Place) (bodies : List Stmt) → y ≡ Stmt-F.Par at bodies → ⊥

no_par : (P : List Stmt → Type 0) (y : Stmt-F Stmt) (b l : ℕ) → NoPar y → OfPars P (record { tree = roll-Stmt y; breaks = b; loops = l })
no_par P y b l h at bodies e = absurd (h at bodies (sym (out-roll-Stmt y) ∙ e))

-- a statement as it stands among those in it
abbrev pub again : Stmt-F Stmt → Stmt-F Stmt
again y = map-Stmt Pair Stmt (λ (p : Pair). p.0) (map-Stmt Stmt Pair stand y)

twice : (us : List Stmt) → map (λ (p : Pair). p.0) (map stand us) ≡ us
twice [] = refl
twice (u ∷ us) = ap (λ l. u ∷ l) (twice us)

pub same_bodies : (at to : Place) (xs ys : List Stmt) → ◌≡◌ {A = Stmt-F Stmt} (Stmt-F.Par at xs) (Stmt-F.Par to ys) → xs ≡ ys
same_bodies at to xs ys h = cc

-- a statement is a par exactly where it is one by its kind
pub head_is : (P : List Stmt → Type 0) (y : Stmt-F Stmt) (b l : ℕ) → ((at : Place) (bodies : List Stmt) → y ≡ Stmt-F.Par at bodies → P bodies)
    → OfPars P (record { tree = roll-Stmt (again y); breaks = b; loops = l })
head_is P (Stmt-F.Par at bodies) b l h =
    λ to us e.
    subst P
    (sym (twice bodies) ∙ same_bodies at to (map (λ (p : Pair). p.0) (map stand bodies)) us (sym (out-roll-Stmt (Stmt-F.Par at (map (λ (p : Pair). p.0) (map stand bodies)))) ∙ e))
    (h at bodies refl)
head_is P (Stmt-F.Block at body) b l h = no_par P (again (Stmt-F.Block at body)) b l (λ to us q. cc)
head_is P (Stmt-F.Label at name body) b l h = no_par P (again (Stmt-F.Label at name body)) b l (λ to us q. cc)
head_is P (Stmt-F.If at e met other) b l h = no_par P (again (Stmt-F.If at e met other)) b l (λ to us q. cc)
head_is P (Stmt-F.While at e body) b l h = no_par P (again (Stmt-F.While at e body)) b l (λ to us q. cc)
head_is P (Stmt-F.Do at body e) b l h = no_par P (again (Stmt-F.Do at body e)) b l (λ to us q. cc)
head_is P (Stmt-F.For at start e next body) b l h = no_par P (again (Stmt-F.For at start e next body)) b l (λ to us q. cc)
head_is P (Stmt-F.Switch at e body) b l h = no_par P (again (Stmt-F.Switch at e body)) b l (λ to us q. cc)
head_is P (Stmt-F.Alt at body) b l h = no_par P (again (Stmt-F.Alt at body)) b l (λ to us q. cc)
head_is P (Stmt-F.Rescue at name body) b l h = no_par P (again (Stmt-F.Rescue at name body)) b l (λ to us q. cc)
head_is P (Stmt-F.Empty at) b l h = no_par P (again (Stmt-F.Empty at)) b l (λ to us q. cc)
head_is P (Stmt-F.Declare at base variables) b l h = no_par P (again (Stmt-F.Declare at base variables)) b l (λ to us q. cc)
head_is P (Stmt-F.Value at e) b l h = no_par P (again (Stmt-F.Value at e)) b l (λ to us q. cc)
head_is P (Stmt-F.Case at e) b l h = no_par P (again (Stmt-F.Case at e)) b l (λ to us q. cc)
head_is P (Stmt-F.Default at) b l h = no_par P (again (Stmt-F.Default at)) b l (λ to us q. cc)
head_is P (Stmt-F.Raise at name) b l h = no_par P (again (Stmt-F.Raise at name)) b l (λ to us q. cc)
head_is P (Stmt-F.Return at e) b l h = no_par P (again (Stmt-F.Return at e)) b l (λ to us q. cc)
head_is P (Stmt-F.Become at e) b l h = no_par P (again (Stmt-F.Become at e)) b l (λ to us q. cc)
head_is P (Stmt-F.Break at count) b l h = no_par P (again (Stmt-F.Break at count)) b l (λ to us q. cc)
head_is P (Stmt-F.Continue at count) b l h = no_par P (again (Stmt-F.Continue at count)) b l (λ to us q. cc)
head_is P (Stmt-F.Goto at name) b l h = no_par P (again (Stmt-F.Goto at name)) b l (λ to us q. cc)
head_is P (Stmt-F.Alloc at es) b l h = no_par P (again (Stmt-F.Alloc at es)) b l (λ to us q. cc)
head_is P (Stmt-F.Unalloc at es) b l h = no_par P (again (Stmt-F.Unalloc at es)) b l (λ to us q. cc)
head_is P (Stmt-F.Check at e text) b l h = no_par P (again (Stmt-F.Check at e text)) b l (λ to us q. cc)
head_is P (Stmt-F.Proc at es) b l h = no_par P (again (Stmt-F.Proc at es)) b l (λ to us q. cc)
head_is P (Stmt-F.Task at es) b l h = no_par P (again (Stmt-F.Task at es)) b l (λ to us q. cc)

-- ---- each par's branches are branches of the statement

module _ where
  abbrev Inside : Stmt → List Stmt → Type 0
  Inside s bodies = All (Contains (own_branches s)) bodies

  abbrev Holds : Stmt → Type 0
  Holds s = AllPars (Inside s) s

  abbrev Checked : Type 0
  Checked = (s : Stmt) × Holds s

  abbrev plain : List Checked → List Stmt
  plain ys = map (λ (y : Checked). y.0) ys

  abbrev tree_of : Stmt-F Checked → Stmt-F Stmt
  tree_of y = map-Stmt Checked Stmt (λ (c : Checked). c.0) y

  abbrev Among : List Stmt → List Stmt → Type 0
  Among us bodies = All (Contains us) bodies

  wider_left : (us vs : List Stmt) (xs : List Standing) → All (OfPars (Among us)) xs → All (OfPars (Among (us ++ vs))) xs
  wider_left us vs xs h = pars_weaker (Among us) (Among (us ++ vs)) (λ bodies c. All-weaker (Contains us) (Contains (us ++ vs)) (λ u k. Contains-append_left us vs u k) bodies c) xs h

  wider_right : (us vs : List Stmt) (xs : List Standing) → All (OfPars (Among vs)) xs → All (OfPars (Among (us ++ vs))) xs
  wider_right us vs xs h = pars_weaker (Among vs) (Among (us ++ vs)) (λ bodies c. All-weaker (Contains vs) (Contains (us ++ vs)) (λ u k. Contains-append_right us vs u k) bodies c) xs h

  both_stand : (us vs : List Stmt) (xs ys : List Standing) → All (OfPars (Among us)) xs → All (OfPars (Among vs)) ys → All (OfPars (Among (us ++ vs))) (xs ++ ys)
  both_stand us vs xs ys h k = All-append (OfPars (Among (us ++ vs))) xs ys (wider_left us vs xs h) (wider_right us vs ys k)

  none_stand : (us : List Stmt) → All (OfPars (Among us)) []
  none_stand us = All-nil (OfPars (Among us))

  each_stand : (ys : List Checked) (b l : ℕ) → All (OfPars (Among (flat_map second (map own_of (plain ys))))) (flat_map (λ (p : Pair). p.1 b l) (map stand (plain ys)))
  each_stand [] b l = none_stand []
  each_stand (y ∷ ys) b l =
      both_stand (own_branches y.0) (flat_map second (map own_of (plain ys))) (standing y.0 b l) (flat_map (λ (p : Pair). p.1 b l) (map stand (plain ys))) (y.1 b l) (each_stand ys b l)

  owned : (us : List Stmt) → own_par (map own_of us) ≡ us
  owned [] = refl
  owned (u ∷ us) = ap (λ l. u ∷ l) (owned us)

  -- the branches of a statement by its kind
  abbrev own_in : Stmt-F Stmt → List Stmt
  own_in y = branches_with own_par (map-Stmt Stmt (Stmt × List Stmt) own_of y)

  par_holds : (y : Stmt-F Stmt) (at : Place) (bodies : List Stmt) → y ≡ Stmt-F.Par at bodies → Among (own_in y) bodies
  par_holds y at bodies e = subst (λ us. Among us bodies) (sym (ap own_in e ∙ owned bodies)) (All-contains_itself bodies)

  inner_holds : (y : Stmt-F Checked) (b l : ℕ) → All (OfPars (Among (own_in (tree_of y)))) (inner_step (map-Stmt Stmt Pair stand (tree_of y)) b l)
  inner_holds (Stmt-F.Block at body) b l = each_stand body b l
  inner_holds (Stmt-F.Label at name body) b l = body.1 b l
  inner_holds (Stmt-F.If at e met None) b l = both_stand (own_branches met.0) [] (standing met.0 b l) [] (met.1 b l) (none_stand [])
  inner_holds (Stmt-F.If at e met (Some other)) b l = both_stand (own_branches met.0) (own_branches other.0) (standing met.0 b l) (standing other.0 b l) (met.1 b l) (other.1 b l)
  inner_holds (Stmt-F.While at e body) b l = body.1 (b + 1) (l + 1)
  inner_holds (Stmt-F.Do at body e) b l = body.1 (b + 1) (l + 1)
  inner_holds (Stmt-F.For at start e next body) b l = body.1 (b + 1) (l + 1)
  inner_holds (Stmt-F.Switch at e body) b l = each_stand body (b + 1) l
  inner_holds (Stmt-F.Alt at body) b l = each_stand body (b + 1) l
  inner_holds (Stmt-F.Rescue at name body) b l = body.1 b l
  inner_holds (Stmt-F.Empty at) b l = none_stand []
  inner_holds (Stmt-F.Declare at base variables) b l = none_stand []
  inner_holds (Stmt-F.Value at e) b l = none_stand []
  inner_holds (Stmt-F.Case at e) b l = none_stand []
  inner_holds (Stmt-F.Default at) b l = none_stand []
  inner_holds (Stmt-F.Raise at name) b l = none_stand []
  inner_holds (Stmt-F.Return at e) b l = none_stand []
  inner_holds (Stmt-F.Become at e) b l = none_stand []
  inner_holds (Stmt-F.Break at count) b l = none_stand []
  inner_holds (Stmt-F.Continue at count) b l = none_stand []
  inner_holds (Stmt-F.Goto at name) b l = none_stand []
  inner_holds (Stmt-F.Alloc at es) b l = none_stand []
  inner_holds (Stmt-F.Unalloc at es) b l = none_stand []
  inner_holds (Stmt-F.Check at e text) b l = none_stand []
  inner_holds (Stmt-F.Proc at es) b l = none_stand []
  inner_holds (Stmt-F.Task at es) b l = none_stand []
  inner_holds (Stmt-F.Par at bodies) b l = none_stand (own_par (map own_of (plain bodies)))

  step_holds : (y : Stmt-F Checked) (b l : ℕ) → All (OfPars (Among (own_in (tree_of y)))) (standing_step (map-Stmt Stmt Pair stand (tree_of y)) b l)
  step_holds y b l =
      All-cons (OfPars (Among (own_in (tree_of y)))) (record { tree = roll-Stmt (again (tree_of y)); breaks = b; loops = l }) (inner_step (map-Stmt Stmt Pair stand (tree_of y)) b l)
      (head_is (Among (own_in (tree_of y))) (tree_of y) b l (par_holds (tree_of y))) (inner_holds y b l)

  roll_holds : (y : Stmt-F Checked) → Holds (roll-Stmt (tree_of y))
  unfolding standing own_branches
  roll_holds y b l =
      subst (λ us. All (OfPars (Among us)) (standing (roll-Stmt (tree_of y)) b l)) (sym (para-roll-Stmt (List Stmt) (branches_with own_par) (tree_of y)))
      (subst (All (OfPars (Among (branches_with own_par (map-Stmt Stmt (Stmt × List Stmt) own_of (tree_of y))))))
      (sym (ap (λ (f : StandingWay). f b l) (para-roll-Stmt StandingWay standing_step (tree_of y)))) (step_holds y b l))

  pub pars_inside : (s : Stmt) → AllPars (λ bodies. All (Contains (own_branches s)) bodies) s
  pars_inside = ind-Stmt Holds (λ x y is. subst (λ z. Holds (roll-Stmt z)) is (roll_holds y))
