-- The branches of a body as they are typed, each with those in it.
use Rattle.std.proofs.Common.{◌≡◌, ℕ, List, [], ◌∷◌, ◌++◌, map, Some, None, sym, ap, ◌∙◌, subst, append_assoc}
use Rattle.std.specs.Prelude.{All, Contains}
use Rattle.std.specs.List.{flat_map}
use Rattle.std.proofs.lemmas.List.{append-nil}
use Rattle.std.proofs.lemmas.List.Elements.{All-cons, All-contains_itself, All-head, All-nil, All-weaker, Contains-append_left, Contains-append_right}
use Rattle.al_base.specs.declared.place.Place.{Place}
use Rattle.al_tree.specs.declared.statement.Stmt.{Stmt, map-Stmt, para-roll-Stmt, roll-Stmt}
use Rattle.al_tree.specs.declared.statement.Stmt.TheFolds.{ind-Stmt}
use Rattle.al_tree.specs.declared.statement.Stmt.TheOpen.{Stmt-F}
use Rattle.al_tree_walks.specs.Statements.{branches_with, own_branches}
use Rattle.al_rules.specs.Outcome.{Good, and_then}
use Rattle.al_branches.specs.Statements.{in_par, branch_places}
use Rattle.al_environment.specs.declared.environment.Environment.{Environment}
use Rattle.al_type_stmt.specs.declared.within.Within.{Within}
use Rattle.al_type_stmt.specs.Statements.{branch_at, statement}
use Rattle.al_type_function.specs.declared.branch.NumberedBranch.{NumberedBranch}
use Rattle.al_type_function.specs.Branches.{Way, branch, branch_outline, branches, each, framed, inner_site, numbered_branch, opened_branch, optional, place, stmt_step, typed_branch, way}
use Rattle.al_sound_rows.specs.Unnamed.{Site}
use Rattle.al_sound_rows.proofs.Outcomes.{after_pair, and_then_good, good_is}
use Rattle.al_sound_rows.proofs.Lists.{Along, along_append}
use Rattle.al_sound_rows.proofs.Trees.{own_of, own_par, places_are, same_place_of, second}

module _ (env : Environment) (names : List (List ℕ)) (w : Within) where
  -- branches of pars that stand there, and what is typed of them and of those in them
  pub data Typed : Site → List Stmt → List NumberedBranch → Type 0 where
    none : (site : Site) → Typed site [] []
    more : (site : Site) (u : Stmt) (b : NumberedBranch) (inner : List NumberedBranch) (us : List Stmt) (rest : List NumberedBranch) → typed_branch env names w site u ≡ Good b
        → Typed (inner_site env names site u b.number) (own_branches u) inner → Typed site us rest → Typed site (u ∷ us) (b ∷ (inner ++ rest))

  typed_append : {site : Site} {us vs : List Stmt} {xs ys : List NumberedBranch} → Typed site us xs → Typed site vs ys → Typed site (us ++ vs) (xs ++ ys)
  typed_append (none site) t = t
  typed_append {vs = vs} {ys = ys} (more site u b inner us rest e i r) t =
      subst (λ l. Typed site (u ∷ (us ++ vs)) (b ∷ l)) (sym (append_assoc inner rest ys)) (more site u b inner (us ++ vs) (rest ++ ys) e i (typed_append r t))

  -- ---- what is typed behind others

  record Grows (site : Site) (done : List NumberedBranch) (us : List Stmt) (bs : List NumberedBranch) : Type 0 where
    new : List NumberedBranch
    is : bs ≡ done ++ new
    typed : Typed site us new

  grows_not : (site : Site) (done bs : List NumberedBranch) → Good done ≡ Good bs → Grows site done [] bs
  grows_not site done bs e = record { new = []; is = sym (good_is e) ∙ sym (append-nil done); typed = none site }

  grows_twice : (site : Site) (done mid bs : List NumberedBranch) (us vs : List Stmt) → Grows site done us mid → Grows site mid vs bs → Grows site done (us ++ vs) bs
  grows_twice site done mid bs us vs g h = record {
    new = g.new ++ h.new;
    is = h.is ∙ ap (λ l. l ++ h.new) g.is ∙ append_assoc done g.new h.new;
    typed = typed_append g.typed h.typed;
  }

  -- ---- by the kind of a statement

  abbrev Holds : Stmt → Type 0
  Holds s = (site : Site) (done bs : List NumberedBranch) → branches env names w s site done ≡ Good bs → Grows site done (own_branches s) bs

  abbrev Checked : Type 0
  Checked = (s : Stmt) × Holds s

  abbrev way_of : Stmt → Stmt × Way
  way_of s = (s, branches env names w s)

  abbrev plain : List Checked → List Stmt
  plain ys = map (λ (y : Checked). y.0) ys

  abbrev tree_of : Stmt-F Checked → Stmt-F Stmt
  tree_of y = map-Stmt Checked Stmt (λ (c : Checked). c.0) y

  each_grows : (ys : List Checked) (site : Site) (done bs : List NumberedBranch) → each way (map way_of (plain ys)) site done ≡ Good bs
      → Grows site done (flat_map second (map own_of (plain ys))) bs
  each_grows [] site done bs e = grows_not site done bs e
  each_grows (y ∷ ys) site done bs e =
      let a = and_then_good (branches env names w y.0 site done) (each way (map way_of (plain ys)) site) bs e in
      grows_twice site done a.0 bs (own_branches y.0) (flat_map second (map own_of (plain ys))) (y.1 site done a.0 a.1) (each_grows ys site a.0 bs a.2)

  one_grows : (y : Checked) (site : Site) (done bs : List NumberedBranch) → branch env names w (way_of y.0) site done ≡ Good bs → Grows site done (y.0 ∷ []) bs
  unfolding branch
  one_grows y site done bs e =
      let a = and_then_good (typed_branch env names w site y.0) (λ b. branches env names w y.0 (inner_site env names site y.0 b.number) (done ++ b ∷ [])) bs e in
      let b : NumberedBranch = a.0 in
      let g = y.1 (inner_site env names site y.0 b.number) (done ++ b ∷ []) bs a.2 in
      record {
        new = b ∷ (g.new ++ []);
        is = g.is ∙ append_assoc done (b ∷ []) g.new ∙ ap (λ l. done ++ b ∷ l) (sym (append-nil g.new));
        typed = more site y.0 b g.new [] [] a.1 g.typed (none site);
      }

  par_grows : (ys : List Checked) (site : Site) (done bs : List NumberedBranch) → each (branch env names w) (map way_of (plain ys)) site done ≡ Good bs
      → Grows site done (own_par (map own_of (plain ys))) bs
  par_grows [] site done bs e = grows_not site done bs e
  par_grows (y ∷ ys) site done bs e =
      let a = and_then_good (branch env names w (way_of y.0) site done) (each (branch env names w) (map way_of (plain ys)) site) bs e in
      grows_twice site done a.0 bs (y.0 ∷ []) (own_par (map own_of (plain ys))) (one_grows y site done a.0 a.1) (par_grows ys site a.0 bs a.2)

  abbrev own_in : Stmt-F Stmt → List Stmt
  own_in y = branches_with own_par (map-Stmt Stmt (Stmt × List Stmt) own_of y)

  step_grows : (y : Stmt-F Checked) (site : Site) (done bs : List NumberedBranch) → stmt_step env names w (map-Stmt Stmt (Stmt × Way) way_of (tree_of y)) site done ≡ Good bs
      → Grows site done (own_in (tree_of y)) bs
  step_grows (Stmt-F.Block at body) site done bs e = each_grows body site done bs e
  step_grows (Stmt-F.Label at name body) site done bs e = body.1 site done bs e
  step_grows (Stmt-F.If at v met None) site done bs e =
      let a = and_then_good (branches env names w met.0 site done) (optional way None site) bs e in
      grows_twice site done a.0 bs (own_branches met.0) [] (met.1 site done a.0 a.1) (grows_not site a.0 bs a.2)
  step_grows (Stmt-F.If at v met (Some other)) site done bs e =
      let a = and_then_good (branches env names w met.0 site done) (optional way (Some (way_of other.0)) site) bs e in
      grows_twice site done a.0 bs (own_branches met.0) (own_branches other.0) (met.1 site done a.0 a.1) (other.1 site a.0 bs a.2)
  step_grows (Stmt-F.While at v body) site done bs e = body.1 site done bs e
  step_grows (Stmt-F.Do at body v) site done bs e = body.1 site done bs e
  step_grows (Stmt-F.For at start v next body) site done bs e = body.1 site done bs e
  step_grows (Stmt-F.Switch at v body) site done bs e = each_grows body site done bs e
  step_grows (Stmt-F.Alt at body) site done bs e = each_grows body site done bs e
  step_grows (Stmt-F.Par at bodies) site done bs e = par_grows bodies site done bs e
  step_grows (Stmt-F.Rescue at name body) site done bs e = body.1 site done bs e
  step_grows (Stmt-F.Empty at) site done bs e = grows_not site done bs e
  step_grows (Stmt-F.Declare at base variables) site done bs e = grows_not site done bs e
  step_grows (Stmt-F.Value at v) site done bs e = grows_not site done bs e
  step_grows (Stmt-F.Case at v) site done bs e = grows_not site done bs e
  step_grows (Stmt-F.Default at) site done bs e = grows_not site done bs e
  step_grows (Stmt-F.Raise at name) site done bs e = grows_not site done bs e
  step_grows (Stmt-F.Return at v) site done bs e = grows_not site done bs e
  step_grows (Stmt-F.Become at v) site done bs e = grows_not site done bs e
  step_grows (Stmt-F.Break at count) site done bs e = grows_not site done bs e
  step_grows (Stmt-F.Continue at count) site done bs e = grows_not site done bs e
  step_grows (Stmt-F.Goto at name) site done bs e = grows_not site done bs e
  step_grows (Stmt-F.Alloc at es) site done bs e = grows_not site done bs e
  step_grows (Stmt-F.Unalloc at es) site done bs e = grows_not site done bs e
  step_grows (Stmt-F.Check at v text) site done bs e = grows_not site done bs e
  step_grows (Stmt-F.Proc at calls) site done bs e = grows_not site done bs e
  step_grows (Stmt-F.Task at calls) site done bs e = grows_not site done bs e

  roll_grows : (y : Stmt-F Checked) → Holds (roll-Stmt (tree_of y))
  unfolding branches own_branches
  roll_grows y site done bs e =
      subst (λ us. Grows site done us bs) (sym (para-roll-Stmt (List Stmt) (branches_with own_par) (tree_of y)))
      (step_grows y site done bs (sym (ap (λ (f : Way). f site done) (para-roll-Stmt Way (stmt_step env names w) (tree_of y))) ∙ e))

  all_grow : (s : Stmt) → Holds s
  all_grow = ind-Stmt Holds (λ x y is. subst (λ z. Holds (roll-Stmt z)) is (roll_grows y))

  -- what is typed of the branches in a body
  pub branches_typed : (s : Stmt) (site : Site) (bs : List NumberedBranch) → branches env names w s site [] ≡ Good bs → Typed site (own_branches s) bs
  branches_typed s site bs e = let g = all_grow s site [] bs e in subst (Typed site (own_branches s)) (sym g.is) g.typed

  -- ---- each branch

  pub record IsTyped (site : Site) (bs : List NumberedBranch) (u : Stmt) : Type 0 where
    pub typed : NumberedBranch
    pub among : Contains bs typed
    pub is : typed_branch env names w site u ≡ Good typed

  wider : {site : Site} (b : NumberedBranch) (inner rest : List NumberedBranch) (u : Stmt) → IsTyped site rest u → IsTyped site (b ∷ (inner ++ rest)) u
  wider b inner rest u t = record { typed = t.typed; among = Contains-append_right (b ∷ inner) rest t.typed t.among; is = t.is }

  pub each_typed : {site : Site} {us : List Stmt} {bs : List NumberedBranch} → Typed site us bs → All (IsTyped site bs) us
  each_typed (none site) = All-nil (IsTyped site [])
  each_typed (more site u b inner us rest e i r) =
      All-cons (IsTyped site (b ∷ (inner ++ rest))) u us
      (record { typed = b; among = Contains-append_left (b ∷ []) (inner ++ rest) b (All-head (Contains (b ∷ [])) b [] (All-contains_itself (b ∷ []))); is = e })
      (All-weaker (IsTyped site rest) (IsTyped site (b ∷ (inner ++ rest))) (λ v t. wider b inner rest v t) us (each_typed r))

  -- a branch has the number of its place
  pub branch_number : (site : Site) (u : Stmt) (b : NumberedBranch) → typed_branch env names w site u ≡ Good b → branch_at w (place u) ≡ Good b.number
  unfolding typed_branch opened_branch
  branch_number site u b e =
      let a = and_then_good (opened_branch env names w site u) (λ p. and_then (statement w env (inner_site env names site u p.0).here u) (λ body. Good (numbered_branch p body))) b e in
      let c = after_pair (branch_at w (place u)) (framed env names site u) (λ p. Good (p.0, branch_outline site u p.1)) a.0 a.1 in
      let t = and_then_good (statement w env (inner_site env names site u a.0.0).here u) (λ body. Good (numbered_branch a.0 body)) b a.2 in
      c.2 ∙ ap (λ n. Good n) (ap (λ (p : ℕ × _). p.0) (good_is c.4) ∙ ap (λ (x : NumberedBranch). x.number) (good_is t.2))

  -- their places, each before those in it
  abbrev pub IsNumbered : Place → NumberedBranch → Type 0
  IsNumbered at b = branch_at w at ≡ Good b.number

  pub places_along : {site : Site} {us : List Stmt} {bs : List NumberedBranch} → Typed site us bs → Along IsNumbered (flat_map in_par us) bs
  places_along (none site) = tt
  places_along (more site u b inner us rest e i r) = (
    subst (λ at. branch_at w at ≡ Good b.number) (sym (same_place_of u)) (branch_number site u b e),
    along_append IsNumbered (branch_places u) (flat_map in_par us) inner rest
        (subst (λ ats. Along IsNumbered ats inner) (sym (places_are u)) (places_along i)) (places_along r),
  )
