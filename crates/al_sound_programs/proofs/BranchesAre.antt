-- The rows of the branches in a statement.
use Rattle.std.proofs.Common.{◌≡◌, ℕ, true, List, [], ◌∷◌, ◌++◌, map, length, Some, None, refl, sym, ap, ◌∙◌, subst}
use Rattle.std.specs.Prelude.{All}
use Rattle.std.specs.List.{list_all}
use Rattle.std.proofs.lemmas.List.Elements.{All-push}
use Rattle.al_tree.specs.declared.statement.Stmt.{Stmt, map-Stmt, para-roll-Stmt, roll-Stmt}
use Rattle.al_tree.specs.declared.statement.Stmt.TheFolds.{ind-Stmt}
use Rattle.al_tree.specs.declared.statement.Stmt.TheOpen.{Stmt-F}
use Rattle.al_rules.specs.Outcome.{Outcome, Good, Bad, and_then, pair}
use Rattle.al_typed.specs.Sound.{outermost}
use Rattle.al_typed.specs.WellTyped.{IsStatement, is_sound}
use Rattle.al_environment.specs.declared.environment.Environment.{Environment}
use Rattle.al_environment.specs.declared.environment.Here.{Here}
use Rattle.al_environment.specs.declared.environment.Round.{Round}
use Rattle.al_environment.specs.declared.environment.Variable.{Variable}
use Rattle.al_body_parts.specs.Statements.{parts}
use Rattle.al_type_stmt.specs.declared.within.Within.{Within}
use Rattle.al_type_stmt.specs.Statements.{branch_at, statement}
use Rattle.al_sound_programs.specs.Unnamed.{Frame, Outline, Site}
use Rattle.al_type_function.specs.declared.branch.NumberedBranch.{NumberedBranch}
use Rattle.al_type_function.specs.Locals.{declared_local, frame_of, locals_faults, rule_18_locals, types_faults}
use Rattle.al_type_function.specs.Branches.{Way, branch, branch_frame, branch_outline, branches, each, frame_faults, framed, inner_site, inside, numbered_branch, opened_branch, optional, place, round_of, stmt_step, typed_branch, way}
use Rattle.al_shared.specs.Statements.{shared}
use Rattle.al_sound_operators.proofs.Outcomes.{and_then_good, if_good}
use Rattle.al_sound_programs.specs.Functions.{BodiesAreTyped, IsReady, IsSoundRow, among_any}
use Rattle.al_sound_programs.proofs.Frames.{IsStoredLocal, IsStoredVariable, hold_of, judged_good, locals_hold, none_left, small_of, variables_hold, written_hold}

good_is : {A : Type 0} {a b : A} → Good a ≡ Good b → a ≡ b
good_is h = cc

pub after_pair : {A B C : Type 0} (x : Outcome A) (y : Outcome B) (f : A × B → Outcome C) (c : C) → and_then (pair x y) f ≡ Good c
    → (a : A) × (b : B) × (x ≡ Good a) × (y ≡ Good b) × (f (a, b) ≡ Good c)
after_pair (Good a) (Good b) f c e = (a, b, refl, refl, e)
after_pair (Good a) (Bad gs) f c e = absurd (cc)
after_pair (Bad fs) (Good b) f c e = absurd (cc)
after_pair (Bad fs) (Bad gs) f c e = absurd (cc)

-- the locals of a branch are stored and small, and what is written in it is sound
record IsFrame (env : Environment) (here : Here) (s : Stmt) (f : Frame) : Type 0 where
  locals : All (IsStoredLocal env.aggregates) f.locals
  variables : All (IsStoredVariable env.aggregates) f.variables
  small : rule_18_locals env.aggregates f.locals ≡ true
  written : list_all (is_sound env.aggregates) (parts env here s).types ≡ true

variables_of : (env : Environment) (names : List (List ℕ)) (site : Site) (s : Stmt) → All (IsStoredLocal env.aggregates) (branch_frame env names site s).locals
    → All (IsStoredVariable env.aggregates) (branch_frame env names site s).variables
unfolding branch_frame frame_of
variables_of env names site s h =
    let ds = map declared_local (parts env site.here s).locals in
    variables_hold env.aggregates names (shared env.scopes.names (length site.around) (length ds) s) 0 ds h

frame_is : (env : Environment) (names : List (List ℕ)) (site : Site) (s : Stmt) (f : Frame) → framed env names site s ≡ Good f → IsFrame env site.here s f × (branch_frame env names site s ≡ f)
unfolding framed branch_frame
frame_is env names site s f e =
    let b = branch_frame env names site s in
    let p = parts env site.here s in
    let j = judged_good (frame_faults env s p b) b f e in
    let none = none_left (locals_faults env.aggregates (place s) b.locals) (types_faults env.aggregates (place s) b.locals p.types) j.0 in
    let holds = hold_of env.aggregates (place s) b.locals p.types none.1 in
    let locals = locals_hold env.aggregates b.locals p.types holds in
    let is : IsFrame env site.here s b = record {
      locals = locals;
      variables = variables_of env names site s locals;
      small = small_of env.aggregates (place s) b.locals none.0;
      written = written_hold env.aggregates b.locals p.types holds;
    } in
    (subst (IsFrame env site.here s) j.1 is, j.1)

module _ (env : Environment) (strings functions : ℕ) (bodies : BodiesAreTyped env strings functions) (names : List (List ℕ)) (w : Within)
    (returns : is_sound env.aggregates w.returns ≡ true) where
  abbrev Ready : Here → Type 0
  Ready here = IsReady env.aggregates strings here

  abbrev IsRow : NumberedBranch → Type 0
  IsRow b = IsSoundRow env.aggregates strings functions b.function

  abbrev Stored : Round → Type 0
  Stored r = All (IsStoredVariable env.aggregates) r.locals

  inside_ready : (here : Here) (vs : List Variable) → Ready here → All (IsStoredVariable env.aggregates) vs → Ready (inside here vs)
  inside_ready here vs h stored = record {
    locals = stored;
    around = All-push Stored here.around (round_of here) h.around h.locals;
    texts = h.texts;
    iterators = h.iterators;
  }

  inner_ready : (site : Site) (s : Stmt) (n : ℕ) → Ready site.here → All (IsStoredVariable env.aggregates) (branch_frame env names site s).variables → Ready (inner_site env names site s n).here
  inner_ready site s n h stored = inside_ready site.here (branch_frame env names site s).variables h stored

  inner_own : (site : Site) (s : Stmt) (n : ℕ) → site.here.own ≡ (inner_site env names site s n).here.own
  inner_own site s n = refl

  -- a branch, and that what is at hand in it is ready
  branch_is : (site : Site) (s : Stmt) (b : NumberedBranch) → Ready site.here → typed_branch env names w site s ≡ Good b → IsRow b × Ready (inner_site env names site s b.number).here
  unfolding typed_branch opened_branch
  branch_is site s b h e =
      let a = and_then_good (opened_branch env names w site s) (λ p. and_then (statement w env (inner_site env names site s p.0).here s) (λ body. Good (numbered_branch p body))) b e in
      let c = after_pair (branch_at w (place s)) (framed env names site s) (λ p. Good (p.0, branch_outline site s p.1)) a.0 a.1 in
      let n : ℕ = c.0 in
      let f : Frame = c.1 in
      let opened : (n, branch_outline site s f) ≡ a.0 = good_is c.4 in
      let t = and_then_good (statement w env (inner_site env names site s a.0.0).here s) (λ body. Good (numbered_branch a.0 body)) b a.2 in
      let k = frame_is env names site s f c.3 in
      let made : numbered_branch (n, branch_outline site s f) t.0 ≡ b = ap (λ (p : ℕ × Outline). numbered_branch p t.0) opened ∙ good_is t.2 in
      let variables = subst (λ (g : Frame). All (IsStoredVariable env.aggregates) g.variables) (sym k.1) k.0.variables in
      let body : IsStatement (among_any env.aggregates strings functions) outermost t.0 =
      if_good (IsStatement (among_any env.aggregates strings functions) outermost) (statement w env (inner_site env names site s a.0.0).here s) t.0
      (bodies w (inner_site env names site s a.0.0).here site.here s (inner_ready site s a.0.0 h variables) (inner_own site s a.0.0) returns k.0.written) t.1 in
      (subst IsRow made (record { locals = k.0.locals; returns = refl; shared = k.0.small; body = body }), inner_ready site s b.number h variables)

  -- ---- by the kind of a statement

  abbrev Holds : Stmt → Type 0
  Holds s = (site : Site) (done bs : List NumberedBranch) → Ready site.here → All IsRow done → branches env names w s site done ≡ Good bs → All IsRow bs

  abbrev Checked : Type 0
  Checked = (s : Stmt) × Holds s

  abbrev way_of : Stmt → Stmt × Way
  way_of s = (s, branches env names w s)

  abbrev plain : List Checked → List Stmt
  plain ys = map (λ y. y.0) ys

  none_more : (done bs : List NumberedBranch) → All IsRow done → Good done ≡ Good bs → All IsRow bs
  none_more done bs h e = subst (All IsRow) (good_is e) h

  each_are : (ys : List Checked) (site : Site) (done bs : List NumberedBranch) → Ready site.here → All IsRow done → each way (map way_of (plain ys)) site done ≡ Good bs → All IsRow bs
  each_are [] site done bs r h e = none_more done bs h e
  each_are (y ∷ ys) site done bs r h e =
      let a = and_then_good (branches env names w y.0 site done) (each way (map way_of (plain ys)) site) bs e in
      each_are ys site a.0 bs r (y.1 site done a.0 r h a.1) a.2

  one_is : (y : Checked) (site : Site) (done bs : List NumberedBranch) → Ready site.here → All IsRow done → branch env names w (way_of y.0) site done ≡ Good bs → All IsRow bs
  unfolding branch
  one_is y site done bs r h e =
      let a = and_then_good (typed_branch env names w site y.0) (λ b. branches env names w y.0 (inner_site env names site y.0 b.number) (done ++ b ∷ [])) bs e in
      let b = branch_is site y.0 a.0 r a.1 in
      y.1 (inner_site env names site y.0 a.0.number) (done ++ a.0 ∷ []) bs b.1 (All-push IsRow done a.0 h b.0) a.2

  par_is : (ys : List Checked) (site : Site) (done bs : List NumberedBranch) → Ready site.here → All IsRow done → each (branch env names w) (map way_of (plain ys)) site done ≡ Good bs → All IsRow bs
  par_is [] site done bs r h e = none_more done bs h e
  par_is (y ∷ ys) site done bs r h e =
      let a = and_then_good (branch env names w (way_of y.0) site done) (each (branch env names w) (map way_of (plain ys)) site) bs e in
      par_is ys site a.0 bs r (one_is y site done a.0 r h a.1) a.2

  abbrev tree_of : Stmt-F Checked → Stmt-F Stmt
  tree_of y = map-Stmt Checked Stmt (λ c. c.0) y

  step_is : (y : Stmt-F Checked) (site : Site) (done bs : List NumberedBranch) → Ready site.here → All IsRow done
      → stmt_step env names w (map-Stmt Stmt (Stmt × Way) way_of (tree_of y)) site done ≡ Good bs → All IsRow bs
  step_is (Stmt-F.Block at body) site done bs r h e = each_are body site done bs r h e
  step_is (Stmt-F.Label at name body) site done bs r h e = body.1 site done bs r h e
  step_is (Stmt-F.If at value met None) site done bs r h e =
      let a = and_then_good (branches env names w met.0 site done) (optional way None site) bs e in
      none_more a.0 bs (met.1 site done a.0 r h a.1) a.2
  step_is (Stmt-F.If at value met (Some other)) site done bs r h e =
      let a = and_then_good (branches env names w met.0 site done) (optional way (Some (way_of other.0)) site) bs e in
      other.1 site a.0 bs r (met.1 site done a.0 r h a.1) a.2
  step_is (Stmt-F.While at value body) site done bs r h e = body.1 site done bs r h e
  step_is (Stmt-F.Do at body value) site done bs r h e = body.1 site done bs r h e
  step_is (Stmt-F.For at start value next body) site done bs r h e = body.1 site done bs r h e
  step_is (Stmt-F.Switch at value body) site done bs r h e = each_are body site done bs r h e
  step_is (Stmt-F.Alt at body) site done bs r h e = each_are body site done bs r h e
  step_is (Stmt-F.Par at bodies) site done bs r h e = par_is bodies site done bs r h e
  step_is (Stmt-F.Rescue at name body) site done bs r h e = body.1 site done bs r h e
  step_is (Stmt-F.Empty at) site done bs r h e = none_more done bs h e
  step_is (Stmt-F.Declare at base variables) site done bs r h e = none_more done bs h e
  step_is (Stmt-F.Value at value) site done bs r h e = none_more done bs h e
  step_is (Stmt-F.Case at value) site done bs r h e = none_more done bs h e
  step_is (Stmt-F.Default at) site done bs r h e = none_more done bs h e
  step_is (Stmt-F.Raise at name) site done bs r h e = none_more done bs h e
  step_is (Stmt-F.Return at value) site done bs r h e = none_more done bs h e
  step_is (Stmt-F.Become at value) site done bs r h e = none_more done bs h e
  step_is (Stmt-F.Break at count) site done bs r h e = none_more done bs h e
  step_is (Stmt-F.Continue at count) site done bs r h e = none_more done bs h e
  step_is (Stmt-F.Goto at name) site done bs r h e = none_more done bs h e
  step_is (Stmt-F.Alloc at values) site done bs r h e = none_more done bs h e
  step_is (Stmt-F.Unalloc at values) site done bs r h e = none_more done bs h e
  step_is (Stmt-F.Check at value text) site done bs r h e = none_more done bs h e
  step_is (Stmt-F.Proc at calls) site done bs r h e = none_more done bs h e
  step_is (Stmt-F.Task at calls) site done bs r h e = none_more done bs h e

  roll_is : (y : Stmt-F Checked) → Holds (roll-Stmt (tree_of y))
  unfolding branches
  roll_is y site done bs r h e = step_is y site done bs r h (sym (ap (λ (f : Way). f site done) (para-roll-Stmt Way (stmt_step env names w) (tree_of y))) ∙ e)

  pub branches_are : (s : Stmt) → Holds s
  branches_are = ind-Stmt Holds (λ x y is. subst (λ z. Holds (roll-Stmt z)) is (roll_is y))
