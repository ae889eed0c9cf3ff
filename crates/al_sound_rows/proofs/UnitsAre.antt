-- Each branch that is typed is a unit.
use Rattle.std.proofs.Common.{◌≡◌, ℕ, ◌+◌, ◌≤◌, true, List, [], ◌∷◌, ◌++◌, length, map, Some, refl, sym, ap, ◌∙◌, subst, arith, length-append}
use Rattle.std.specs.Prelude.{All, Contains, nat_le, slice_get}
use Rattle.std.specs.List.{flat_map}
use Rattle.std.proofs.lemmas.Bool.{and_parts, leb-true}
use Rattle.std.proofs.lemmas.List.{length-map}
use Rattle.std.proofs.lemmas.List.Elements.{All-append, All-cons, All-contains, All-contains_itself, All-head, All-map, All-nil, All-tail, All-weaker}
use Rattle.al_base.specs.declared.place.Place.{Place}
use Rattle.al_tree.specs.declared.statement.Stmt.{Stmt}
use Rattle.al_tree.specs.declared.item.Tree.{Tree}
use Rattle.al_tree_walks.specs.Statements.{own_branches, standing}
use Rattle.al_tree_walks.specs.Statements.{branches as all_branches}
use Rattle.al_rules.specs.Outcome.{Good, Bad, Outcome, and_then, both}
use Rattle.al_flow.specs.Rules.{has_branches}
use Rattle.al_shared.specs.Statements.{shared}
use Rattle.al_typed.specs.declared.program.Function.{Function}
use Rattle.al_typed.specs.declared.ty.Ty.TheVariants as ty
use Rattle.al_sound_types.specs.Types.{types_hold}
use Rattle.al_environment.specs.declared.environment.Environment.{Environment}
use Rattle.al_environment.specs.declared.environment.Here.{Here}
use Rattle.al_declare.specs.declared.function.Defined.{Defined}
use Rattle.al_branches.specs.Statements.{place as place_in_text}
use Rattle.al_body_parts.specs.Statements.{parts}
use Rattle.al_type_expr.specs.Lists.{each}
use Rattle.al_type_stmt.specs.declared.within.Within.{Within}
use Rattle.al_type_stmt.specs.Statements.{branch_at, of_each, statement}
use Rattle.al_type_function.specs.declared.branch.NumberedBranch.{NumberedBranch}
use Rattle.al_type_function.specs.Locals.{declared_local, frame_of, locals, locals_faults, rule_18_locals, types_faults}
use Rattle.al_type_function.specs.Branches.{branch_frame, branch_outline, frame_faults, framed, inner_site, numbered_branch, opened_branch, place, round_of, typed_branch}
use Rattle.al_type_function.specs.Functions.{in_branches}
use Rattle.al_sound_rows.specs.Unnamed.{Frame, Outline, Site}
use Rattle.al_sound_rows.specs.Units.{HasBranches, IsBranchRow, IsTypedFrom, IsUnit, of_branch}
use Rattle.al_sound_rows.proofs.Outcomes.{after_pair, and_then_good, asked_none, good_is, judged_good, none_left}
use Rattle.al_sound_rows.proofs.Lists.{Along, along_all, along_length, left_all, right_all}
use Rattle.al_sound_rows.proofs.Trees.{all_are, same_place_of, with_inner}
use Rattle.al_sound_rows.proofs.Pars.{AllPars, OfPars, pars_inside}
use Rattle.al_sound_rows.proofs.Flows.{AreFew}
use Rattle.al_sound_rows.proofs.TypedAre.{IsTyped, Typed, branch_number, each_typed, more, none}
use Rattle.al_sound_rows.proofs.NumbersAre.{Increasing, IsBehind, left_increases, right_increases}

-- ---- a branch

-- where its statements stand there are as many functions round it as at hand
abbrev pub IsLevel : Site → Type 0
IsLevel site = length site.around ≡ length site.here.around + 1

-- a branch as a function of its own
record IsOpen (env : Environment) (names : List (List ℕ)) (w : Within) (site : Site) (u : Stmt) (b : NumberedBranch) : Type 0 where
  typed : IsTypedFrom env names w site.here (inner_site env names site u b.number).here (map declared_local (parts env site.here u).locals) u b.function
  parameters : b.function.parameters ≡ 0
  around : b.function.around ≡ site.around

module _ (env : Environment) (names : List (List ℕ)) (w : Within) where
  open_of : (site : Site) (u : Stmt) (b : NumberedBranch) → IsLevel site → site.here.iterators ≡ [] → w.returns ≡ ty.Void → typed_branch env names w site u ≡ Good b → IsOpen env names w site u b
  unfolding typed_branch opened_branch framed branch_frame frame_of
  open_of site u b level none_there void e =
      let a = and_then_good (opened_branch env names w site u) (λ p. and_then (statement w env (inner_site env names site u p.0).here u) (λ body. Good (numbered_branch p body))) b e in
      let c = after_pair (branch_at w (place u)) (framed env names site u) (λ p. Good (p.0, branch_outline site u p.1)) a.0 a.1 in
      let t = and_then_good (statement w env (inner_site env names site u a.0.0).here u) (λ body. Good (numbered_branch a.0 body)) b a.2 in
      let p = parts env site.here u in
      let f : Frame = branch_frame env names site u in
      let rows = env.aggregates in
      let j = judged_good (frame_faults env u p f) f c.1 c.3 in
      let asked = none_left (locals_faults rows (place u) f.locals) (types_faults rows (place u) f.locals p.types) j.0 in
      let small = asked_none 18 (place u) (rule_18_locals rows f.locals) asked.0 in
      let holds = asked_none 18 (place u) (types_hold rows f.locals p.types) asked.1 in
      let outline : (c.0, branch_outline site u f) ≡ a.0 = ap (λ (g : Frame). (c.0, branch_outline site u g)) j.1 ∙ good_is c.4 in
      let made : numbered_branch (c.0, branch_outline site u f) t.0 ≡ b = ap (λ (q : ℕ × Outline). numbered_branch q t.0) outline ∙ good_is t.2 in
      let ds = map declared_local p.locals in
      let longer : length (site.here.around ++ round_of site.here ∷ []) ≡ length site.around = length-append site.here.around (round_of site.here ∷ []) ∙ sym level in
      subst (IsOpen env names w site u) made (record {
        typed = record {
          body = t.1;
          returns = sym void;
          locals = ap (λ n. locals names (shared env.scopes.names n (length ds) u) ds) (sym longer);
          variables = refl;
          labels = refl;
          own = refl;
          iterators = none_there;
          small = small;
          sound = holds;
        };
        parameters = refl;
        around = refl;
      })

-- ---- the numbers of the branches of a par

both_good : {A B C : Type 0} (x : Outcome A) (y : Outcome B) (f : A → B → C) (c : C) → both x y (λ a b. Good (f a b)) ≡ Good c → (a : A) × (b : B) × (x ≡ Good a) × (y ≡ Good b) × (f a b ≡ c)
both_good (Good a) (Good b) f c e = (a, b, refl, refl, good_is e)
both_good (Good a) (Bad gs) f c e = absurd (cc)
both_good (Bad fs) (Good b) f c e = absurd (cc)
both_good (Bad fs) (Bad gs) f c e = absurd (cc)

each_good : {A B : Type 0} (f : A → Outcome B) (xs : List A) (ys : List B) → of_each f xs ≡ Good ys → Along (λ x y. f x ≡ Good y) xs ys
unfolding each
each_good f [] ys e = subst (Along (λ x y. f x ≡ Good y) []) (good_is e) tt
each_good f (x ∷ xs) ys e =
    let k = both_good (f x) (of_each f xs) (λ y zs. y ∷ zs) ys e in
    subst (Along (λ x y. f x ≡ Good y) (x ∷ xs)) k.4 (k.2, each_good f xs k.1 k.3)

-- a branch has the number that it has in the unit round it
same_number : (v w : Within) (at : Place) → w ≡ in_branches v → branch_at w at ≡ branch_at v at
unfolding branch_at
same_number v w at e = ap (λ (x : Within). branch_at x at) e

same_good : {A : Type 0} {a b : A} (o : Outcome A) → o ≡ Good a → o ≡ Good b → a ≡ b
same_good o e f = good_is (sym e ∙ f)

few_are : (n : ℕ) → has_branches n ≡ true → (1 ≤ n) × (n ≤ 64)
unfolding has_branches
few_are n h = let k = and_parts (nat_le 1 n) (nat_le n 64) h in (leb-true 1 n k.0, leb-true n 64 k.1)

same_places : (us : List Stmt) → map place_in_text us ≡ map place us
same_places [] = refl
same_places (u ∷ us) = ap (λ at. at ∷ map place_in_text us) (same_place_of u) ∙ ap (λ ats. place u ∷ ats) (same_places us)

-- ---- units

module _ (env : Environment) (tree : Tree) (ds : List Defined) (strings : ℕ) (rows : List Function) (w : Within) (body : Stmt) where
  abbrev pub IsRow : NumberedBranch → Type 0
  IsRow b = slice_get rows b.number ≡ Some b.function

  -- a statement of the body, each par of which has 1 to 64 branches
  abbrev pub IsInner : Stmt → Type 0
  IsInner u = Contains (body ∷ all_branches body) u × AllPars AreFew u

  -- the unit in which branches stand
  pub record IsRound (site : Site) (number : ℕ) (g : Function) (v : Within) (s : Stmt) : Type 0 where
    pub unit : IsUnit env tree ds strings rows number g v site.here s
    pub around : site.around ≡ g.around ++ number ∷ []
    pub within : w ≡ in_branches v
    pub level : IsLevel site
    pub iterators : site.here.iterators ≡ []

  -- a branch that is a unit
  pub record IsGood (b : NumberedBranch) : Type 0 where
    pub here : Here
    pub statement : Stmt
    pub unit : IsUnit env tree ds strings rows b.number b.function w here statement
    pub branches : HasBranches rows b.number b.function w statement
    pub among : Contains (body ∷ all_branches body) statement

  -- the branch at a place
  abbrev IsPlaced : Site → List NumberedBranch → Place → Type 0
  IsPlaced site bs at = (b : NumberedBranch) × Contains bs b × (branch_at w at ≡ Good b.number) × (b.function.around ≡ site.around)

  placed : (site : Site) (bs : List NumberedBranch) (number : ℕ) (g : Function) (v : Within) (s u : Stmt) → IsRound site number g v s → IsTyped env tree.names w site bs u → IsPlaced site bs (place u)
  placed site bs number g v s u round t = (
    t.typed,
    t.among,
    branch_number env tree.names w site u t.typed t.is,
    (open_of env tree.names w site u t.typed round.level round.iterators (ap (λ (x : Within). x.returns) round.within) t.is).around,
  )

  row_at : (site : Site) (bs : List NumberedBranch) (number : ℕ) (g : Function) (v : Within) (s : Stmt) → IsRound site number g v s → All IsRow bs
      → (at : Place) (n : ℕ) → IsPlaced site bs at → branch_at v at ≡ Good n → IsBranchRow rows number g n
  row_at site bs number g v s round are at n p e =
      let b : NumberedBranch = p.0 in
      let same : b.number ≡ n = same_good (branch_at v at) (sym (same_number v w at round.within) ∙ p.2) e in
      (b.function, subst (λ m. slice_get rows m ≡ Some b.function) same (All-contains IsRow bs b are p.1), p.3 ∙ round.around)

  -- the branches of a unit
  pub has_branches_of : (site : Site) (bs : List NumberedBranch) (number : ℕ) (g : Function) (v : Within) (s : Stmt) → IsRound site number g v s → AllPars AreFew s
      → Typed env tree.names w site (own_branches s) bs → All IsRow bs → HasBranches rows number g v s
  has_branches_of site bs number g v s round few typed are = record {
    pars = λ x c at bodies e ns es.
        let along = each_good (branch_at v) (map place bodies) ns (ap (of_each (branch_at v)) (sym (same_places bodies)) ∙ es) in
        let count = few_are (length bodies) (All-contains (OfPars AreFew) (standing s 0 0) x (few 0 0) c at bodies e) in
        let among = All-contains (OfPars (λ us. All (Contains (own_branches s)) us)) (standing s 0 0) x (pars_inside s 0 0) c at bodies e in
        let each_is = each_typed env tree.names w typed in
        let found : All (λ (u : Stmt). IsPlaced site bs (place u)) bodies =
        All-weaker (Contains (own_branches s)) (λ (u : Stmt). IsPlaced site bs (place u))
        (λ u k. placed site bs number g v s u round (All-contains (IsTyped env tree.names w site bs) (own_branches s) u each_is k)) bodies among in
        let long : length ns ≡ length bodies = sym (along_length (λ at n. branch_at v at ≡ Good n) (map place bodies) ns along) ∙ length-map bodies place in
        let low = count.0 in
        let high = count.1 in (
          omega arith,
          omega arith,
          along_all (λ at n. branch_at v at ≡ Good n) (IsPlaced site bs) (IsBranchRow rows number g) (row_at site bs number g v s round are) (map place bodies) ns along
              (All-map (IsPlaced site bs) place bodies found),
        );
  }

  inner_level : (site : Site) (u : Stmt) (n : ℕ) → IsLevel site → IsLevel (inner_site env tree.names site u n)
  inner_level site u n h =
      let a = length-append site.around (n ∷ []) in
      let b = length-append site.here.around (round_of site.here ∷ []) in
      omega arith

  inner_round : (site : Site) (u : Stmt) (b : NumberedBranch) (number : ℕ) (g : Function) (v : Within) (s : Stmt) → IsRound site number g v s
      → IsUnit env tree ds strings rows b.number b.function w (inner_site env tree.names site u b.number).here u → b.function.around ≡ site.around
      → IsRound (inner_site env tree.names site u b.number) b.number b.function w u
  inner_round site u b number g v s round unit around = record {
    unit = unit;
    around = ap (λ l. l ++ b.number ∷ []) (sym around);
    within = round.within ∙ ap in_branches (sym round.within);
    level = inner_level site u b.number round.level;
    iterators = round.iterators;
  }

  pub units : {site : Site} {us : List Stmt} {bs : List NumberedBranch} → Typed env tree.names w site us bs → (number : ℕ) (g : Function) (v : Within) (s : Stmt) → IsRound site number g v s
      → All (Contains (own_branches s)) us → All IsInner (flat_map with_inner us) → All IsRow bs → All (IsBehind number) bs → Increasing bs → All IsGood bs
  units (none site) number g v s round among inner_are are behind rising = All-nil IsGood
  units (more site u b inner us rest e i r) number g v s round among inner_are are behind rising =
      let there = inner_site env tree.names site u b.number in
      let is_open = open_of env tree.names w site u b round.level round.iterators (ap (λ (x : Within). x.returns) round.within) e in
      let unit : IsUnit env tree ds strings rows b.number b.function w there.here u =
      of_branch number g v site.here s b.number b.function w there.here u round.unit (All-head IsRow b (inner ++ rest) are) (record {
        among = All-head (Contains (own_branches s)) u us among;
        numbered = ap (branch_at v) (same_place_of u) ∙ sym (same_number v w (place u) round.within) ∙ branch_number env tree.names w site u b e;
        behind = All-head (IsBehind number) b (inner ++ rest) behind;
        within = round.within;
        entered = refl;
        typed = is_open.typed;
        parameters = is_open.parameters;
        around = is_open.around ∙ round.around;
      }) in
      let within = inner_round site u b number g v s round unit is_open.around in
      let own = left_all IsInner (u ∷ all_branches u) (flat_map with_inner us) inner_are in
      let itself = All-head IsInner u (all_branches u) own in
      let rows_after = All-tail IsRow b (inner ++ rest) are in
      let rows_inner = left_all IsRow inner rest rows_after in
      let good : IsGood b = record {
        here = there.here;
        statement = u;
        unit = unit;
        branches = has_branches_of there inner b.number b.function w u within itself.1 i rows_inner;
        among = itself.0;
      } in
      let first = units i b.number b.function w u within (All-contains_itself (own_branches u)) (subst (All IsInner) (all_are u) (All-tail IsInner u (all_branches u) own)) rows_inner
      (left_all (IsBehind b.number) inner rest rising.0) (left_increases inner rest rising.1) in
      let others = units r number g v s round (All-tail (Contains (own_branches s)) u us among) (right_all IsInner (u ∷ all_branches u) (flat_map with_inner us) inner_are)
      (right_all IsRow inner rest rows_after) (right_all (IsBehind number) inner rest (All-tail (IsBehind number) b (inner ++ rest) behind)) (right_increases inner rest rising.1) in
      All-cons IsGood b (inner ++ rest) good (All-append IsGood inner rest first others)
