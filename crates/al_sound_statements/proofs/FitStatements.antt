-- Statements are well typed where the types are sound that are written in them, their names reach what they stand for, and their jumps and pars lead to what
-- is there.
use Rattle.std.proofs.Common.{◌≡◌, ℕ, ◌+◌, ◌<◌, Bool, true, false, List, [], ◌∷◌, ◌++◌, map, length, Option, Some, None, refl, sym, ap, ap₂, ◌∙◌, subst}
use Rattle.std.specs.Prelude.{All, Contains, find, if◌then◌else◌, option_map}
use Rattle.std.specs.List.{flat_map}
use Rattle.std.proofs.lemmas.List.Elements.{All-head, All-tail, Contains-append_right}
use Rattle.al_base.specs.declared.place.Place.{Place}
use Rattle.al_rules.specs.Outcome.{same_place}
use Rattle.al_scope.specs.Firsts.{declaration_at}
use Rattle.al_tree.specs.declared.type_tree.TypeTree.{TypeTree}
use Rattle.al_tree.specs.declared.expression.Expr.{Expr}
use Rattle.al_tree.specs.declared.statement.Variable.{Variable}
use Rattle.al_tree.specs.declared.statement.Stmt.{Stmt, fold-roll-Stmt, map-Stmt, para-roll-Stmt, out-Stmt, roll-Stmt}
use Rattle.al_tree.specs.declared.statement.Stmt.TheViews.{out-roll-Stmt, roll-out-Stmt}
use Rattle.al_tree.specs.declared.statement.Stmt.TheFolds.{ind-Stmt}
use Rattle.al_tree.specs.declared.statement.Stmt.TheOpen.{Stmt-F}
use Rattle.al_tree_walks.specs.Expressions.{addressed_places, name_places}
use Rattle.al_tree_walks.specs.Statements.{Standing, Way, all_of, each_standing, expressions_with, inner_step, one_if, own_expressions, standing, standing_step, value_of}
use Rattle.al_typed.specs.Typed.{type_of}
use Rattle.al_typed.specs.WellTyped.{IsReturned, Scope, is_sound, rows, strings_of}
use Rattle.al_environment.specs.declared.environment.Environment.{Environment}
use Rattle.al_environment.specs.declared.environment.Here.{Here}
use Rattle.al_environment.specs.declared.numbered.Numbered.{Numbered}
use Rattle.al_environment.specs.Firsts.{number_at}
use Rattle.al_branches.specs.Statements.{Part as BranchPart, at_step as branch_at_step, part as branch_part, place as branch_place, step as branch_step}
use Rattle.al_type_expr.specs.Nodes.{found}
use Rattle.al_type_stmt.specs.declared.within.Within.{Within}
use Rattle.al_type_stmt.specs.declared.within.Choice.TheVariants as choice
use Rattle.al_type_stmt.specs.Iterators.{iterators, with_iterators}
use Rattle.al_type_stmt.specs.Statements.{Part, at_step, branch_at, of_each, part, part_step, places}
use Rattle.al_sound_operators.specs.Typed.{IfGood}
use Rattle.al_sound_nodes.specs.Nodes.{Tells}
use Rattle.al_sound_expressions.specs.Expressions.{Every, IsSoundWritten}
use Rattle.al_sound_statements.specs.Statements.{EachInside, GoesOn, IfThere, IsFitAt, IsFitExpr, IsFitValue, IsPart, with_count}
use Rattle.al_sound_statements.specs.Bodies.{all_types, each_types, expr_types, optional_types, types_in, types_step, variable_types}
use Rattle.al_sound_statements.specs.Named.{BodiesAreNamed, IsReachedAt, IsSharedAt, Leads}
use Rattle.al_sound_operators.proofs.TypeForms.{some_is}
use Rattle.al_sound_operators.proofs.Outcomes.{where_good}
use Rattle.al_sound_statements.proofs.StatementLists.{every_also, every_split}
use Rattle.al_sound_statements.proofs.Known.{Laws, reached_with}
use Rattle.al_sound_statements.proofs.IteratorNumbers.{numbers_are_below}
use Rattle.al_sound_statements.proofs.StatementParts.{way_is}
use Rattle.al_sound_statements.proofs.WrittenTypes.{written_same}
use Rattle.al_sound_statements.proofs.FitExpressions.{expression_fits, first_of}

-- ---- lists

first_holds : (P : ℕ → Type 0) (x : Numbered) (list : List Numbered) (at : Place) (n : ℕ) → P x.number → (number_at list at ≡ Some n → P n) → (same : Bool)
    → option_map (λ (y : Numbered). y.number) (if same then Some x else find (λ (y : Numbered). same_place y.at at) list) ≡ Some n → P n
unfolding number_at
first_holds P x list at n h k true q = subst P (some_is q) h
first_holds P x list at n h k false q = k q

numbers_hold : (P : ℕ → Type 0) (list : List Numbered) (at : Place) (n : ℕ) → All (λ (x : Numbered). P x.number) list → number_at list at ≡ Some n → P n
unfolding number_at
numbers_hold P [] at n h q = absurd (cc)
numbers_hold P (x ∷ list) at n h q =
    first_holds P x list at n (All-head (λ (y : Numbered). P y.number) x list h) (numbers_hold P list at n (All-tail (λ (y : Numbered). P y.number) x list h)) (same_place x.at at) q

no_number : (list : List Numbered) → list ≡ [] → (P : ℕ → Type 0) (at : Place) (n : ℕ) → number_at list at ≡ Some n → P n
unfolding number_at
no_number [] e P at n q = absurd (cc)
no_number (x ∷ list) e P at n q = absurd (cc)

pub every_of : {A : Type 0} (P : A → Type 0) (xs : List A) → ((x : A) → Contains xs x → P x) → Every P xs
every_of P [] h = tt
every_of P (x ∷ xs) h = (h x (first_of x xs), every_of P xs (λ a c. h a (Contains-append_right (x ∷ []) xs a c)))

-- ---- statements

module _ (law : Laws) (s : Scope) (number : ℕ) (w : Within) (env : Environment) (here : Here) where
  abbrev Sound : TypeTree → Type 0
  Sound = IsSoundWritten s env here

  -- the names in an expression reach what they stand for
  abbrev Names : Expr → Type 0
  Names e = Every (IsReachedAt s env here) (name_places e) × Every (IsSharedAt s env here) (addressed_places e)

  abbrev Jumps : Standing → Type 0
  Jumps x = Leads s number w x.breaks x.loops (out-Stmt x.tree)

  abbrev Fit : Expr → Type 0
  Fit = IsFitExpr s env here

  -- ---- places of statements

  at_same : (z : Stmt-F Stmt) → branch_at_step (map-Stmt Stmt BranchPart branch_part z) ≡ at_step (map-Stmt Stmt Part (part w env here) z)
  at_same (Stmt-F.Empty at) = refl
  at_same (Stmt-F.Block at body) = refl
  at_same (Stmt-F.Declare at base variables) = refl
  at_same (Stmt-F.Value at e) = refl
  at_same (Stmt-F.Label at name body) = refl
  at_same (Stmt-F.If at e met other) = refl
  at_same (Stmt-F.While at e body) = refl
  at_same (Stmt-F.Do at body e) = refl
  at_same (Stmt-F.For at start e next body) = refl
  at_same (Stmt-F.Switch at e body) = refl
  at_same (Stmt-F.Alt at body) = refl
  at_same (Stmt-F.Case at e) = refl
  at_same (Stmt-F.Default at) = refl
  at_same (Stmt-F.Par at branches) = refl
  at_same (Stmt-F.Rescue at name body) = refl
  at_same (Stmt-F.Raise at name) = refl
  at_same (Stmt-F.Return at e) = refl
  at_same (Stmt-F.Become at e) = refl
  at_same (Stmt-F.Break at count) = refl
  at_same (Stmt-F.Continue at count) = refl
  at_same (Stmt-F.Goto at name) = refl
  at_same (Stmt-F.Alloc at es) = refl
  at_same (Stmt-F.Unalloc at es) = refl
  at_same (Stmt-F.Check at e text) = refl
  at_same (Stmt-F.Proc at es) = refl
  at_same (Stmt-F.Task at es) = refl

  place_rolled : (z : Stmt-F Stmt) → branch_place (roll-Stmt z) ≡ (part w env here (roll-Stmt z)).at
  unfolding branch_part part
  place_rolled z =
      ap (λ (p : BranchPart). p.at) (fold-roll-Stmt BranchPart branch_step z) ∙ at_same z ∙ sym (ap (λ (p : Part). p.at) (fold-roll-Stmt Part (part_step w env here) z))

  place_same : (x : Stmt) → branch_place x ≡ (part w env here x).at
  place_same x = subst (λ (y : Stmt). branch_place y ≡ (part w env here y).at) (roll-out-Stmt x) (place_rolled (out-Stmt x))

  abbrev again : Stmt → Stmt × Way
  again x = (x, standing x)

  places_same : (xs : List Stmt) → places (map (part w env here) xs) ≡ map branch_place (map (λ (p : Stmt × Way). p.0) (map again xs))
  places_same [] = refl
  places_same (x ∷ xs) = ap₂ (λ (at : Place) (rest : List Place). at ∷ rest) (sym (place_same x)) (places_same xs)

  module _ (tells : Tells s env here) (texts : All (λ (n : Numbered). n.number < strings_of s.names) here.texts) (no_iterators : here.iterators ≡ []) where
    expr_fits : (e : Expr) → Every Sound (expr_types e) → Names e → Fit e
    expr_fits e h k = expression_fits s env here (record {
      texts = λ at n q. numbers_hold (λ n. n < strings_of s.names) here.texts at n texts q;
      iterators = λ at n q. no_number here.iterators no_iterators (λ n. n < s.iterators) at n q;
    }) e (h, k)

    value_fits : (e : Expr) → Every Sound (expr_types e) → Names e → IsFitValue s env here e
    value_fits e h k =
        let ss = iterators env here e in
        let inner = with_iterators here ss in
        let count = length ss in
        let many = with_count s count in
        record {
          outside = expr_fits e h k;
          inside = expression_fits many env inner (record {
            texts = λ at n q. numbers_hold (λ n. n < strings_of s.names) here.texts at n texts q;
            iterators = numbers_are_below env here e;
          }) e (
            every_also Sound (IsSoundWritten many env inner) (λ t k u q. k u (written_same env here inner refl t ∙ q)) (expr_types e) h,
            (
              every_also (IsReachedAt s env here) (IsReachedAt many env inner) (λ at r. reached_with s count here inner.iterators (declaration_at env.scopes.names at) r) (name_places e) k.0,
              every_also (IsSharedAt s env here) (IsSharedAt many env inner) (λ at r. r) (addressed_places e) k.1,
            ),
          );
        }

    optional_fits : (e : Option Expr) → Every Sound (optional_types e) → Every Names (one_if e) → IfThere Fit e
    optional_fits None h k = tt
    optional_fits (Some e) h k = expr_fits e h k.0

    each_fits : (es : List Expr) → Every Sound (each_types es) → Every Names es → Every Fit es
    each_fits [] h k = tt
    each_fits (e ∷ es) h k = let b = every_split Sound (expr_types e) (each_types es) h in (expr_fits e b.0 k.0, each_fits es b.1 k.1)

    variables_fit : (vs : List Variable) → Every Sound (flat_map variable_types vs) → Every Names (flat_map value_of vs) → Every (λ (v : Variable). IfThere Fit v.value) vs
    variables_fit [] h k = tt
    variables_fit (v ∷ vs) h k =
        let b = every_split Sound (variable_types v) (flat_map variable_types vs) h in
        let c = every_split Names (value_of v) (flat_map value_of vs) k in
        (optional_fits v.value b.0 c.0, variables_fit vs b.1 c.1)

    module _ (goes : (e : Expr) → IfGood (found env here e) (GoesOn s w)) where
      abbrev types_of : Stmt-F Stmt → List TypeTree
      types_of z = types_step (map-Stmt Stmt (List TypeTree) types_in z)

      -- no branch of a par is typed here
      abbrev own_step : Stmt-F (List Expr) → List Expr
      own_step = expressions_with (λ bodies. [])

      abbrev own_of : Stmt-F Stmt → List Expr
      own_of z = own_step (map-Stmt Stmt (List Expr) own_expressions z)

      abbrev with_ways : Stmt-F Stmt → Stmt-F (Stmt × Way)
      with_ways z = map-Stmt Stmt (Stmt × Way) again z

      abbrev without : Stmt-F (Stmt × Way) → Stmt-F Stmt
      without y = map-Stmt (Stmt × Way) Stmt (λ p. p.0) y

      abbrev parts_of : Stmt-F Stmt → Stmt-F Part
      parts_of z = map-Stmt Stmt Part (part w env here) z

      statement_fits : (b l : ℕ) (z : Stmt-F Stmt) → Every Sound (types_of z) → Every Names (own_of z) → Leads s number w b l (without (with_ways z))
          → IsFitAt s number w env here b l (parts_of z)
      statement_fits b l (Stmt-F.Empty at) h k j = tt
      statement_fits b l (Stmt-F.Block at body) h k j = tt
      statement_fits b l (Stmt-F.Declare at base variables) h k j = variables_fit variables h k
      statement_fits b l (Stmt-F.Value at e) h k j = value_fits e h k.0
      statement_fits b l (Stmt-F.Label at name body) h k j = tt
      statement_fits b l (Stmt-F.If at e met other) h k j = expr_fits e (every_split Sound (expr_types e) _ h).0 k.0
      statement_fits b l (Stmt-F.While at e body) h k j = expr_fits e (every_split Sound (expr_types e) (types_in body) h).0 k.0
      statement_fits b l (Stmt-F.Do at body e) h k j = expr_fits e (every_split Sound (types_in body) (expr_types e) h).1 (every_split Names (own_expressions body) (e ∷ []) k).1.0
      statement_fits b l (Stmt-F.For at start e next body) h k j =
          let p = every_split Sound (optional_types start) (optional_types e ++ (optional_types next ++ types_in body)) h in
          let q = every_split Sound (optional_types e) (optional_types next ++ types_in body) p.1 in
          let r = every_split Sound (optional_types next) (types_in body) q.1 in
          let u = every_split Names (one_if start) (one_if e ++ (one_if next ++ own_expressions body)) k in
          let v = every_split Names (one_if e) (one_if next ++ own_expressions body) u.1 in
          let x = every_split Names (one_if next) (own_expressions body) v.1 in
          (optional_fits start p.0 u.0, (optional_fits e q.0 v.0, optional_fits next r.0 x.0))
      statement_fits b l (Stmt-F.Switch at e body) h k j = expr_fits e (every_split Sound (expr_types e) (all_types (map types_in body)) h).0 k.0
      statement_fits b l (Stmt-F.Alt at body) h k j = tt
      statement_fits b l (Stmt-F.Case at e) h k j = expr_fits e h k.0
      statement_fits b l (Stmt-F.Default at) h k j = tt
      statement_fits b l (Stmt-F.Par at branches) h k j = λ ns q. j ns (sym (ap (of_each (branch_at w)) (places_same branches)) ∙ q)
      statement_fits b l (Stmt-F.Rescue at name body) h k j = tt
      statement_fits b l (Stmt-F.Raise at name) h k j = j
      statement_fits b l (Stmt-F.Return at e) h k j = optional_fits e h k
      statement_fits b l (Stmt-F.Become at e) h k j = (expr_fits e h k.0, goes e)
      statement_fits b l (Stmt-F.Break at count) h k j = j
      statement_fits b l (Stmt-F.Continue at count) h k j = j
      statement_fits b l (Stmt-F.Goto at name) h k j = j
      statement_fits b l (Stmt-F.Alloc at es) h k j = each_fits es h k
      statement_fits b l (Stmt-F.Unalloc at es) h k j = each_fits es h k
      statement_fits b l (Stmt-F.Check at e text) h k j = expr_fits e h k.0
      statement_fits b l (Stmt-F.Proc at es) h k j = each_fits es h k
      statement_fits b l (Stmt-F.Task at es) h k j = each_fits es h k

      -- ---- trees

      module _ (is : IsReturned s.names w.returns) (sound : is_sound (rows s) w.returns ≡ true) where
        abbrev Is : ℕ → ℕ → Part → Type 0
        Is = IsPart s number

        abbrev Holds : Stmt → Type 0
        Holds x = Every Sound (types_in x) → Every Names (own_expressions x) → (b l : ℕ) → Every Jumps (standing x b l) → Is b l (part w env here x)

        abbrev Checked : Type 0
        Checked = (x : Stmt) × Holds x

        abbrev trees_of : List Checked → List Stmt
        trees_of ys = map (λ y. y.0) ys

        abbrev tree_of : Stmt-F Checked → Stmt-F Stmt
        tree_of y = map-Stmt Checked Stmt (λ c. c.0) y

        every_inside : (b l : ℕ) (ys : List Checked) → Every Sound (all_types (map types_in (trees_of ys))) → Every Names (all_of (map own_expressions (trees_of ys)))
            → Every Jumps (each_standing (map again (trees_of ys)) b l) → Every (Is b l) (map (part w env here) (trees_of ys))
        every_inside b l [] h k j = tt
        every_inside b l (y ∷ ys) h k j =
            let p = every_split Sound (types_in y.0) (all_types (map types_in (trees_of ys))) h in
            let q = every_split Names (own_expressions y.0) (all_of (map own_expressions (trees_of ys))) k in
            let r = every_split Jumps (standing y.0 b l) (each_standing (map again (trees_of ys)) b l) j in
            (y.1 p.0 q.0 b l r.0, every_inside b l ys p.1 q.1 r.1)

        each_inside : (b l : ℕ) (y : Stmt-F Checked) → Every Sound (types_of (tree_of y)) → Every Names (own_of (tree_of y)) → Every Jumps (inner_step (with_ways (tree_of y)) b l)
            → EachInside Is b l (parts_of (tree_of y))
        each_inside b l (Stmt-F.Empty at) h k j = tt
        each_inside b l (Stmt-F.Block at body) h k j = every_inside b l body h k j
        each_inside b l (Stmt-F.Declare at base variables) h k j = tt
        each_inside b l (Stmt-F.Value at e) h k j = tt
        each_inside b l (Stmt-F.Label at name body) h k j = body.1 h k b l j
        each_inside b l (Stmt-F.If at e met None) h k j =
            let p = every_split Sound (expr_types e) (types_in met.0 ++ []) h in
            (met.1 (every_split Sound (types_in met.0) [] p.1).0 (every_split Names (own_expressions met.0) [] k.1).0 b l (every_split Jumps (standing met.0 b l) [] j).0, tt)
        each_inside b l (Stmt-F.If at e met (Some other)) h k j =
            let p = every_split Sound (expr_types e) (types_in met.0 ++ types_in other.0) h in
            let q = every_split Sound (types_in met.0) (types_in other.0) p.1 in
            let r = every_split Names (own_expressions met.0) (own_expressions other.0) k.1 in
            let u = every_split Jumps (standing met.0 b l) (standing other.0 b l) j in
            (met.1 q.0 r.0 b l u.0, other.1 q.1 r.1 b l u.1)
        each_inside b l (Stmt-F.While at e body) h k j = body.1 (every_split Sound (expr_types e) (types_in body.0) h).1 k.1 (b + 1) (l + 1) j
        each_inside b l (Stmt-F.Do at body e) h k j =
            body.1 (every_split Sound (types_in body.0) (expr_types e) h).0 (every_split Names (own_expressions body.0) (e ∷ []) k).0 (b + 1) (l + 1) j
        each_inside b l (Stmt-F.For at start e next body) h k j =
            let p = every_split Sound (optional_types start) (optional_types e ++ (optional_types next ++ types_in body.0)) h in
            let q = every_split Sound (optional_types e) (optional_types next ++ types_in body.0) p.1 in
            let u = every_split Names (one_if start) (one_if e ++ (one_if next ++ own_expressions body.0)) k in
            let v = every_split Names (one_if e) (one_if next ++ own_expressions body.0) u.1 in
            body.1 (every_split Sound (optional_types next) (types_in body.0) q.1).1 (every_split Names (one_if next) (own_expressions body.0) v.1).1 (b + 1) (l + 1) j
        each_inside b l (Stmt-F.Switch at e body) h k j =
            every_inside (b + 1) l body (every_split Sound (expr_types e) (all_types (map types_in (trees_of body))) h).1 k.1 j
        each_inside b l (Stmt-F.Alt at body) h k j = every_inside (b + 1) l body h k j
        each_inside b l (Stmt-F.Case at e) h k j = tt
        each_inside b l (Stmt-F.Default at) h k j = tt
        each_inside b l (Stmt-F.Par at branches) h k j = tt
        each_inside b l (Stmt-F.Rescue at name body) h k j = body.1 h k b l j
        each_inside b l (Stmt-F.Raise at name) h k j = tt
        each_inside b l (Stmt-F.Return at e) h k j = tt
        each_inside b l (Stmt-F.Become at e) h k j = tt
        each_inside b l (Stmt-F.Break at count) h k j = tt
        each_inside b l (Stmt-F.Continue at count) h k j = tt
        each_inside b l (Stmt-F.Goto at name) h k j = tt
        each_inside b l (Stmt-F.Alloc at es) h k j = tt
        each_inside b l (Stmt-F.Unalloc at es) h k j = tt
        each_inside b l (Stmt-F.Check at e text) h k j = tt
        each_inside b l (Stmt-F.Proc at es) h k j = tt
        each_inside b l (Stmt-F.Task at es) h k j = tt

        step_is : (b l : ℕ) (z : Stmt-F Part) → EachInside Is b l z → IsFitAt s number w env here b l z → Is b l (part_step w env here z)
        step_is b l z h k c = way_is law s number w env here tells b l c is sound z h k

        by_parts : (y : Stmt-F Checked) → Holds (roll-Stmt (tree_of y))
        unfolding part types_in own_expressions standing
        by_parts y h k b l j =
            let z = tree_of y in
            let types = subst (Every Sound) (fold-roll-Stmt (List TypeTree) types_step z) h in
            let names = subst (Every Names) (fold-roll-Stmt (List Expr) own_step z) k in
            let jumps = subst (λ (way : Way). Every Jumps (way b l)) (para-roll-Stmt Way standing_step z) j in
            let leads = subst (Leads s number w b l) (out-roll-Stmt (without (with_ways z))) jumps.0 in
            subst (Is b l) (sym (fold-roll-Stmt Part (part_step w env here) z)) (step_is b l (parts_of z) (each_inside b l y types names jumps.1) (statement_fits b l z types names leads))

        pub body_is : (x : Stmt) → Holds x
        body_is = ind-Stmt Holds (λ x y is. subst (λ z. Holds (roll-Stmt z)) is (by_parts y))

pub bodies_are_named : Laws → BodiesAreNamed
bodies_are_named law = record {
  body = λ s number w env here tree n.
      let goes : (e : Expr) → IfGood (found env here e) (GoesOn s w) = λ e. where_good (GoesOn s w) (found env here e) (λ f q x k a c d. n.hands_on (type_of x.value) d) in
      let names : (e : Expr) → Contains (own_expressions tree) e → Every (IsReachedAt s env here) (name_places e) × Every (IsSharedAt s env here) (addressed_places e) =
      λ e c. (every_of (IsReachedAt s env here) (name_places e) (n.reached e c), every_of (IsSharedAt s env here) (addressed_places e) (n.shared e c)) in
      body_is law s number w env here n.tells n.texts n.no_iterators goes n.returned n.returns tree
      (every_of (IsSoundWritten s env here) (types_in tree) n.types)
      (every_of (λ (e : Expr). Every (IsReachedAt s env here) (name_places e) × Every (IsSharedAt s env here) (addressed_places e)) (own_expressions tree) names)
      0 0
      (every_of (λ (x : Standing). Leads s number w x.breaks x.loops (out-Stmt x.tree)) (standing tree 0 0) n.leads)
      choice.Neither;
}
