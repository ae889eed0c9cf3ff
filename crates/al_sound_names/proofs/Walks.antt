-- What stands in the branches of a statement stands in the statement.
use Rattle.std.proofs.Common.{◌≡◌, zero, suc, List, [], ◌∷◌, ◌++◌, map, Some, None, refl, sym, subst, ◌⊎◌, inl, inr, arith}
use Rattle.std.specs.Prelude.{Contains}
use Rattle.std.specs.List.{flat_map}
use Rattle.std.proofs.lemmas.List.Elements.{Contains-append_cases, Contains-append_left, Contains-append_right}
use Rattle.al_tree.specs.declared.expression.Expr.{Expr}
use Rattle.al_tree.specs.declared.statement.Stmt.{Stmt, fold-roll-Stmt, map-Stmt, para-roll-Stmt, roll-Stmt}
use Rattle.al_tree.specs.declared.statement.Stmt.TheFolds.{ind-Stmt}
use Rattle.al_tree.specs.declared.statement.Stmt.TheOpen.{Stmt-F}
use Rattle.al_tree_walks.specs.Statements.{all_of, branches, branches_with, expressions, expressions_with, one_if, own_branches, own_expressions}

-- ---- lists

abbrev pub Within : {A : Type 0} → List A → List A → Type 0
Within xs ys = (x : _) → Contains xs x → Contains ys x

none_in : {A X : Type 0} (x : A) → Contains [] x → X
none_in x c = absurd (omega (arith, c.1))

one_of : {A : Type 0} (x y : A) (xs : List A) → Contains (x ∷ xs) y → (x ≡ y) ⊎ Contains xs y
one_of x y xs (zero, lt, q) = inl q
one_of x y xs (suc k, lt, q) = inr (k, omega (arith, lt), q)

first_in : {A : Type 0} (x : A) (xs : List A) → Contains (x ∷ xs) x
first_in x xs = Contains-append_left (x ∷ []) xs x (0, omega arith, refl)

all_within : {A : Type 0} (xs : List A) → Within xs xs
all_within xs x c = c

none_within : {A : Type 0} (ys : List A) → Within [] ys
none_within ys x c = none_in x c

both_within : {A : Type 0} (os bs xs ys : List A) → Within os xs → Within bs ys → Within (os ++ bs) (xs ++ ys)
both_within os bs xs ys h k x c = on (Contains-append_cases os bs x c)
  where
    on : Contains os x ⊎ Contains bs x → Contains (xs ++ ys) x
    on (inl c) = Contains-append_left xs ys x (h x c)
    on (inr c) = Contains-append_right xs ys x (k x c)

-- ---- what is claimed of a statement

-- What is the function's own is all of it, and a branch of a branch is a branch.
pub record Holds (owns all : List Expr) (nears bs : List Stmt) : Type 0 where
  pub own : Within owns all
  pub near : Within nears bs
  pub deep : (b c : Stmt) → Contains bs b → Contains (branches b) c → Contains bs c

none_holds : Holds [] [] [] []
none_holds = record { own = none_within []; near = none_within []; deep = λ b c m. none_in b m }

expressions_hold : (es : List Expr) → Holds es es [] []
expressions_hold es = record { own = all_within es; near = none_within []; deep = λ b c m. none_in b m }

both_hold : (os bs xs ys : List Expr) (ns ms cs ds : List Stmt) → Holds os xs ns cs → Holds bs ys ms ds → Holds (os ++ bs) (xs ++ ys) (ns ++ ms) (cs ++ ds)
both_hold os bs xs ys ns ms cs ds h k = record {
  own = both_within os bs xs ys h.own k.own;
  near = both_within ns ms cs ds h.near k.near;
  deep = λ b c m n. on b c (Contains-append_cases cs ds b m) n;
}
  where
    on : (b c : Stmt) → Contains cs b ⊎ Contains ds b → Contains (branches b) c → Contains (cs ++ ds) c
    on b c (inl m) n = Contains-append_left cs ds c (h.deep b c m n)
    on b c (inr m) n = Contains-append_right cs ds c (k.deep b c m n)

-- expressions before statements
before_holds : (es os xs : List Expr) (ns cs : List Stmt) → Holds os xs ns cs → Holds (es ++ os) (es ++ xs) ns cs
before_holds es os xs ns cs h = both_hold es os es xs [] ns [] cs (expressions_hold es) h

-- ---- by the kind of a statement

abbrev Good : Stmt → Type 0
Good s = Holds (own_expressions s) (expressions s) (own_branches s) (branches s)

abbrev Checked : Type 0
Checked = (s : Stmt) × Good s

abbrev plain : List Checked → List Stmt
plain ys = map (λ (y : Checked). y.0) ys

abbrev tree_of : Stmt-F Checked → Stmt-F Stmt
tree_of y = map-Stmt Checked Stmt (λ c. c.0) y

abbrev with_near : Stmt → Stmt × List Stmt
with_near s = (s, own_branches s)

abbrev with_all : Stmt → Stmt × List Stmt
with_all s = (s, branches s)

abbrev inside : List (Stmt × List Stmt) → List Stmt
inside ps = flat_map (λ (p : Stmt × List Stmt). p.1) ps

all_hold : (ys : List Checked) → Holds (all_of (map own_expressions (plain ys))) (all_of (map expressions (plain ys))) (inside (map with_near (plain ys))) (inside (map with_all (plain ys)))
all_hold [] = none_holds
all_hold (y ∷ ys) =
    both_hold (own_expressions y.0) (all_of (map own_expressions (plain ys))) (expressions y.0) (all_of (map expressions (plain ys))) (own_branches y.0) (inside (map with_near (plain ys)))
    (branches y.0) (inside (map with_all (plain ys))) y.1 (all_hold ys)

abbrev near_of_par : List (Stmt × List Stmt) → List Stmt
near_of_par bodies = map (λ (p : Stmt × List Stmt). p.0) bodies

abbrev all_of_par : List (Stmt × List Stmt) → List Stmt
all_of_par bodies = flat_map (λ (p : Stmt × List Stmt). p.0 ∷ p.1) bodies

branch_holds : (y : Checked) → Holds [] (expressions y.0) (y.0 ∷ []) (y.0 ∷ branches y.0)
branch_holds y = record {
  own = none_within (expressions y.0);
  near = λ b c. near_in b (one_of y.0 b [] c);
  deep = λ b c m n. deep_in b c (one_of y.0 b (branches y.0) m) n;
}
  where
    near_in : (b : Stmt) → (y.0 ≡ b) ⊎ Contains [] b → Contains (y.0 ∷ branches y.0) b
    near_in b (inl e) = subst (Contains (y.0 ∷ branches y.0)) e (first_in y.0 (branches y.0))
    near_in b (inr c) = none_in b c

    further : (c : Stmt) → Contains (branches y.0) c → Contains (y.0 ∷ branches y.0) c
    further c m = Contains-append_right (y.0 ∷ []) (branches y.0) c m

    deep_in : (b c : Stmt) → (y.0 ≡ b) ⊎ Contains (branches y.0) b → Contains (branches b) c → Contains (y.0 ∷ branches y.0) c
    deep_in b c (inl e) n = further c (subst (λ (s : Stmt). Contains (branches s) c) (sym e) n)
    deep_in b c (inr m) n = further c (y.1.deep b c m n)

par_holds : (ys : List Checked) → Holds [] (all_of (map expressions (plain ys))) (near_of_par (map with_near (plain ys))) (all_of_par (map with_all (plain ys)))
par_holds [] = none_holds
par_holds (y ∷ ys) =
    both_hold [] [] (expressions y.0) (all_of (map expressions (plain ys))) (y.0 ∷ []) (near_of_par (map with_near (plain ys))) (y.0 ∷ branches y.0) (all_of_par (map with_all (plain ys)))
    (branch_holds y) (par_holds ys)

step_holds : (y : Stmt-F Checked) → Holds (expressions_with (λ bodies. []) (map-Stmt Stmt (List Expr) own_expressions (tree_of y))) (expressions_with all_of (map-Stmt Stmt (List Expr) expressions (tree_of y)))
    (branches_with near_of_par (map-Stmt Stmt (Stmt × List Stmt) with_near (tree_of y))) (branches_with all_of_par (map-Stmt Stmt (Stmt × List Stmt) with_all (tree_of y)))
step_holds (Stmt-F.Empty at) = none_holds
step_holds (Stmt-F.Block at body) = all_hold body
step_holds (Stmt-F.Declare at base variables) = expressions_hold _
step_holds (Stmt-F.Value at e) = expressions_hold (e ∷ [])
step_holds (Stmt-F.Label at name body) = body.1
step_holds (Stmt-F.If at e met None) =
    before_holds (e ∷ []) (own_expressions met.0 ++ []) (expressions met.0 ++ []) (own_branches met.0 ++ []) (branches met.0 ++ [])
    (both_hold (own_expressions met.0) [] (expressions met.0) [] (own_branches met.0) [] (branches met.0) [] met.1 none_holds)
step_holds (Stmt-F.If at e met (Some other)) =
    before_holds (e ∷ []) (own_expressions met.0 ++ own_expressions other.0) (expressions met.0 ++ expressions other.0) (own_branches met.0 ++ own_branches other.0) (branches met.0 ++ branches other.0)
    (both_hold (own_expressions met.0) (own_expressions other.0) (expressions met.0) (expressions other.0) (own_branches met.0) (own_branches other.0) (branches met.0) (branches other.0) met.1 other.1)
step_holds (Stmt-F.While at e body) = before_holds (e ∷ []) (own_expressions body.0) (expressions body.0) (own_branches body.0) (branches body.0) body.1
step_holds (Stmt-F.Do at body e) = record {
  own = both_within (own_expressions body.0) (e ∷ []) (expressions body.0) (e ∷ []) body.1.own (all_within (e ∷ []));
  near = body.1.near;
  deep = body.1.deep;
}
step_holds (Stmt-F.For at start e next body) =
    before_holds (one_if start) (one_if e ++ (one_if next ++ own_expressions body.0)) (one_if e ++ (one_if next ++ expressions body.0)) (own_branches body.0) (branches body.0)
    (before_holds (one_if e) (one_if next ++ own_expressions body.0) (one_if next ++ expressions body.0) (own_branches body.0) (branches body.0)
    (before_holds (one_if next) (own_expressions body.0) (expressions body.0) (own_branches body.0) (branches body.0) body.1))
step_holds (Stmt-F.Switch at e body) = before_holds (e ∷ []) _ _ _ _ (all_hold body)
step_holds (Stmt-F.Alt at body) = all_hold body
step_holds (Stmt-F.Case at e) = expressions_hold (e ∷ [])
step_holds (Stmt-F.Default at) = none_holds
step_holds (Stmt-F.Par at bodies) = par_holds bodies
step_holds (Stmt-F.Rescue at name body) = body.1
step_holds (Stmt-F.Raise at name) = none_holds
step_holds (Stmt-F.Return at e) = expressions_hold _
step_holds (Stmt-F.Become at e) = expressions_hold (e ∷ [])
step_holds (Stmt-F.Break at count) = none_holds
step_holds (Stmt-F.Continue at count) = none_holds
step_holds (Stmt-F.Goto at name) = none_holds
step_holds (Stmt-F.Alloc at es) = expressions_hold es
step_holds (Stmt-F.Unalloc at es) = expressions_hold es
step_holds (Stmt-F.Check at e text) = expressions_hold (e ∷ [])
step_holds (Stmt-F.Proc at es) = expressions_hold es
step_holds (Stmt-F.Task at es) = expressions_hold es

by_parts : (y : Stmt-F Checked) → Good (roll-Stmt (tree_of y))
unfolding own_expressions expressions own_branches branches
by_parts y =
    let z = tree_of y in
    let s = roll-Stmt z in
    subst (λ (es : List Expr). Holds es (expressions s) (own_branches s) (branches s)) (sym (fold-roll-Stmt (List Expr) (expressions_with (λ bodies. [])) z))
    (subst (λ (es : List Expr). Holds (expressions_with (λ bodies. []) (map-Stmt Stmt (List Expr) own_expressions z)) es (own_branches s) (branches s)) (sym (fold-roll-Stmt (List Expr) (expressions_with all_of) z))
    (subst (λ (bs : List Stmt). Holds (expressions_with (λ bodies. []) (map-Stmt Stmt (List Expr) own_expressions z)) (expressions_with all_of (map-Stmt Stmt (List Expr) expressions z)) bs (branches s))
    (sym (para-roll-Stmt (List Stmt) (branches_with near_of_par) z))
    (subst (λ (bs : List Stmt). Holds (expressions_with (λ bodies. []) (map-Stmt Stmt (List Expr) own_expressions z)) (expressions_with all_of (map-Stmt Stmt (List Expr) expressions z))
    (branches_with near_of_par (map-Stmt Stmt (Stmt × List Stmt) with_near z)) bs)
    (sym (para-roll-Stmt (List Stmt) (branches_with all_of_par) z)) (step_holds y))))

pub statement_holds : (s : Stmt) → Good s
statement_holds = ind-Stmt Good (λ x y is. subst (λ z. Good (roll-Stmt z)) is (by_parts y))
