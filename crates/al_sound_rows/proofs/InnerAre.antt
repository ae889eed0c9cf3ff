-- Branches in a branch of a statement are branches of the statement.
use Rattle.std.proofs.Common.{List, [], ◌∷◌, ◌++◌, map, Some, None, sym, subst}
use Rattle.std.specs.Prelude.{All, Contains}
use Rattle.std.specs.List.{flat_map}
use Rattle.std.proofs.lemmas.List.Elements.{All-append, All-cons, All-contains, All-contains_itself, All-head, All-nil, All-tail, All-weaker, Contains-append_left, Contains-append_right}
use Rattle.al_tree.specs.declared.statement.Stmt.{Stmt, map-Stmt, para-roll-Stmt, roll-Stmt}
use Rattle.al_tree.specs.declared.statement.Stmt.TheFolds.{ind-Stmt}
use Rattle.al_tree.specs.declared.statement.Stmt.TheOpen.{Stmt-F}
use Rattle.al_tree_walks.specs.Statements.{branches, branches_with, own_branches}
use Rattle.al_sound_rows.proofs.Trees.{all_are, all_of, all_par, second, with_inner}

-- what is in these branches is among those
abbrev AreIn : List Stmt → List Stmt → Type 0
AreIn us xs = All (λ x. All (Contains us) (branches x)) xs

abbrev Holds : Stmt → Type 0
Holds s = AreIn (branches s) (branches s)

wider : (us vs xs : List Stmt) → ((u : Stmt) → Contains us u → Contains vs u) → AreIn us xs → AreIn vs xs
wider us vs xs f h = All-weaker (λ x. All (Contains us) (branches x)) (λ x. All (Contains vs) (branches x)) (λ x k. All-weaker (Contains us) (Contains vs) f (branches x) k) xs h

both_in : (us vs : List Stmt) → AreIn us us → AreIn vs vs → AreIn (us ++ vs) (us ++ vs)
both_in us vs h k =
    All-append (λ x. All (Contains (us ++ vs)) (branches x)) us vs (wider us (us ++ vs) us (λ u c. Contains-append_left us vs u c) h)
    (wider vs (us ++ vs) vs (λ u c. Contains-append_right us vs u c) k)

none_in : AreIn [] []
none_in = All-nil (λ x. All (Contains []) (branches x))

one_in : (s : Stmt) → Holds s → AreIn (with_inner s) (with_inner s)
one_in s h =
    All-cons (λ x. All (Contains (with_inner s)) (branches x)) s (branches s) (All-tail (Contains (with_inner s)) s (branches s) (All-contains_itself (with_inner s)))
    (wider (branches s) (with_inner s) (branches s) (λ u c. Contains-append_right (s ∷ []) (branches s) u c) h)

abbrev Checked : Type 0
Checked = (s : Stmt) × Holds s

abbrev plain : List Checked → List Stmt
plain ys = map (λ (y : Checked). y.0) ys

abbrev tree_of : Stmt-F Checked → Stmt-F Stmt
tree_of y = map-Stmt Checked Stmt (λ (c : Checked). c.0) y

each_in : (ys : List Checked) → AreIn (flat_map second (map all_of (plain ys))) (flat_map second (map all_of (plain ys)))
each_in [] = none_in
each_in (y ∷ ys) = both_in (branches y.0) (flat_map second (map all_of (plain ys))) y.1 (each_in ys)

par_in : (ys : List Checked) → AreIn (all_par (map all_of (plain ys))) (all_par (map all_of (plain ys)))
par_in [] = none_in
par_in (y ∷ ys) = both_in (with_inner y.0) (all_par (map all_of (plain ys))) (one_in y.0 y.1) (par_in ys)

abbrev inner_of_kind : Stmt-F Stmt → List Stmt
inner_of_kind y = branches_with all_par (map-Stmt Stmt (Stmt × List Stmt) all_of y)

step_in : (y : Stmt-F Checked) → AreIn (inner_of_kind (tree_of y)) (inner_of_kind (tree_of y))
step_in (Stmt-F.Block at body) = each_in body
step_in (Stmt-F.Label at name body) = body.1
step_in (Stmt-F.While at e body) = body.1
step_in (Stmt-F.Do at body e) = body.1
step_in (Stmt-F.For at start e next body) = body.1
step_in (Stmt-F.Switch at e body) = each_in body
step_in (Stmt-F.Alt at body) = each_in body
step_in (Stmt-F.Rescue at name body) = body.1
step_in (Stmt-F.Empty at) = none_in
step_in (Stmt-F.Declare at base variables) = none_in
step_in (Stmt-F.Value at e) = none_in
step_in (Stmt-F.Case at e) = none_in
step_in (Stmt-F.Default at) = none_in
step_in (Stmt-F.Raise at name) = none_in
step_in (Stmt-F.Return at e) = none_in
step_in (Stmt-F.Become at e) = none_in
step_in (Stmt-F.Break at count) = none_in
step_in (Stmt-F.Continue at count) = none_in
step_in (Stmt-F.Goto at name) = none_in
step_in (Stmt-F.Alloc at es) = none_in
step_in (Stmt-F.Unalloc at es) = none_in
step_in (Stmt-F.Check at e text) = none_in
step_in (Stmt-F.Proc at es) = none_in
step_in (Stmt-F.Task at es) = none_in
step_in (Stmt-F.If at e met None) = both_in (branches met.0) [] met.1 none_in
step_in (Stmt-F.If at e met (Some other)) = both_in (branches met.0) (branches other.0) met.1 other.1
step_in (Stmt-F.Par at bodies) = par_in bodies

roll_in : (y : Stmt-F Checked) → Holds (roll-Stmt (tree_of y))
unfolding branches
roll_in y = subst (λ us. AreIn us us) (sym (para-roll-Stmt (List Stmt) (branches_with all_par) (tree_of y))) (step_in y)

all_in_statement : (s : Stmt) → Holds s
all_in_statement = ind-Stmt Holds (λ x y is. subst (λ z. Holds (roll-Stmt z)) is (roll_in y))

pub inner_of : (s u v : Stmt) → Contains (branches s) u → Contains (branches u) v → Contains (branches s) v
inner_of s u v c d =
    All-contains (Contains (branches s)) (branches u) v (All-contains (λ x. All (Contains (branches s)) (branches x)) (branches s) u (all_in_statement s) c) d

own_among : (us : List Stmt) → All (Contains (flat_map with_inner us)) us
own_among [] = All-nil (Contains (flat_map with_inner []))
own_among (u ∷ us) =
    All-cons (Contains (flat_map with_inner (u ∷ us))) u us
    (Contains-append_left (with_inner u) (flat_map with_inner us) u (All-head (Contains (with_inner u)) u (branches u) (All-contains_itself (with_inner u))))
    (All-weaker (Contains (flat_map with_inner us)) (Contains (flat_map with_inner (u ∷ us))) (λ v c. Contains-append_right (with_inner u) (flat_map with_inner us) v c) us (own_among us))

pub own_inner : (s u : Stmt) → Contains (own_branches s) u → Contains (branches s) u
own_inner s u c =
    subst (λ vs. Contains vs u) (sym (all_are s)) (All-contains (Contains (flat_map with_inner (own_branches s))) (own_branches s) u (own_among (own_branches s)) c)
