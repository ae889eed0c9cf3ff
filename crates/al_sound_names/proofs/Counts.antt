-- A unit declares no more than the function that it is in.
use Rattle.std.proofs.Common.{◌≡◌, ℕ, zero, suc, ◌+◌, ◌≤◌, List, [], ◌∷◌, ◌++◌, map, length, Some, None, refl, sym, ap, subst, ◌⊎◌, inl, inr, arith}
use Rattle.std.specs.Prelude.{Contains}
use Rattle.std.specs.List.{flat_map}
use Rattle.std.proofs.lemmas.List.{length-append}
use Rattle.std.proofs.lemmas.List.Elements.{Contains-append_cases}
use Rattle.al_tree.specs.declared.statement.Stmt.{Stmt, fold-roll-Stmt, map-Stmt, para-roll-Stmt, roll-Stmt}
use Rattle.al_tree.specs.declared.statement.Stmt.TheFolds.{ind-Stmt}
use Rattle.al_tree.specs.declared.statement.Stmt.TheOpen.{Stmt-F}
use Rattle.al_tree_laws.specs.Counts.{declared_count, declared_step, total}
use Rattle.al_tree_walks.specs.Statements.{branches, branches_with}
use Rattle.al_flow.specs.Flow.{marks, own_step}
use Rattle.al_flow.specs.Flow as flow
use Rattle.al_sound_flow.proofs.Ways.{own_of}

-- ---- labels and rescues, and branches

none_in : {A X : Type 0} (x : A) → Contains [] x → X
none_in x c = absurd (omega (arith, c.1))

one_of : {A : Type 0} (x y : A) (xs : List A) → Contains (x ∷ xs) y → (x ≡ y) ⊎ Contains xs y
one_of x y xs (zero, lt, q) = inl q
one_of x y xs (suc k, lt, q) = inr (k, omega (arith, lt), q)

-- so many labels and rescues, and no branch declares more
pub record Holds (own : ℕ) (bs : List Stmt) (count : ℕ) : Type 0 where
  pub few : own ≤ count
  pub inner : (b : Stmt) → Contains bs b → declared_count b ≤ count

none_holds : Holds 0 [] 0
none_holds = record { few = omega arith; inner = λ b c. none_in b c }

both_holds : (own more count others : ℕ) (bs cs : List Stmt) → Holds own bs count → Holds more cs others → Holds (own + more) (bs ++ cs) (count + others)
both_holds own more count others bs cs h k = record {
  few = (let a = h.few in let b = k.few in omega (arith, a, b));
  inner = λ b c. on b (Contains-append_cases bs cs b c);
}
  where
    on : (b : Stmt) → Contains bs b ⊎ Contains cs b → declared_count b ≤ count + others
    on b (inl c) = (let a = h.inner b c in omega (arith, a))
    on b (inr c) = (let a = k.inner b c in omega (arith, a))

holds_so : (own own2 count count2 : ℕ) (bs : List Stmt) → own ≡ own2 → count ≡ count2 → Holds own bs count → Holds own2 bs count2
holds_so own own2 count count2 bs e q h = subst (λ n. Holds n bs count2) e (subst (Holds own bs) q h)

abbrev Good : Stmt → Type 0
Good s = Holds (length (flow.part s).own) (branches s) (declared_count s)

abbrev Checked : Type 0
Checked = (s : Stmt) × Good s

abbrev plain : List Checked → List Stmt
plain ys = map (λ (y : Checked). y.0) ys

abbrev tree_of : Stmt-F Checked → Stmt-F Stmt
tree_of y = map-Stmt Checked Stmt (λ c. c.0) y

abbrev with_all : Stmt → Stmt × List Stmt
with_all s = (s, branches s)

abbrev inside : List (Stmt × List Stmt) → List Stmt
inside ps = flat_map (λ (p : Stmt × List Stmt). p.1) ps

abbrev of_par : List (Stmt × List Stmt) → List Stmt
of_par ps = flat_map (λ (p : Stmt × List Stmt). p.0 ∷ p.1) ps

abbrev C : List Stmt → ℕ
C ss = total (map declared_count ss)

all_hold : (ys : List Checked) → Holds (length (own_of (plain ys))) (inside (map with_all (plain ys))) (C (plain ys))
all_hold [] = none_holds
all_hold (y ∷ ys) =
    holds_so (length (flow.part y.0).own + length (own_of (plain ys))) (length (own_of (plain (y ∷ ys)))) (C (plain (y ∷ ys))) (C (plain (y ∷ ys))) (inside (map with_all (plain (y ∷ ys))))
    (sym (length-append (flow.part y.0).own (own_of (plain ys)))) refl
    (both_holds (length (flow.part y.0).own) (length (own_of (plain ys))) (declared_count y.0) (C (plain ys)) (branches y.0) (inside (map with_all (plain ys))) y.1 (all_hold ys))

branch_holds : (y : Checked) → Holds 0 (y.0 ∷ branches y.0) (declared_count y.0)
branch_holds y = record { few = omega arith; inner = λ b c. on b (one_of y.0 b (branches y.0) c) }
  where
    on : (b : Stmt) → (y.0 ≡ b) ⊎ Contains (branches y.0) b → declared_count b ≤ declared_count y.0
    on b (inl e) = (let same = ap declared_count e in omega (arith, same))
    on b (inr c) = y.1.inner b c

par_holds : (ys : List Checked) → Holds 0 (of_par (map with_all (plain ys))) (C (plain ys))
par_holds [] = none_holds
par_holds (y ∷ ys) = both_holds 0 0 (declared_count y.0) (C (plain ys)) (y.0 ∷ branches y.0) (of_par (map with_all (plain ys))) (branch_holds y) (par_holds ys)

step_holds : (y : Stmt-F Checked) → Holds (length (own_step (map-Stmt Stmt flow.Part flow.part (tree_of y)))) (branches_with of_par (map-Stmt Stmt (Stmt × List Stmt) with_all (tree_of y)))
    (declared_step (map-Stmt Stmt ℕ declared_count (tree_of y)))
step_holds (Stmt-F.Empty at) = none_holds
step_holds (Stmt-F.Block at body) = all_hold body
step_holds (Stmt-F.Declare at base vs) = record { few = omega arith; inner = λ b c. none_in b c }
step_holds (Stmt-F.Value at e) = none_holds
step_holds (Stmt-F.Label at name body) = record { few = (let a = body.1.few in omega (arith, a)); inner = λ b c. (let a = body.1.inner b c in omega (arith, a)) }
step_holds (Stmt-F.If at e met None) =
    holds_so (length (flow.part met.0).own + 0) (length ((flow.part met.0).own ++ [])) (declared_count met.0 + 0) (declared_count met.0 + 0) (branches met.0 ++ [])
    (sym (length-append (flow.part met.0).own [])) refl
    (both_holds (length (flow.part met.0).own) 0 (declared_count met.0) 0 (branches met.0) [] met.1 none_holds)
step_holds (Stmt-F.If at e met (Some other)) =
    holds_so (length (flow.part met.0).own + length (flow.part other.0).own) (length ((flow.part met.0).own ++ (flow.part other.0).own)) (declared_count met.0 + declared_count other.0)
    (declared_count met.0 + declared_count other.0) (branches met.0 ++ branches other.0) (sym (length-append (flow.part met.0).own (flow.part other.0).own)) refl
    (both_holds (length (flow.part met.0).own) (length (flow.part other.0).own) (declared_count met.0) (declared_count other.0) (branches met.0) (branches other.0) met.1 other.1)
step_holds (Stmt-F.While at e body) = body.1
step_holds (Stmt-F.Do at body e) = body.1
step_holds (Stmt-F.For at start e next body) = body.1
step_holds (Stmt-F.Switch at e body) = all_hold body
step_holds (Stmt-F.Alt at body) = all_hold body
step_holds (Stmt-F.Case at e) = none_holds
step_holds (Stmt-F.Default at) = none_holds
step_holds (Stmt-F.Par at bodies) = par_holds bodies
step_holds (Stmt-F.Rescue at name body) = record { few = (let a = body.1.few in omega (arith, a)); inner = λ b c. (let a = body.1.inner b c in omega (arith, a)) }
step_holds (Stmt-F.Raise at name) = none_holds
step_holds (Stmt-F.Return at e) = none_holds
step_holds (Stmt-F.Become at e) = none_holds
step_holds (Stmt-F.Break at count) = none_holds
step_holds (Stmt-F.Continue at count) = none_holds
step_holds (Stmt-F.Goto at name) = none_holds
step_holds (Stmt-F.Alloc at es) = none_holds
step_holds (Stmt-F.Unalloc at es) = none_holds
step_holds (Stmt-F.Check at e text) = none_holds
step_holds (Stmt-F.Proc at es) = none_holds
step_holds (Stmt-F.Task at es) = none_holds

by_parts : (y : Stmt-F Checked) → Good (roll-Stmt (tree_of y))
unfolding flow.part branches declared_count
by_parts y =
    let z = tree_of y in
    let s = roll-Stmt z in
    subst (λ (p : flow.Part). Holds (length p.own) (branches s) (declared_count s)) (sym (fold-roll-Stmt flow.Part flow.part_step z))
    (subst (λ (bs : List Stmt). Holds (length (own_step (map-Stmt Stmt flow.Part flow.part z))) bs (declared_count s)) (sym (para-roll-Stmt (List Stmt) (branches_with of_par) z))
    (subst (λ n. Holds (length (own_step (map-Stmt Stmt flow.Part flow.part z))) (branches_with of_par (map-Stmt Stmt (Stmt × List Stmt) with_all z)) n) (sym (fold-roll-Stmt ℕ declared_step z)) (step_holds y)))

pub counts_hold : (s : Stmt) → Good s
counts_hold = ind-Stmt Good (λ x y is. subst (λ z. Good (roll-Stmt z)) is (by_parts y))
