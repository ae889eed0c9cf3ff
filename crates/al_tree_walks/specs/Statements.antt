-- What is in a statement, in text order: statements, expressions, and the branches of pars, each of which is a function of its own.
use Rattle.std.specs.Prelude.{ℕ, ◌+◌, List, [], ◌∷◌, ◌++◌, map, Option, Some, None}
use Rattle.std.specs.List.{flat_map}
use Rattle.al_tree.specs.declared.expression.Expr.{Expr}
use Rattle.al_tree.specs.declared.statement.Variable.{Variable}
use Rattle.al_tree.specs.declared.statement.Stmt.{Stmt, fold-Stmt, map-Stmt, para-Stmt, roll-Stmt}
use Rattle.al_tree.specs.declared.statement.Stmt.TheOpen.{Stmt-F}

abbrev pub if_there : {A B : Type 0} → (A → List B) → Option A → List B
if_there f None = []
if_there f (Some x) = f x

-- ---- statements

-- a statement, and how many loops, switches and alts, and how many loops, are round it
pub record Standing : Type 0 where
  pub tree : Stmt
  pub breaks : ℕ
  pub loops : ℕ

abbrev pub Way : Type 0
Way = (breaks loops : ℕ) → List Standing

abbrev pub each_standing : List (Stmt × Way) → Way
each_standing ps breaks loops = flat_map (λ (p : Stmt × Way). p.1 breaks loops) ps

-- those in a statement
abbrev pub inner_step : Stmt-F (Stmt × Way) → Way
inner_step (Stmt-F.Block at body) b l = each_standing body b l
inner_step (Stmt-F.Label at name body) b l = body.1 b l
inner_step (Stmt-F.If at e met other) b l = met.1 b l ++ if_there (λ (p : Stmt × Way). p.1 b l) other
inner_step (Stmt-F.While at e body) b l = body.1 (b + 1) (l + 1)
inner_step (Stmt-F.Do at body e) b l = body.1 (b + 1) (l + 1)
inner_step (Stmt-F.For at start e next body) b l = body.1 (b + 1) (l + 1)
inner_step (Stmt-F.Switch at e body) b l = each_standing body (b + 1) l
inner_step (Stmt-F.Alt at body) b l = each_standing body (b + 1) l
inner_step (Stmt-F.Rescue at name body) b l = body.1 b l
inner_step _ b l = []

abbrev pub tree_of : Stmt-F (Stmt × Way) → Stmt
tree_of y = roll-Stmt (map-Stmt (Stmt × Way) Stmt (λ p. p.0) y)

abbrev pub standing_step : Stmt-F (Stmt × Way) → Way
standing_step y b l = record { tree = tree_of y; breaks = b; loops = l } ∷ inner_step y b l

-- A statement that stands in so many, and those in it. What is in a branch of a par is none of these.
unfoldable pub standing : Stmt → Way
standing = para-Stmt Way standing_step

-- ---- expressions

abbrev pub value_of : Variable → List Expr
value_of v = if_there (λ e. e ∷ []) v.value

abbrev pub one_if : Option Expr → List Expr
one_if = if_there (λ e. e ∷ [])

abbrev pub all_of : {A : Type 0} → List (List A) → List A
all_of = flat_map (λ es. es)

-- those of a statement and of the statements in it, where those of the branches of a par are given
abbrev pub expressions_with : (List (List Expr) → List Expr) → Stmt-F (List Expr) → List Expr
expressions_with branches (Stmt-F.Empty at) = []
expressions_with branches (Stmt-F.Block at body) = all_of body
expressions_with branches (Stmt-F.Declare at base variables) = flat_map value_of variables
expressions_with branches (Stmt-F.Value at e) = e ∷ []
expressions_with branches (Stmt-F.Label at name body) = body
expressions_with branches (Stmt-F.If at e met other) = e ∷ met ++ if_there (λ es. es) other
expressions_with branches (Stmt-F.While at e body) = e ∷ body
expressions_with branches (Stmt-F.Do at body e) = body ++ e ∷ []
expressions_with branches (Stmt-F.For at start e next body) = one_if start ++ (one_if e ++ (one_if next ++ body))
expressions_with branches (Stmt-F.Switch at e body) = e ∷ all_of body
expressions_with branches (Stmt-F.Alt at body) = all_of body
expressions_with branches (Stmt-F.Case at e) = e ∷ []
expressions_with branches (Stmt-F.Default at) = []
expressions_with branches (Stmt-F.Par at bodies) = branches bodies
expressions_with branches (Stmt-F.Rescue at name body) = body
expressions_with branches (Stmt-F.Raise at name) = []
expressions_with branches (Stmt-F.Return at e) = one_if e
expressions_with branches (Stmt-F.Become at e) = e ∷ []
expressions_with branches (Stmt-F.Break at count) = []
expressions_with branches (Stmt-F.Continue at count) = []
expressions_with branches (Stmt-F.Goto at name) = []
expressions_with branches (Stmt-F.Alloc at es) = es
expressions_with branches (Stmt-F.Unalloc at es) = es
expressions_with branches (Stmt-F.Check at e text) = e ∷ []
expressions_with branches (Stmt-F.Proc at es) = es
expressions_with branches (Stmt-F.Task at es) = es

-- those that stand in no branch of a par in the statement
unfoldable pub own_expressions : Stmt → List Expr
own_expressions = fold-Stmt (List Expr) (expressions_with (λ bodies. []))

-- all of them
unfoldable pub expressions : Stmt → List Expr
expressions = fold-Stmt (List Expr) (expressions_with all_of)

-- ---- branches of pars

-- those of the statements in a statement, where those of a par are given
abbrev pub branches_with : (List (Stmt × List Stmt) → List Stmt) → Stmt-F (Stmt × List Stmt) → List Stmt
branches_with par (Stmt-F.Block at body) = flat_map (λ (p : Stmt × List Stmt). p.1) body
branches_with par (Stmt-F.Label at name body) = body.1
branches_with par (Stmt-F.If at e met other) = met.1 ++ if_there (λ (p : Stmt × List Stmt). p.1) other
branches_with par (Stmt-F.While at e body) = body.1
branches_with par (Stmt-F.Do at body e) = body.1
branches_with par (Stmt-F.For at start e next body) = body.1
branches_with par (Stmt-F.Switch at e body) = flat_map (λ (p : Stmt × List Stmt). p.1) body
branches_with par (Stmt-F.Alt at body) = flat_map (λ (p : Stmt × List Stmt). p.1) body
branches_with par (Stmt-F.Par at bodies) = par bodies
branches_with par (Stmt-F.Rescue at name body) = body.1
branches_with par _ = []

-- the branches of the pars in a statement that stand in no other branch
unfoldable pub own_branches : Stmt → List Stmt
own_branches = para-Stmt (List Stmt) (branches_with (λ bodies. map (λ (p : Stmt × List Stmt). p.0) bodies))

-- all branches in a statement, each before those in it
unfoldable pub branches : Stmt → List Stmt
branches = para-Stmt (List Stmt) (branches_with (flat_map (λ (p : Stmt × List Stmt). p.0 ∷ p.1)))
