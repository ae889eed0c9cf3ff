-- As many labels and rescues are gathered of a body as it has.
use Rattle.std.proofs.Common.{◌≡◌, ℕ, suc, ◌+◌, Bool, true, false, if◌then◌else◌, List, [], ◌∷◌, ◌++◌, map, length, Option, Some, None, refl, sym, ap, ◌∙◌, subst, arith}
use Rattle.std.proofs.lemmas.List.{length-append}
use Rattle.al_base.specs.declared.place.Place.{Place}
use Rattle.al_tree.specs.declared.expression.Expr.{Expr, fold-roll-Expr, map-Expr, roll-Expr}
use Rattle.al_tree.specs.declared.expression.Expr.TheFolds.{ind-Expr}
use Rattle.al_tree.specs.declared.expression.Expr.TheOpen.{Expr-F}
use Rattle.al_tree.specs.declared.statement.Variable.{Variable}
use Rattle.al_tree.specs.declared.statement.Stmt.{Stmt, fold-roll-Stmt, map-Stmt, roll-Stmt}
use Rattle.al_tree.specs.declared.statement.Stmt.TheFolds.{ind-Stmt}
use Rattle.al_tree.specs.declared.statement.Stmt.TheOpen.{Stmt-F}
use Rattle.al_tree.specs.declared.type_tree.TypeTree.{TypeTree}
use Rattle.al_typed.specs.declared.ty.Ty.{Ty}
use Rattle.al_environment.specs.declared.environment.Environment.{Environment}
use Rattle.al_environment.specs.declared.environment.Here.{Here}
use Rattle.al_environment.specs.Written.{written}
use Rattle.al_flow.specs.Flow.{own_step, marks}
use Rattle.al_flow.specs.Flow as flow
use Rattle.al_body_parts.specs.declared.parts.Parts.{Parts}
use Rattle.al_body_parts.specs.Expressions.{Part, Way, behind_format, each, is_print, optional, part, step}
use Rattle.al_body_parts.specs.Parts.{nothing, with_base, with_label, with_local, with_type}
use Rattle.al_body_parts.specs.Statements.{branch, head, parts, stmt, stmt_step, variable, variables}
use Rattle.al_sound_flow.proofs.Ways.{own_of}

-- ---- expressions add none

abbrev Keeps : Way → Type 0
Keeps way = (inside : Bool) (q : Parts) → (way inside q).labels ≡ q.labels

abbrev Every : {A : Type 0} → (A → Type 0) → List A → Type 0
Every P [] = Unit {0}
Every P (x ∷ xs) = P x × Every P xs

each_keeps : {A : Type 0} (f : A → Way) (xs : List A) → Every (λ x. Keeps (f x)) xs → Keeps (each f xs)
each_keeps f [] h inside q = refl
each_keeps f (x ∷ xs) h inside q = each_keeps f xs h.1 inside (f x inside q) ∙ h.0 inside q

behind_keep : {A : Type 0} (P : A → Type 0) (is_text : A → Bool) (b : Bool) (xs : List A) → Every P xs → Every P (behind_format is_text b xs)
behind_keep P is_text false xs h = h
behind_keep P is_text true [] h = h
behind_keep P is_text true (x ∷ xs) h = on (is_text x)
  where
    on : (b : Bool) → Every P (if b then xs else x ∷ xs)
    on true = h.1
    on false = h

optional_keeps : {A : Type 0} (f : A → Way) (o : Option A) → ((x : A) → Keeps (f x)) → Keeps (optional f o)
optional_keeps f None h inside q = refl
optional_keeps f (Some x) h inside q = h x inside q

module _ (env : Environment) (here : Here) where
  type_keeps : (at : Place) (t : TypeTree) (q : Parts) → (with_type env here at t q).labels ≡ q.labels
  unfolding with_type
  type_keeps at t q = refl

  base_keeps : (t : TypeTree) (q : Parts) → (with_base env here t q).labels ≡ q.labels
  unfolding with_base
  base_keeps t q = refl

  local_keeps : (base : Option Ty) (inside : Bool) (dcl : _) (q : Parts) → (with_local env base inside dcl q).labels ≡ q.labels
  unfolding with_local
  local_keeps base true dcl q = refl
  local_keeps base false dcl q = refl

  abbrev Good : Expr → Type 0
  Good e = Keeps (part env here e).way

  abbrev Checked : Type 0
  Checked = (e : Expr) × Good e

  abbrev plain : List Checked → List Expr
  plain ys = map (λ (y : Checked). y.0) ys

  abbrev tree_of : Expr-F Checked → Expr-F Expr
  tree_of y = map-Expr Checked Expr (λ c. c.0) y

  abbrev parts_keep : List Part → Type 0
  parts_keep ps = Every (λ (p : Part). Keeps p.way) ps

  every_part : (ys : List Checked) → parts_keep (map (part env here) (plain ys))
  every_part [] = tt
  every_part (y ∷ ys) = (y.1, every_part ys)

  two_keep : (a b : Checked) → Keeps (λ inside q. (part env here b.0).way inside ((part env here a.0).way inside q))
  two_keep a b inside q = b.1 inside ((part env here a.0).way inside q) ∙ a.1 inside q

  step_keeps : (y : Expr-F Checked) → Keeps (step env here (map-Expr Expr Part (part env here) (tree_of y))).way
  step_keeps (Expr-F.Number at value) inside q = refl
  step_keeps (Expr-F.Char at value) inside q = refl
  step_keeps (Expr-F.Text at bytes) inside q = refl
  step_keeps (Expr-F.Nil at) inside q = refl
  step_keeps (Expr-F.Name at name) inside q = refl
  step_keeps (Expr-F.Tuple at parts) inside q = each_keeps (λ (p : Part). p.way) (map (part env here) (plain parts)) (every_part parts) inside q
  step_keeps (Expr-F.Unary at op a) inside q = a.1 inside q
  step_keeps (Expr-F.Cast at to a) inside q = a.1 inside (with_type env here at to q) ∙ type_keeps at to q
  step_keeps (Expr-F.SizeofType at of) inside q = type_keeps at of q
  step_keeps (Expr-F.SizeofValue at a) inside q = a.1 inside q
  step_keeps (Expr-F.Index at a b) inside q = two_keep a b inside q
  step_keeps (Expr-F.Member at a how name) inside q = a.1 inside q
  step_keeps (Expr-F.Call at f xs) inside q =
      let ps = behind_format (λ (p : Part). p.is_text) (is_print env.scopes.names (part env here f.0).name) (map (part env here) (plain xs)) in
      each_keeps (λ (p : Part). p.way) ps
      (behind_keep (λ (p : Part). Keeps p.way) (λ (p : Part). p.is_text) (is_print env.scopes.names (part env here f.0).name) (map (part env here) (plain xs)) (every_part xs)) inside ((part env here f.0).way inside q)
      ∙ f.1 inside q
  step_keeps (Expr-F.Postfix at op a) inside q = a.1 inside q
  step_keeps (Expr-F.Binary at op a b) inside q = two_keep a b inside q
  step_keeps (Expr-F.Iterator at a b) inside q = two_keep a b inside q
  step_keeps (Expr-F.Assign at op a b) inside q = two_keep a b inside q
  step_keeps (Expr-F.Sequence at parts) inside q = each_keeps (λ (p : Part). p.way) (map (part env here) (plain parts)) (every_part parts) inside q

  expr_by_parts : (y : Expr-F Checked) → Good (roll-Expr (tree_of y))
  unfolding part
  expr_by_parts y = subst (λ (p : Part). Keeps p.way) (sym (fold-roll-Expr Part (step env here) (tree_of y))) (step_keeps y)

  expr_keeps : (e : Expr) → Good e
  expr_keeps = ind-Expr Good (λ x y is. subst (λ z. Good (roll-Expr z)) is (expr_by_parts y))

  -- ---- statements

  -- a way that adds so many labels and rescues, and none in a branch
  record Counts (way : Way) (n : ℕ) : Type 0 where
    outer : (q : Parts) → length (way false q).labels ≡ length q.labels + n
    inner : (q : Parts) → length (way true q).labels ≡ length q.labels

  keeps_count : (way : Way) → Keeps way → Counts way 0
  keeps_count way h = record { outer = λ q. ap length (h false q) ∙ plus_none (length q.labels); inner = λ q. ap length (h true q) }
    where
      plus_none : (n : ℕ) → n ≡ n + 0
      plus_none n = omega arith

  then_count : (f g : Way) (n m : ℕ) → Counts f n → Counts g m → Counts (λ inside q. g inside (f inside q)) (n + m)
  then_count f g n m h k = record {
    outer = λ q. (let a = h.outer q in let b = k.outer (f false q) in omega (arith, a, b));
    inner = λ q. k.inner (f true q) ∙ h.inner q;
  }

  count_is : (way : Way) (n m : ℕ) → n ≡ m → Counts way n → Counts way m
  count_is way n m e h = subst (Counts way) e h

  abbrev Fine : Stmt → Type 0
  Fine s = Counts (stmt env here s) (length (flow.part s).own)

  abbrev Known : Type 0
  Known = (s : Stmt) × Fine s

  abbrev trees : List Known → List Stmt
  trees ys = map (λ (y : Known). y.0) ys

  abbrev stmt_of : Stmt-F Known → Stmt-F Stmt
  stmt_of y = map-Stmt Known Stmt (λ c. c.0) y

  no_more : Counts (λ inside q. q) 0
  no_more = keeps_count (λ inside q. q) (λ inside q. refl)

  all_count : (ys : List Known) → Counts (each (λ way. way) (map (stmt env here) (trees ys))) (length (own_of (trees ys)))
  all_count [] = no_more
  all_count (y ∷ ys) =
      count_is (each (λ way. way) (map (stmt env here) (trees (y ∷ ys)))) (length (flow.part y.0).own + length (own_of (trees ys))) (length (own_of (trees (y ∷ ys))))
      (sym (length-append (flow.part y.0).own (own_of (trees ys))))
      (then_count (stmt env here y.0) (each (λ way. way) (map (stmt env here) (trees ys))) (length (flow.part y.0).own) (length (own_of (trees ys))) y.1 (all_count ys))

  branches_count : (ys : List Known) → Counts (each (branch env here) (map (stmt env here) (trees ys))) 0
  branches_count [] = no_more
  branches_count (y ∷ ys) =
      then_count (branch env here (stmt env here y.0)) (each (branch env here) (map (stmt env here) (trees ys))) 0 0
      (record { outer = λ q. (let a = y.1.inner q in omega (arith, a)); inner = λ q. y.1.inner q }) (branches_count ys)

  each_expr : (es : List Expr) → Keeps (each (λ e. (part env here e).way) es)
  each_expr [] inside q = refl
  each_expr (e ∷ es) inside q = each_expr es inside ((part env here e).way inside q) ∙ expr_keeps e inside q

  optional_expr : (e : Option Expr) → Keeps (optional (λ e. (part env here e).way) e)
  optional_expr e = optional_keeps (λ e. (part env here e).way) e expr_keeps

  each_variable : (base : Option Ty) (vs : List Variable) → Keeps (each (variable env here base) vs)
  each_variable base [] inside q = refl
  each_variable base (v ∷ vs) inside q =
      each_variable base vs inside (variable env here base v inside q) ∙ optional_expr v.value inside (with_local env base inside v.dcl q) ∙ local_keeps base inside v.dcl q

  -- an expression before statements
  before : (e : Expr) (way : Way) (n : ℕ) → Counts way n → Counts (λ inside q. way inside ((part env here e).way inside q)) n
  before e way n h =
      count_is (λ inside q. way inside ((part env here e).way inside q)) (0 + n) n (omega arith)
      (then_count (part env here e).way way 0 n (keeps_count (part env here e).way (expr_keeps e)) h)

  marked : (at : Place) (way : Way) (n : ℕ) → Counts way n → Counts (λ inside q. way inside (with_label inside at q)) (suc n)
  marked at way n h = record {
    outer = λ q. (let a = h.outer (with_label false at q) in let long = length-append q.labels (at ∷ []) in omega (arith, a, long));
    inner = λ q. h.inner q;
  }

  step_counts : (y : Stmt-F Known) → Counts (stmt_step env here (map-Stmt Stmt Way (stmt env here) (stmt_of y))) (length (own_step (map-Stmt Stmt flow.Part flow.part (stmt_of y))))
  step_counts (Stmt-F.Empty at) = no_more
  step_counts (Stmt-F.Block at body) = all_count body
  step_counts (Stmt-F.Declare at base vs) = keeps_count (variables env here base vs) (λ inside q. each_variable (written env here base) vs inside (with_base env here base q) ∙ base_keeps base q)
  step_counts (Stmt-F.Value at e) = keeps_count (part env here e).way (expr_keeps e)
  step_counts (Stmt-F.Label at name body) = marked at (stmt env here body.0) (length (flow.part body.0).own) body.1
  step_counts (Stmt-F.If at e met None) =
      before e (λ inside q. stmt env here met.0 inside q) (length ((flow.part met.0).own ++ []))
      (count_is (stmt env here met.0) (length (flow.part met.0).own) (length ((flow.part met.0).own ++ [])) (longer (flow.part met.0).own) met.1)
    where
      longer : {A : Type 0} (xs : List A) → length xs ≡ length (xs ++ [])
      longer xs = (let a = length-append xs [] in omega (arith, a))
  step_counts (Stmt-F.If at e met (Some other)) =
      before e (λ inside q. stmt env here other.0 inside (stmt env here met.0 inside q)) (length ((flow.part met.0).own ++ (flow.part other.0).own))
      (count_is (λ inside q. stmt env here other.0 inside (stmt env here met.0 inside q)) (length (flow.part met.0).own + length (flow.part other.0).own)
      (length ((flow.part met.0).own ++ (flow.part other.0).own)) (sym (length-append (flow.part met.0).own (flow.part other.0).own))
      (then_count (stmt env here met.0) (stmt env here other.0) (length (flow.part met.0).own) (length (flow.part other.0).own) met.1 other.1))
  step_counts (Stmt-F.While at e body) = before e (stmt env here body.0) (length (flow.part body.0).own) body.1
  step_counts (Stmt-F.Do at body e) = record {
    outer = λ q. ap length (expr_keeps e false (stmt env here body.0 false q)) ∙ body.1.outer q;
    inner = λ q. ap length (expr_keeps e true (stmt env here body.0 true q)) ∙ body.1.inner q;
  }
  step_counts (Stmt-F.For at start e next body) =
      count_is (λ inside q. stmt env here body.0 inside (head env here start e next inside q)) (0 + length (flow.part body.0).own) (length (flow.part body.0).own) (omega arith)
      (then_count (head env here start e next) (stmt env here body.0) 0 (length (flow.part body.0).own)
      (keeps_count (head env here start e next) (λ inside q.
      optional_expr next inside (optional (λ e. (part env here e).way) e inside (optional (λ e. (part env here e).way) start inside q))
      ∙ optional_expr e inside (optional (λ e. (part env here e).way) start inside q) ∙ optional_expr start inside q))
      body.1)
  step_counts (Stmt-F.Switch at e body) = before e (each (λ way. way) (map (stmt env here) (trees body))) (length (own_of (trees body))) (all_count body)
  step_counts (Stmt-F.Alt at body) = all_count body
  step_counts (Stmt-F.Case at e) = keeps_count (part env here e).way (expr_keeps e)
  step_counts (Stmt-F.Default at) = no_more
  step_counts (Stmt-F.Par at bodies) = branches_count bodies
  step_counts (Stmt-F.Rescue at name body) = marked at (stmt env here body.0) (length (flow.part body.0).own) body.1
  step_counts (Stmt-F.Raise at name) = no_more
  step_counts (Stmt-F.Return at e) = keeps_count (optional (λ e. (part env here e).way) e) (optional_expr e)
  step_counts (Stmt-F.Become at e) = keeps_count (part env here e).way (expr_keeps e)
  step_counts (Stmt-F.Break at count) = no_more
  step_counts (Stmt-F.Continue at count) = no_more
  step_counts (Stmt-F.Goto at name) = no_more
  step_counts (Stmt-F.Alloc at es) = keeps_count (each (λ e. (part env here e).way) es) (each_expr es)
  step_counts (Stmt-F.Unalloc at es) = keeps_count (each (λ e. (part env here e).way) es) (each_expr es)
  step_counts (Stmt-F.Check at e text) = keeps_count (part env here e).way (expr_keeps e)
  step_counts (Stmt-F.Proc at es) = keeps_count (each (λ e. (part env here e).way) es) (each_expr es)
  step_counts (Stmt-F.Task at es) = keeps_count (each (λ e. (part env here e).way) es) (each_expr es)

  by_parts : (y : Stmt-F Known) → Fine (roll-Stmt (stmt_of y))
  unfolding stmt flow.part
  by_parts y =
      let z = stmt_of y in
      subst (λ (way : Way). Counts way (length (flow.part (roll-Stmt z)).own)) (sym (fold-roll-Stmt Way (stmt_step env here) z))
      (subst (λ (p : flow.Part). Counts (stmt_step env here (map-Stmt Stmt Way (stmt env here) z)) (length p.own)) (sym (fold-roll-Stmt flow.Part flow.part_step z)) (step_counts y))

  statement_counts : (s : Stmt) → Fine s
  statement_counts = ind-Stmt Fine (λ x y is. subst (λ z. Fine (roll-Stmt z)) is (by_parts y))

  pub gathered_labels : (body : Stmt) → length (parts env here body).labels ≡ length (marks body)
  unfolding parts
  gathered_labels body = (statement_counts body).outer nothing ∙ none_before (length (marks body))
    where
      none_before : (n : ℕ) → 0 + n ≡ n
      none_before n = omega arith
