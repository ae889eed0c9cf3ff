-- Statements with statements in them, and what has a number by its place.
use Rattle.std.proofs.Common.{◌≡◌, ℕ, ◌+◌, true, false, List, [], ◌∷◌, length, Option, Some, None, refl}
use Rattle.std.specs.Prelude.{nat_le, ⊤}
use Rattle.al_base.specs.declared.arith.Kind.{Kind}
use Rattle.al_base.specs.declared.place.Place.{Place}
use Rattle.al_rules.specs.Outcome.{Outcome, Good, Bad, and_then, ask, pair}
use Rattle.al_tree.specs.declared.expression.Expr.{Expr}
use Rattle.al_tree.specs.declared.statement.Stmt.TheOpen.{Stmt-F}
use Rattle.al_flow.specs.Targets.{number_at as target_at}
use Rattle.al_typed.specs.declared.expression.TExpr.{TExpr}
use Rattle.al_typed.specs.declared.statement.TStmt.{TStmt}
use Rattle.al_typed.specs.declared.statement.TStmt.TheVariants as stmt
use Rattle.al_typed.specs.Typed.{type_of}
use Rattle.al_typed.specs.WellTyped.{AreBranches, AreRound, IsCondition, IsLabel, IsOptionalCondition, IsOptionalValue, IsRescue, IsReturned, IsStatement, Nest, Scope, is_sound, rows}
use Rattle.al_typed.proofs.StatementRules as rules
use Rattle.al_convert.specs.Kinds.{kind_of}
use Rattle.al_environment.specs.declared.environment.Environment.{Environment}
use Rattle.al_environment.specs.declared.environment.Here.{Here}
use Rattle.al_type_expr.specs.Nodes.{dropped_value, value_of}
use Rattle.al_statements.specs.Parts.{switched}
use Rattle.al_statements.specs.Cases.{no_cases}
use Rattle.al_type_stmt.specs.declared.within.Within.{Within}
use Rattle.al_type_stmt.specs.declared.within.Choice.{Choice}
use Rattle.al_type_stmt.specs.declared.within.Choice.TheVariants as choice
use Rattle.al_type_stmt.specs.Numbers.{number_of}
use Rattle.al_type_stmt.specs.Statements.{Part, alt_at, alt_of, block_at, branch_at, break_at, condition_of, continue_at, do_at, for_at, for_head, for_rest, goto_at, if_made, in_choice, inner, label_at, label_faults, labelled, of_each, optional, par_at, places, raise_at, rescue_at, switch_at, switch_in, switch_of, switch_on, target, way_step, while_at}
use Rattle.al_sound_operators.specs.Typed.{IfGood, IsOperand, IsTyped}
use Rattle.al_sound_nodes.specs.Nodes.{Tells}
use Rattle.al_sound_expressions.specs.Expressions.{Every}
use Rattle.al_sound_statements.specs.Statements.{EachInside, IfThere, IsFitAt, IsFitExpr, IsPart, nest_of}
use Rattle.al_sound_operators.proofs.Outcomes.{after, paired, where_good}
use Rattle.al_sound_statements.proofs.StatementLists.{AreMany, anything, if_either, judged_any, of_each_is, optional_is}
use Rattle.al_sound_statements.proofs.Known.{Laws}
use Rattle.al_sound_statements.proofs.SimpleStatements.{alloc_is, become_is, check_is, condition_is, declared_is, dropped_is, proc_is, return_is, task_is, unalloc_is, value_is}
use Rattle.al_sound_statements.proofs.CasesAre.{IsSwitched, alt_of_is, case_is, default_is, switched_is, switched_kind}
use Rattle.al_sound_statements.proofs.IteratorsIn.{value_statement_is}

-- ---- lists and options

each_statement : (s : Scope) (n : Nest) (xs : List TStmt) → Every (IsStatement s n) xs → rules.EachStatement s n xs
each_statement s n [] h = tt
each_statement s n (x ∷ xs) h = (h.0, each_statement s n xs h.1)

other_is : (s : Scope) (number b l : ℕ) (c : Choice) (o : Option TStmt) → IfThere (IsStatement s (nest_of number b l choice.Neither)) o → rules.IsElse s (nest_of number b l c) o
other_is s number b l c None h = tt
other_is s number b l c (Some x) h = h

optional_value : (s : Scope) (o : Option TExpr) → IfThere (IsTyped s) o → IsOptionalValue s o
optional_value s None h = tt
optional_value s (Some x) h = h.value

optional_condition : (s : Scope) (o : Option TExpr) → IfThere (IsCondition s) o → IsOptionalCondition s o
optional_condition s None h = tt
optional_condition s (Some x) h = h

-- ---- numbers by places

numbered_is : (P : ℕ → Type 0) (rule : ℕ) (at : Place) (o : Option ℕ) → ((n : ℕ) → o ≡ Some n → P n) → IfGood (number_of rule at o) P
numbered_is P rule at None h = tt
numbered_is P rule at (Some n) h = if_either P (nat_le n 4294967295) (Good n) (Bad (ask rule at false)) (h n refl) tt

-- ---- statements

module _ (law : Laws) (s : Scope) (number : ℕ) (w : Within) (env : Environment) (here : Here) (tells : Tells s env here) (b l : ℕ) (c : Choice) where
  abbrev At : ℕ → ℕ → Choice → TStmt → Type 0
  At b l c = IsStatement s (nest_of number b l c)

  abbrev Own : TStmt → Type 0
  Own = At b l c

  -- a statement in this one
  abbrev Inner : TStmt → Type 0
  Inner = At b l choice.Neither

  abbrev InLoop : TStmt → Type 0
  InLoop = At (b + 1) (l + 1) choice.Neither

  abbrev Fit : Expr → Type 0
  Fit = IsFitExpr s env here

  condition_at : (e : Expr) → Fit e → IfGood (condition_of env here e) (IsCondition s)
  condition_at e f = condition_is law s (nest_of number b l c) env here tells e f

  block_is : (at : Place) (ps : List Part) → Every (IsPart s number b l) ps → IfGood (block_at at ps) Own
  unfolding block_at
  block_is at ps h =
      after (AreMany Inner (length ps)) Own (of_each inner ps) (λ ss. Good (stmt.Block at.line ss)) (of_each_is (IsPart s number b l) Inner inner ps h (λ p q. q choice.Neither))
      (λ ss q. rw (rules.IsStatement-Block s (nest_of number b l c) at.line ss) (each_statement s (nest_of number b l choice.Neither) ss q.0))

  label_is : (at : Place) (o : Outcome TStmt) → IfGood o Inner → IfGood (label_at w at o) Own
  unfolding label_at
  label_is at o h =
      after (λ (p : TStmt × ℕ). Inner p.0 × ⊤) Own (pair o (target w 50 at)) (λ p. Good (stmt.Label at.line p.1 p.0))
      (paired Inner (λ (k : ℕ). ⊤) o (target w 50 at) h (anything (target w 50 at)))
      (λ p q. rw (rules.IsStatement-Label s (nest_of number b l c) at.line p.1 p.0) q.0)

  rescue_is : (at : Place) (o : Outcome TStmt) → IfGood o Inner → IfGood (rescue_at w at o) Own
  unfolding rescue_at
  rescue_is at o h =
      after (λ (p : TStmt × ℕ). Inner p.0 × ⊤) Own (pair o (target w 51 at)) (λ p. Good (stmt.Rescue at.line p.1 p.0))
      (paired Inner (λ (k : ℕ). ⊤) o (target w 51 at) h (anything (target w 51 at)))
      (λ p q. rw (rules.IsStatement-Rescue s (nest_of number b l c) at.line p.1 p.0) q.0)

  if_is : (at : Place) (e : Expr) → Fit e → (met : Outcome TStmt) → IfGood met Inner → (other : Outcome (Option TStmt)) → IfGood other (IfThere Inner)
      → IfGood (if_made at (condition_of env here e) met other) Own
  unfolding if_made
  if_is at e f met h other k =
      after (λ (p : TExpr × (TStmt × Option TStmt)). IsCondition s p.0 × (Inner p.1.0 × IfThere Inner p.1.1)) Own (pair (condition_of env here e) (pair met other))
      (λ p. Good (stmt.If at.line p.0 p.1.0 p.1.1))
      (paired (IsCondition s) (λ (p : TStmt × Option TStmt). Inner p.0 × IfThere Inner p.1) (condition_of env here e) (pair met other) (condition_at e f)
      (paired Inner (IfThere Inner) met other h k))
      (λ p q. rw (rules.IsStatement-If s (nest_of number b l c) at.line p.0 p.1.0 p.1.1) ((q.0, (q.1.0, other_is s number b l c p.1.1 q.1.1))))

  while_is : (at : Place) (e : Expr) → Fit e → (body : Outcome TStmt) → IfGood body InLoop → IfGood (while_at env here at e body) Own
  unfolding while_at
  while_is at e f body h =
      after (λ (p : TExpr × TStmt). IsCondition s p.0 × InLoop p.1) Own (pair (condition_of env here e) body) (λ p. Good (stmt.While at.line p.0 p.1))
      (paired (IsCondition s) InLoop (condition_of env here e) body (condition_at e f) h)
      (λ p q. rw (rules.IsStatement-While s (nest_of number b l c) at.line p.0 p.1) q)

  do_is : (at : Place) (e : Expr) → Fit e → (body : Outcome TStmt) → IfGood body InLoop → IfGood (do_at env here at body e) Own
  unfolding do_at
  do_is at e f body h =
      after (λ (p : TStmt × TExpr). InLoop p.0 × IsCondition s p.1) Own (pair body (condition_of env here e)) (λ p. Good (stmt.Do at.line p.0 p.1))
      (paired InLoop (IsCondition s) body (condition_of env here e) h (condition_at e f))
      (λ p q. rw (rules.IsStatement-Do s (nest_of number b l c) at.line p.0 p.1) q)

  dropped_there : (o : Option Expr) → IfThere Fit o → IfGood (optional (dropped_value env here) o) (IfThere (IsTyped s))
  dropped_there o f = optional_is Fit (IsTyped s) (dropped_value env here) o f (dropped_is law s (nest_of number b l c) env here tells)

  condition_there : (o : Option Expr) → IfThere Fit o → IfGood (optional (condition_of env here) o) (IfThere (IsCondition s))
  condition_there o f = optional_is Fit (IsCondition s) (condition_of env here) o f condition_at

  for_is : (at : Place) (start e next : Option Expr) → IfThere Fit start → IfThere Fit e → IfThere Fit next → (body : Outcome TStmt) → IfGood body InLoop
      → IfGood (for_at env here at start e next body) Own
  unfolding for_at
  for_is at start e next f g k body h =
      after (λ (p : (Option TExpr × (Option TExpr × Option TExpr)) × TStmt). (IfThere (IsTyped s) p.0.0 × (IfThere (IsCondition s) p.0.1.0 × IfThere (IsTyped s) p.0.1.1)) × InLoop p.1) Own
      (pair (for_head env here start e next) body) (λ p. Good (stmt.For at.line p.0.0 p.0.1.0 p.0.1.1 p.1))
      (paired (λ (p : Option TExpr × (Option TExpr × Option TExpr)). IfThere (IsTyped s) p.0 × (IfThere (IsCondition s) p.1.0 × IfThere (IsTyped s) p.1.1)) InLoop
      (for_head env here start e next) body
      (paired (IfThere (IsTyped s)) (λ (p : Option TExpr × Option TExpr). IfThere (IsCondition s) p.0 × IfThere (IsTyped s) p.1) (optional (dropped_value env here) start) (for_rest env here e next)
      (dropped_there start f)
      (paired (IfThere (IsCondition s)) (IfThere (IsTyped s)) (optional (condition_of env here) e) (optional (dropped_value env here) next) (condition_there e g) (dropped_there next k)))
      h)
      (λ p q. rw (rules.IsStatement-For s (nest_of number b l c) at.line p.0.0 p.0.1.0 p.0.1.1 p.1)
      ((optional_value s p.0.0 q.0.0, (optional_condition s p.0.1.0 q.0.1.0, (optional_value s p.0.1.1 q.0.1.1, q.1)))))

  -- ---- switch and alt

  switch_in_is : (line : ℕ) (ps : List Part) (v : TExpr) (k : Kind) → Every (IsPart s number (b + 1) l) ps → IsSwitched s v → kind_of (type_of v) ≡ Some k → IfGood (switch_in line ps v k) Own
  unfolding switch_in
  switch_in_is line ps v k h a q =
      let i = switched_kind s v k a q in
      after (AreMany (At (b + 1) l (choice.Switch k)) (length ps)) Own (of_each (in_choice (choice.Switch k)) ps) (labelled line (places ps) v)
      (of_each_is (IsPart s number (b + 1) l) (At (b + 1) l (choice.Switch k)) (in_choice (choice.Switch k)) ps h (λ p r. r (choice.Switch k)))
      (λ ss r. judged_any Own (label_faults no_cases (places ps) ss) (stmt.Switch line v ss)
      (rw (rules.IsStatement-Switch s (nest_of number b l c) line v ss)
      ((i.0, (k, (i.1.0, (i.1.1, each_statement s (nest_of number (b + 1) l (choice.Switch k)) ss r.0)))))))

  switch_on_is : (at : Place) (ps : List Part) (v : TExpr) → Every (IsPart s number (b + 1) l) ps → IsSwitched s v → IfGood (switch_on at ps v) Own
  unfolding switch_on
  switch_on_is at ps v h a = on (kind_of (type_of v)) refl
    where
      on : (o : Option Kind) → kind_of (type_of v) ≡ o → IfGood (switch_of at ps v o) Own
      on None q = tt
      on (Some k) q = switch_in_is at.line ps v k h a q

  switch_is : (at : Place) (e : Expr) (ps : List Part) → Fit e → Every (IsPart s number (b + 1) l) ps → IfGood (switch_at env here at e ps) Own
  unfolding switch_at
  switch_is at e ps f h =
      after (IsSwitched s) Own (and_then (value_of env here e) (switched at)) (switch_on at ps)
      (after (IsOperand s) (IsSwitched s) (value_of env here e) (switched at) (value_is law s (nest_of number b l c) env here tells e f) (λ x o. switched_is law s at x o))
      (λ v a. switch_on_is at ps v h a)

  alt_is : (at : Place) (ps : List Part) → Every (IsPart s number (b + 1) l) ps → IfGood (alt_at at ps) Own
  unfolding alt_at
  alt_is at ps h =
      after (AreMany (At (b + 1) l choice.Alt) (length ps)) Own (of_each (in_choice choice.Alt) ps) (alt_of at)
      (of_each_is (IsPart s number (b + 1) l) (At (b + 1) l choice.Alt) (in_choice choice.Alt) ps h (λ p r. r choice.Alt))
      (λ ss r. alt_of_is s number b l c at ss (each_statement s (nest_of number (b + 1) l choice.Alt) ss r.0))

  -- ---- jumps and par

  abbrev HasTarget : Place → (ℕ → Type 0) → Type 0
  HasTarget at P = (n : ℕ) → target_at w.targets at ≡ Some n → P n

  raise_is : (at : Place) → HasTarget at (IsRescue s.names) → IfGood (raise_at w at) Own
  unfolding raise_at
  raise_is at h =
      after (IsRescue s.names) Own (target w 51 at) (λ n. Good (stmt.Raise at.line n)) (numbered_is (IsRescue s.names) 51 at (target_at w.targets at) h)
      (λ n q. rw (rules.IsStatement-Raise s (nest_of number b l c) at.line n) q)

  goto_is : (at : Place) → HasTarget at (IsLabel s.names) → IfGood (goto_at w at) Own
  unfolding goto_at
  goto_is at h =
      after (IsLabel s.names) Own (target w 50 at) (λ n. Good (stmt.Goto at.line n)) (numbered_is (IsLabel s.names) 50 at (target_at w.targets at) h)
      (λ n q. rw (rules.IsStatement-Goto s (nest_of number b l c) at.line n) q)

  break_is : (at : Place) → HasTarget at (λ n. AreRound s.names n b) → IfGood (break_at w at) Own
  unfolding break_at
  break_is at h =
      after (λ n. AreRound s.names n b) Own (target w 49 at) (λ n. Good (stmt.Break at.line n)) (numbered_is (λ n. AreRound s.names n b) 49 at (target_at w.targets at) h)
      (λ n q. rw (rules.IsStatement-Break s (nest_of number b l c) at.line n) q)

  continue_is : (at : Place) → HasTarget at (λ n. AreRound s.names n l) → IfGood (continue_at w at) Own
  unfolding continue_at
  continue_is at h =
      after (λ n. AreRound s.names n l) Own (target w 49 at) (λ n. Good (stmt.Continue at.line n)) (numbered_is (λ n. AreRound s.names n l) 49 at (target_at w.targets at) h)
      (λ n q. rw (rules.IsStatement-Continue s (nest_of number b l c) at.line n) q)

  par_is : (at : Place) (ps : List Part) → ((ns : List ℕ) → of_each (branch_at w) (places ps) ≡ Good ns → AreBranches s.names number ns) → IfGood (par_at w at (places ps)) Own
  unfolding par_at
  par_is at ps h =
      after (AreBranches s.names number) Own (of_each (branch_at w) (places ps)) (λ ns. Good (stmt.Par at.line ns))
      (where_good (AreBranches s.names number) (of_each (branch_at w) (places ps)) h)
      (λ ns q. rw (rules.IsStatement-Par s (nest_of number b l c) at.line ns) q)

  -- ---- each statement

  module _ (is : IsReturned s.names w.returns) (sound : is_sound (rows s) w.returns ≡ true) where
    pub way_is : (z : Stmt-F Part) → EachInside (IsPart s number) b l z → IsFitAt s number w env here b l z → IfGood (way_step w env here z c) Own
    way_is (Stmt-F.Empty at) h k = rw (rules.IsStatement-Empty s (nest_of number b l c) at.line) tt
    way_is (Stmt-F.Block at body) h k = block_is at body h
    way_is (Stmt-F.Declare at base variables) h k = declared_is law s (nest_of number b l c) env here tells at.line variables k
    way_is (Stmt-F.Value at e) h k = value_statement_is law s (nest_of number b l c) env here tells at.line e k
    way_is (Stmt-F.Label at name body) h k = label_is at (inner body) (h choice.Neither)
    way_is (Stmt-F.If at e met other) h k =
        if_is at e k (inner met) (h.0 choice.Neither) (optional inner other) (optional_is (IsPart s number b l) Inner inner other h.1 (λ p q. q choice.Neither))
    way_is (Stmt-F.While at e body) h k = while_is at e k (inner body) (h choice.Neither)
    way_is (Stmt-F.Do at body e) h k = do_is at e k (inner body) (h choice.Neither)
    way_is (Stmt-F.For at start e next body) h k = for_is at start e next k.0 k.1.0 k.1.1 (inner body) (h choice.Neither)
    way_is (Stmt-F.Switch at e body) h k = switch_is at e body k h
    way_is (Stmt-F.Alt at body) h k = alt_is at body h
    way_is (Stmt-F.Case at e) h k = case_is law s number b l env here tells at e k c
    way_is (Stmt-F.Default at) h k = default_is law s number b l at c
    way_is (Stmt-F.Par at branches) h k = par_is at branches k
    way_is (Stmt-F.Rescue at name body) h k = rescue_is at (inner body) (h choice.Neither)
    way_is (Stmt-F.Raise at name) h k = raise_is at k
    way_is (Stmt-F.Return at e) h k = return_is law s (nest_of number b l c) env here tells w is sound at e k
    way_is (Stmt-F.Become at e) h k = become_is law s (nest_of number b l c) env here tells w is sound at e k.0 k.1
    way_is (Stmt-F.Break at count) h k = break_is at k
    way_is (Stmt-F.Continue at count) h k = continue_is at k
    way_is (Stmt-F.Goto at name) h k = goto_is at k
    way_is (Stmt-F.Alloc at es) h k = alloc_is law s (nest_of number b l c) env here tells at es k
    way_is (Stmt-F.Unalloc at es) h k = unalloc_is law s (nest_of number b l c) env here tells at es k
    way_is (Stmt-F.Check at e text) h k = check_is law s (nest_of number b l c) env here tells at e k
    way_is (Stmt-F.Proc at es) h k = proc_is law s (nest_of number b l c) env here tells at es k
    way_is (Stmt-F.Task at es) h k = task_is law s (nest_of number b l c) env here tells at es k
