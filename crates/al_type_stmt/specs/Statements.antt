-- The typed statement of a tree, or the faults in it.
use Rattle.std.specs.Prelude.{ℕ, Bool, true, false, length, List, [], ◌∷◌, ◌++◌, map, filter, Option, Some, None}
use Rattle.std.specs.List.{flat_map}
use Rattle.al_base.specs.declared.place.Place.{Place}
use Rattle.al_base.specs.declared.arith.Kind.{Kind}
use Rattle.al_rules.specs.declared.fault.TypeFault.{TypeFault}
use Rattle.al_rules.specs.Outcome.{Outcome, Good, Bad, ask, judge, and_then, pair}
use Rattle.al_tree.specs.declared.expression.Expr.{Expr}
use Rattle.al_tree.specs.declared.statement.Variable.{Variable}
use Rattle.al_tree.specs.declared.statement.Stmt.{Stmt, fold-Stmt}
use Rattle.al_tree.specs.declared.statement.Stmt.TheOpen.{Stmt-F}
use Rattle.al_scope.specs.declared.declaration.Declaration.{Declaration}
use Rattle.al_scope.specs.declared.declaration.Declaration.TheVariants as declaration
use Rattle.al_scope.specs.Expressions.{place as expr_place}
use Rattle.al_scope.specs.Firsts.{declaration_at}
use Rattle.al_flow.specs.Targets.{number_at as target_at}
use Rattle.al_typed.specs.declared.expression.TExpr.{TExpr}
use Rattle.al_typed.specs.declared.expression.TPlace.{TPlace}
use Rattle.al_typed.specs.declared.statement.TInitializer.{TInitializer}
use Rattle.al_typed.specs.declared.statement.TStmt.{TStmt, Case, Default, AltCase}
use Rattle.al_typed.specs.declared.statement.TStmt.TheVariants as stmt
use Rattle.al_typed.specs.Typed.{type_of}
use Rattle.al_convert.specs.Kinds.{kind_of}
use Rattle.al_environment.specs.declared.environment.Environment.{Environment}
use Rattle.al_environment.specs.declared.environment.Here.{Here}
use Rattle.al_environment.specs.declared.environment.Variable.{Variable as Known}
use Rattle.al_environment.specs.Firsts.{number_at}
use Rattle.al_environment.specs.Lookups.{local}
use Rattle.al_operands.specs.declared.operand.Operand.{Operand}
use Rattle.al_operators.specs.Operators.{condition}
use Rattle.al_type_expr.specs.Lists.{each}
use Rattle.al_type_expr.specs.Nodes.{node, found, value_of, dropped_value, place_in}
use Rattle.al_statements.specs.declared.cases.Cases.{Cases}
use Rattle.al_statements.specs.declared.label.Label.{Label}
use Rattle.al_statements.specs.declared.label.Label.TheVariants as label
use Rattle.al_statements.specs.Parts.{initialized, allocated, given_back, returned, became, started, switched}
use Rattle.al_statements.specs.Cases.{case_label, alt_case, case_faults, no_cases, with_label, label_fault}
use Rattle.al_type_stmt.specs.declared.within.Within.{Within}
use Rattle.al_type_stmt.specs.declared.within.Choice.{Choice}
use Rattle.al_type_stmt.specs.declared.within.Choice.TheVariants as choice
use Rattle.al_type_stmt.specs.Iterators.{value_statement}
use Rattle.al_type_stmt.specs.Numbers.{number_of}

-- ---- lists in statements

-- each of these, or the faults of all
abbrev pub of_each : {A B : Type 0} → (A → Outcome B) → List A → Outcome (List B)
of_each f xs = each (map f xs)

-- a part that may be missing
abbrev pub optional : {A B : Type 0} → (A → Outcome B) → Option A → Outcome (Option B)
optional f None = Good None
optional f (Some x) = and_then (f x) (λ y. Good (Some y))

-- ---- the labels of a switch

-- the label that a statement is
unfoldable pub label_of : TStmt → Option Label
label_of (Case e bits) = Some (label.Case bits)
label_of Default = Some label.Default
label_of _ = None

abbrev pub fault_of : Cases → Place → Option Label → List TypeFault
fault_of c at None = []
fault_of c at (Some l) = label_fault c at l

abbrev pub behind : Cases → Option Label → Cases
behind c None = c
behind c (Some l) = with_label c l

-- 52. Cases are distinct, and there is at most one default.
unfoldable pub label_faults : Cases → List Place → List TStmt → List TypeFault
label_faults c [] ss = []
label_faults c (at ∷ ats) [] = []
label_faults c (at ∷ ats) (s ∷ ss) = fault_of c at (label_of s) ++ label_faults (behind c (label_of s)) ats ss

-- ---- the cases of an alt

unfoldable pub is_alt_case : TStmt → Bool
is_alt_case (AltCase c) = true
is_alt_case _ = false

abbrev pub alt_cases : List TStmt → ℕ
alt_cases ss = length (filter is_alt_case ss)

-- ---- what a statement gives

-- what a statement gives where it stands directly in the body of a switch or an alt, or elsewhere
abbrev pub Way : Type 0
Way = Choice → Outcome TStmt

pub record Part : Type 0 where
  pub at : Place
  pub way : Way

abbrev pub in_choice : Choice → Part → Outcome TStmt
in_choice c p = p.way c

abbrev pub inner : Part → Outcome TStmt
inner = in_choice choice.Neither

abbrev pub places : List Part → List Place
places ps = map (λ (p : Part). p.at) ps

-- ---- switch and alt, once their values are typed

-- the faults that a switch breaks itself
abbrev pub labelled : ℕ → List Place → TExpr → List TStmt → Outcome TStmt
labelled line ats v ss = judge (label_faults no_cases ats ss) (stmt.Switch line v ss)

unfoldable pub switch_in : ℕ → List Part → TExpr → Kind → Outcome TStmt
switch_in line ps v k = and_then (of_each (in_choice (choice.Switch k)) ps) (labelled line (places ps) v)

abbrev pub switch_of : Place → List Part → TExpr → Option Kind → Outcome TStmt
switch_of at ps v None = Bad (ask 56 at false)
switch_of at ps v (Some k) = switch_in at.line ps v k

unfoldable pub switch_on : Place → List Part → TExpr → Outcome TStmt
switch_on at ps v = switch_of at ps v (kind_of (type_of v))

-- the place of its first token
abbrev pub at_step : Stmt-F Part → Place
at_step (Stmt-F.Empty at) = at
at_step (Stmt-F.Block at body) = at
at_step (Stmt-F.Declare at base variables) = at
at_step (Stmt-F.Value at e) = at
at_step (Stmt-F.Label at name body) = at
at_step (Stmt-F.If at e met other) = at
at_step (Stmt-F.While at e body) = at
at_step (Stmt-F.Do at body e) = at
at_step (Stmt-F.For at start e next body) = at
at_step (Stmt-F.Switch at e body) = at
at_step (Stmt-F.Alt at body) = at
at_step (Stmt-F.Case at e) = at
at_step (Stmt-F.Default at) = at
at_step (Stmt-F.Par at branches) = at
at_step (Stmt-F.Rescue at name body) = at
at_step (Stmt-F.Raise at name) = at
at_step (Stmt-F.Return at e) = at
at_step (Stmt-F.Become at e) = at
at_step (Stmt-F.Break at count) = at
at_step (Stmt-F.Continue at count) = at
at_step (Stmt-F.Goto at name) = at
at_step (Stmt-F.Alloc at es) = at
at_step (Stmt-F.Unalloc at es) = at
at_step (Stmt-F.Check at e text) = at
at_step (Stmt-F.Proc at es) = at
at_step (Stmt-F.Task at es) = at

unfoldable pub if_made : Place → Outcome TExpr → Outcome TStmt → Outcome (Option TStmt) → Outcome TStmt
if_made at condition met other = and_then (pair condition (pair met other)) (λ p. Good (stmt.If at.line p.0 p.1.0 p.1.1))

module _ (env : Environment) (here : Here) where
  -- 27. A condition is an integer, pointer or channel.
  unfoldable pub condition_of : Expr → Outcome TExpr
  condition_of e = and_then (value_of env here e) (condition (expr_place e))

  -- ---- declarations

  -- the local that a name declares
  abbrev pub local_at : Option Declaration → Option Known
  local_at (Some (declaration.Local n)) = local here n
  local_at _ = None

  unfoldable pub local_named : Place → Option Known
  local_named at = local_at (declaration_at env.scopes.names at)

  abbrev pub initializer : Known → TExpr → TInitializer
  initializer v e = record { local = v.number; value = e }

  unfoldable pub known_initializer : Place → Expr → Known → Outcome TInitializer
  known_initializer at e v = and_then (and_then (value_of env here e) (initialized at v.ty)) (λ t. Good (initializer v t))

  abbrev pub initializer_for : Place → Expr → Option Known → Outcome TInitializer
  initializer_for at e None = Bad (ask 1 at false)
  initializer_for at e (Some v) = known_initializer at e v

  unfoldable pub initializer_of : Place → Expr → Outcome TInitializer
  initializer_of at e = initializer_for at e (local_named at)

  -- the value that a local starts with, where it is given one
  abbrev pub started_with : Place → Option Expr → List (Outcome TInitializer)
  started_with at None = []
  started_with at (Some e) = initializer_of at e ∷ []

  abbrev pub initializers : Variable → List (Outcome TInitializer)
  initializers v = started_with v.dcl.name.at v.value

  unfoldable pub declared : ℕ → List Variable → Outcome TStmt
  declared line vs = and_then (each (flat_map initializers vs)) (λ xs. Good (stmt.Declare line xs))

  -- ---- what is in lists behind a word

  unfoldable pub alloc_place : Expr → Outcome TPlace
  alloc_place e = and_then (place_in (expr_place e) (node env here e)) (allocated env.aggregates (expr_place e))

  unfoldable pub unalloc_value : Expr → Outcome TExpr
  unalloc_value e = and_then (value_of env here e) (given_back (expr_place e))

  unfoldable pub start_of : Expr → Outcome TExpr
  start_of e = and_then (dropped_value env here e) (started (expr_place e))

  unfoldable pub alloc_at : Place → List Expr → Outcome TStmt
  alloc_at at es = and_then (of_each alloc_place es) (λ ps. Good (stmt.Alloc at.line ps))

  unfoldable pub unalloc_at : Place → List Expr → Outcome TStmt
  unalloc_at at es = and_then (of_each unalloc_value es) (λ vs. Good (stmt.Unalloc at.line vs))

  unfoldable pub proc_at : Place → List Expr → Outcome TStmt
  proc_at at es = and_then (of_each start_of es) (λ vs. Good (stmt.Proc at.line vs))

  unfoldable pub task_at : Place → List Expr → Outcome TStmt
  task_at at es = and_then (of_each start_of es) (λ vs. Good (stmt.Task at.line vs))

  unfoldable pub check_at : Place → Expr → Outcome TStmt
  check_at at e = and_then (condition_of e) (λ v. Good (stmt.Check at.line v))

  -- ---- choices and loops, of statements in them

  unfoldable pub while_at : Place → Expr → Outcome TStmt → Outcome TStmt
  while_at at e body = and_then (pair (condition_of e) body) (λ p. Good (stmt.While at.line p.0 p.1))

  unfoldable pub do_at : Place → Outcome TStmt → Expr → Outcome TStmt
  do_at at body e = and_then (pair body (condition_of e)) (λ p. Good (stmt.Do at.line p.0 p.1))

  -- what stands between the parentheses of a for
  abbrev pub for_rest : Option Expr → Option Expr → Outcome (Option TExpr × Option TExpr)
  for_rest e next = pair (optional condition_of e) (optional (dropped_value env here) next)

  abbrev pub for_head : Option Expr → Option Expr → Option Expr → Outcome (Option TExpr × (Option TExpr × Option TExpr))
  for_head start e next = pair (optional (dropped_value env here) start) (for_rest e next)

  unfoldable pub for_at : Place → Option Expr → Option Expr → Option Expr → Outcome TStmt → Outcome TStmt
  for_at at start e next body =
      and_then (pair (for_head start e next) body) (λ p. Good (stmt.For at.line p.0.0 p.0.1.0 p.0.1.1 p.1))

  -- ---- switch and alt

  abbrev pub switch_case_at : Kind → Place → Expr → Outcome TStmt
  switch_case_at k at e = and_then (value_of env here e) (case_label env.aggregates k at)

  abbrev pub alt_case_at : Place → Expr → Outcome TStmt
  alt_case_at at e = and_then (dropped_value env here e) (alt_case at)

  unfoldable pub case_at : Place → Expr → Way
  case_at at e choice.Neither = Bad (ask 52 at false)
  case_at at e (choice.Switch k) = switch_case_at k at e
  case_at at e choice.Alt = alt_case_at at e

  unfoldable pub switch_at : Place → Expr → List Part → Outcome TStmt
  switch_at at e ps = and_then (and_then (value_of env here e) (switched at)) (switch_on at ps)

-- ---- statements of other statements alone

unfoldable pub default_at : Place → Way
default_at at choice.Neither = Bad (ask 52 at false)
default_at at (choice.Switch k) = Good stmt.Default
default_at at choice.Alt = Bad (ask 53 at false)

unfoldable pub block_at : Place → List Part → Outcome TStmt
block_at at body = and_then (of_each inner body) (λ ss. Good (stmt.Block at.line ss))

abbrev pub alt_of : Place → List TStmt → Outcome TStmt
alt_of at ss = judge (case_faults at (alt_cases ss)) (stmt.Alt at.line ss)

unfoldable pub alt_at : Place → List Part → Outcome TStmt
alt_at at ps = and_then (of_each (in_choice choice.Alt) ps) (alt_of at)

module _ (w : Within) where
  -- ---- what has a number by its place

  abbrev pub target : ℕ → Place → Outcome ℕ
  target rule at = number_of rule at (target_at w.targets at)

  unfoldable pub label_at : Place → Outcome TStmt → Outcome TStmt
  label_at at body = and_then (pair body (target 50 at)) (λ p. Good (stmt.Label at.line p.1 p.0))

  unfoldable pub rescue_at : Place → Outcome TStmt → Outcome TStmt
  rescue_at at body = and_then (pair body (target 51 at)) (λ p. Good (stmt.Rescue at.line p.1 p.0))

  unfoldable pub raise_at : Place → Outcome TStmt
  raise_at at = and_then (target 51 at) (λ n. Good (stmt.Raise at.line n))

  unfoldable pub break_at : Place → Outcome TStmt
  break_at at = and_then (target 49 at) (λ n. Good (stmt.Break at.line n))

  unfoldable pub continue_at : Place → Outcome TStmt
  continue_at at = and_then (target 49 at) (λ n. Good (stmt.Continue at.line n))

  unfoldable pub goto_at : Place → Outcome TStmt
  goto_at at = and_then (target 50 at) (λ n. Good (stmt.Goto at.line n))

  -- ---- par

  -- the function that a branch is
  abbrev pub branch_number : Place → Option ℕ → Outcome ℕ
  branch_number at None = Bad (ask 54 at false)
  branch_number at (Some n) = Good n

  unfoldable pub branch_at : Place → Outcome ℕ
  branch_at at = branch_number at (number_at w.branches at)

  unfoldable pub par_at : Place → List Place → Outcome TStmt
  par_at at ats = and_then (of_each branch_at ats) (λ ns. Good (stmt.Par at.line ns))

  -- ---- returns

  abbrev pub returns : Place → Option Operand → Outcome TStmt
  returns at x = and_then (returned at w.returns x) (λ v. Good (stmt.Return at.line v))

  module _ (env : Environment) (here : Here) where
    unfoldable pub return_at : Place → Option Expr → Outcome TStmt
    return_at at e = and_then (optional (value_of env here) e) (returns at)

    unfoldable pub become_at : Place → Expr → Outcome TStmt
    become_at at e = and_then (found env here e) (became env.aggregates at.line at w.returns (expr_place e))

    -- ---- every statement

    abbrev pub way_step : Stmt-F Part → Way
    way_step (Stmt-F.Empty at) c = Good (stmt.Empty at.line)
    way_step (Stmt-F.Block at body) c = block_at at body
    way_step (Stmt-F.Declare at base variables) c = declared env here at.line variables
    way_step (Stmt-F.Value at e) c = value_statement env here at.line e
    way_step (Stmt-F.Label at name body) c = label_at at (inner body)
    way_step (Stmt-F.If at e met other) c = if_made at (condition_of env here e) (inner met) (optional inner other)
    way_step (Stmt-F.While at e body) c = while_at env here at e (inner body)
    way_step (Stmt-F.Do at body e) c = do_at env here at (inner body) e
    way_step (Stmt-F.For at start e next body) c = for_at env here at start e next (inner body)
    way_step (Stmt-F.Switch at e body) c = switch_at env here at e body
    way_step (Stmt-F.Alt at body) c = alt_at at body
    way_step (Stmt-F.Case at e) c = case_at env here at e c
    way_step (Stmt-F.Default at) c = default_at at c
    way_step (Stmt-F.Par at branches) c = par_at at (places branches)
    way_step (Stmt-F.Rescue at name body) c = rescue_at at (inner body)
    way_step (Stmt-F.Raise at name) c = raise_at at
    way_step (Stmt-F.Return at e) c = return_at at e
    way_step (Stmt-F.Become at e) c = become_at at e
    way_step (Stmt-F.Break at count) c = break_at at
    way_step (Stmt-F.Continue at count) c = continue_at at
    way_step (Stmt-F.Goto at name) c = goto_at at
    way_step (Stmt-F.Alloc at es) c = alloc_at env here at es
    way_step (Stmt-F.Unalloc at es) c = unalloc_at env here at es
    way_step (Stmt-F.Check at e text) c = check_at env here at e
    way_step (Stmt-F.Proc at es) c = proc_at env here at es
    way_step (Stmt-F.Task at es) c = task_at env here at es

    abbrev pub part_step : Stmt-F Part → Part
    part_step s = record { at = at_step s; way = way_step s }

    unfoldable pub part : Stmt → Part
    part = fold-Stmt Part part_step

    -- a statement that stands elsewhere than directly in the body of a switch or an alt
    abbrev pub statement : Stmt → Outcome TStmt
    statement s = inner (part s)
