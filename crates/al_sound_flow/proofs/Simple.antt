-- What a tree of a statement without statements in it gives has no label and no rescue.
use Rattle.std.proofs.Common.{ℕ, List, [], Option, Some, None, refl}
use Rattle.std.specs.Prelude.{⊤}
use Rattle.al_base.specs.declared.arith.Kind.{Kind}
use Rattle.al_base.specs.declared.place.Place.{Place}
use Rattle.al_rules.specs.Outcome.{Outcome, Good, and_then}
use Rattle.al_tree.specs.declared.expression.Expr.{Expr}
use Rattle.al_tree.specs.declared.statement.Variable.{Variable}
use Rattle.al_typed.specs.declared.ty.Ty.{Ty}
use Rattle.al_typed.specs.declared.expression.TExpr.{TExpr}
use Rattle.al_typed.specs.declared.expression.TPlace.{TPlace}
use Rattle.al_typed.specs.declared.statement.TBounds.{TBounds}
use Rattle.al_typed.specs.declared.statement.TInitializer.{TInitializer}
use Rattle.al_typed.specs.declared.program.Aggregate.{Aggregate}
use Rattle.al_typed.specs.declared.statement.TCommunication.{TCommunication}
use Rattle.al_typed.specs.declared.statement.TStmt.{TStmt}
use Rattle.al_typed.specs.declared.statement.TStmt.TheVariants as stmt
use Rattle.al_environment.specs.declared.environment.Environment.{Environment}
use Rattle.al_environment.specs.declared.environment.Here.{Here}
use Rattle.al_operands.specs.declared.operand.Operand.{Operand}
use Rattle.al_statements.specs.Cases.{alt_case, case_bits, case_label, communicating, communication_of, form_of, labelled}
use Rattle.al_statements.specs.Parts.{became, became_call, became_found, became_operand, became_value, is_any_call, returned}
use Rattle.al_type_nodes.specs.declared.found.Found.{Found}
use Rattle.al_type_nodes.specs.declared.found.Found.TheVariants as found
use Rattle.al_type_stmt.specs.declared.within.Choice.{Choice}
use Rattle.al_type_stmt.specs.declared.within.Choice.TheVariants as choice
use Rattle.al_type_stmt.specs.declared.within.Within.{Within}
use Rattle.al_type_stmt.specs.Iterators.{value_statement}
use Rattle.al_type_stmt.specs.Statements.{alloc_at, become_at, break_at, case_at, check_at, continue_at, declared, default_at, goto_at, par_at, proc_at, raise_at, return_at, returns, task_at, unalloc_at}
use Rattle.al_sound_operators.specs.Typed.{IfGood}
use Rattle.al_sound_operators.proofs.Outcomes.{after}
use Rattle.al_sound_statements.proofs.StatementLists.{anything, if_either, judged_any}
use Rattle.al_sound_flow.proofs.Typed.{IsNumbered}

module _ (from : ℕ) where
  abbrev Plain : TStmt → Type 0
  Plain = IsNumbered from []

  plainly : {A : Type 0} (o : Outcome A) (f : A → Outcome TStmt) → ((a : A) → IfGood (f a) Plain) → IfGood (and_then o f) Plain
  plainly o f h = after (λ a. ⊤) Plain o f (anything o) (λ a q. h a)

  pub declared_plain : (env : Environment) (here : Here) (line : ℕ) (vs : List Variable) → IfGood (declared env here line vs) Plain
  unfolding declared
  declared_plain env here line vs = plainly _ (λ (xs : List TInitializer). Good (stmt.Declare line xs)) (λ xs. record { labels = refl; rescues = refl })

  pub value_plain : (env : Environment) (here : Here) (line : ℕ) (e : Expr) → IfGood (value_statement env here line e) Plain
  unfolding value_statement
  value_plain env here line e = plainly _ (λ (p : List TBounds × TExpr). Good (stmt.Value line p.0 p.1)) (λ p. record { labels = refl; rescues = refl })

  pub raise_plain : (w : Within) (at : Place) → IfGood (raise_at w at) Plain
  unfolding raise_at
  raise_plain w at = plainly _ (λ (n : ℕ). Good (stmt.Raise at.line n)) (λ n. record { labels = refl; rescues = refl })

  pub goto_plain : (w : Within) (at : Place) → IfGood (goto_at w at) Plain
  unfolding goto_at
  goto_plain w at = plainly _ (λ (n : ℕ). Good (stmt.Goto at.line n)) (λ n. record { labels = refl; rescues = refl })

  pub break_plain : (w : Within) (at : Place) → IfGood (break_at w at) Plain
  unfolding break_at
  break_plain w at = plainly _ (λ (n : ℕ). Good (stmt.Break at.line n)) (λ n. record { labels = refl; rescues = refl })

  pub continue_plain : (w : Within) (at : Place) → IfGood (continue_at w at) Plain
  unfolding continue_at
  continue_plain w at = plainly _ (λ (n : ℕ). Good (stmt.Continue at.line n)) (λ n. record { labels = refl; rescues = refl })

  pub par_plain : (w : Within) (at : Place) (ats : List Place) → IfGood (par_at w at ats) Plain
  unfolding par_at
  par_plain w at ats = plainly _ (λ (ns : List ℕ). Good (stmt.Par at.line ns)) (λ ns. record { labels = refl; rescues = refl })

  pub return_plain : (w : Within) (env : Environment) (here : Here) (at : Place) (e : Option Expr) → IfGood (return_at w env here at e) Plain
  unfolding return_at
  return_plain w env here at e = plainly _ (returns w at) (λ x. plainly (returned at w.returns x) (λ (v : Option TExpr). Good (stmt.Return at.line v)) (λ v. record { labels = refl; rescues = refl }))

  became_value_plain : (line : ℕ) (at : Place) (t : Ty) (x : Operand) → IfGood (became_value line at t x) Plain
  unfolding became_value
  became_value_plain line at t x = plainly _ (λ (e : TExpr). Good (stmt.Return line (Some e))) (λ e. record { labels = refl; rescues = refl })

  became_call_plain : (line : ℕ) (at : Place) (t : Ty) (call : TExpr) → IfGood (became_call line at t call) Plain
  unfolding became_call
  became_call_plain line at t call = judged_any Plain _ (stmt.Become line call) (record { labels = refl; rescues = refl })

  became_found_plain : (rows : List Aggregate) (line : ℕ) (at : Place) (t : Ty) (value_at : Place) (f : Found) → IfGood (became_found rows line at t value_at f) Plain
  became_found_plain rows line at t value_at f = plainly _ (became_value line at t) (became_value_plain line at t)

  became_plain : (rows : List Aggregate) (line : ℕ) (at : Place) (t : Ty) (value_at : Place) (f : Found) → IfGood (became rows line at t value_at f) Plain
  unfolding became became_operand
  became_plain rows line at t value_at (found.Place p is_private) = became_found_plain rows line at t value_at (found.Place p is_private)
  became_plain rows line at t value_at (found.Value x) =
      if_either Plain (is_any_call x.value) (became_call line at t x.value) (became_found rows line at t value_at (found.Value x)) (became_call_plain line at t x.value)
      (became_found_plain rows line at t value_at (found.Value x))

  pub become_plain : (w : Within) (env : Environment) (here : Here) (at : Place) (e : Expr) → IfGood (become_at w env here at e) Plain
  unfolding become_at
  become_plain w env here at e = plainly _ _ (became_plain env.aggregates at.line at w.returns _)

  labelled_plain : (at : Place) (e : TExpr) (o : Option ℕ) → IfGood (labelled at e o) Plain
  labelled_plain at e None = tt
  labelled_plain at e (Some bits) = record { labels = refl; rescues = refl }

  label_plain : (rows : List Aggregate) (k : Kind) (at : Place) (x : Operand) → IfGood (case_label rows k at x) Plain
  unfolding case_label
  label_plain rows k at x = plainly _ _ (λ e. labelled_plain at e (case_bits rows k e))

  talk_plain : (at : Place) (o : Option TCommunication) → IfGood (communicating at o) Plain
  talk_plain at None = tt
  talk_plain at (Some c) = record { labels = refl; rescues = refl }

  alt_plain : (at : Place) (e : TExpr) → IfGood (alt_case at e) Plain
  unfolding alt_case
  alt_plain at e = talk_plain at (communication_of (form_of e))

  pub case_plain : (env : Environment) (here : Here) (at : Place) (e : Expr) (c : Choice) → IfGood (case_at env here at e c) Plain
  unfolding case_at
  case_plain env here at e choice.Neither = tt
  case_plain env here at e (choice.Switch k) = plainly _ _ (label_plain env.aggregates k at)
  case_plain env here at e choice.Alt = plainly _ _ (alt_plain at)

  pub default_plain : (at : Place) (c : Choice) → IfGood (default_at at c) Plain
  unfolding default_at
  default_plain at choice.Neither = tt
  default_plain at (choice.Switch k) = record { labels = refl; rescues = refl }
  default_plain at choice.Alt = tt

  pub alloc_plain : (env : Environment) (here : Here) (at : Place) (es : List Expr) → IfGood (alloc_at env here at es) Plain
  unfolding alloc_at
  alloc_plain env here at es = plainly _ (λ (ps : List TPlace). Good (stmt.Alloc at.line ps)) (λ ps. record { labels = refl; rescues = refl })

  pub unalloc_plain : (env : Environment) (here : Here) (at : Place) (es : List Expr) → IfGood (unalloc_at env here at es) Plain
  unfolding unalloc_at
  unalloc_plain env here at es = plainly _ (λ (vs : List TExpr). Good (stmt.Unalloc at.line vs)) (λ vs. record { labels = refl; rescues = refl })

  pub check_plain : (env : Environment) (here : Here) (at : Place) (e : Expr) → IfGood (check_at env here at e) Plain
  unfolding check_at
  check_plain env here at e = plainly _ (λ (v : TExpr). Good (stmt.Check at.line v)) (λ v. record { labels = refl; rescues = refl })

  pub proc_plain : (env : Environment) (here : Here) (at : Place) (es : List Expr) → IfGood (proc_at env here at es) Plain
  unfolding proc_at
  proc_plain env here at es = plainly _ (λ (vs : List TExpr). Good (stmt.Proc at.line vs)) (λ vs. record { labels = refl; rescues = refl })

  pub task_plain : (env : Environment) (here : Here) (at : Place) (es : List Expr) → IfGood (task_at env here at es) Plain
  unfolding task_at
  task_plain env here at es = plainly _ (λ (vs : List TExpr). Good (stmt.Task at.line vs)) (λ vs. record { labels = refl; rescues = refl })
