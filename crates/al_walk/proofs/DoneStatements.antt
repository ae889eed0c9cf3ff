-- What each kind of statement does.
use Rattle.std.proofs.Common.{◌≡◌, ℕ, List, [], ◌∷◌, ◌++◌, Option, Some, None, Result, IfOk, IfErr, refl, sym, ap, subst, ◌∙◌}
use Rattle.std.proofs.lemmas.Result.{IfOk-weaker}
use Rattle.al_typed.specs.declared.expression.TExpr.{TExpr}
use Rattle.al_typed.specs.declared.statement.TBounds.{TBounds}
use Rattle.al_typed.specs.declared.statement.TStmt.{TStmt, If', end_of-TStmt, more_of-TStmt}
use Rattle.al_typed.specs.declared.statement.TStmt as stmt
use Rattle.al_typed.specs.declared.program.Program.{Program}
use Rattle.al_typed.specs.declared.statement.TStmt.TheBlock.{hidden-the_row-TStmt-1}
use Rattle.al_typed.specs.declared.statement.TStmt.TheVariants as variant
use denote.Hole.Carrier.{hidden}
use Rattle.std.specs.List.{flat_map}
use Rattle.al_meaning.specs.Calls.{call_work, evaluated}
use Rattle.al_meaning.specs.Evaluate.{alt_exprs, communications}
use Rattle.al_meaning.specs.Execute.{do_statement, optionally, starts, starts_then}
use Rattle.al_meaning.specs.Here.{Here, Next, does, moves, with_items}
use Rattle.al_meaning.specs.Step.{step_work}
use Rattle.al_meaning.specs.Items.{Work, Do, Eval, InvokeInstead, StartProc, StartTask, WhileTest, DoCondition, ForCondition, Select, AltTalk, Choose}
use Rattle.al_control.specs.declared.control.Next.{Next as NextStep}
use Rattle.al_control.specs.declared.unmade.Unmade.{Unmade}
use Rattle.al_control.specs.Fits.{Explains}
use Rattle.al_control.specs.Models.{choose_of, next_of}
use Rattle.al_walk.specs.Works.{CallsFit, StatementFits}
use Rattle.al_walk_statements.specs.Forms.{return_work, value_work}
use Rattle.al_walk_cases.specs.CaseLists.{communications_in}
use Rattle.al_walk_loops.specs.BodyParts.{statements_in}
use Rattle.al_walk_cases.proofs.CaseRows.{branchings_are, communications_are}
use Rattle.al_walk_loops.proofs.StatementRows.{statements_are}

pub done-Block : (line : ℕ) (body : List TStmt) (h : Here) → do_statement (variant.Block line body) h ≡ moves (with_items (statements_in body) h)
done-Block line body h = ap (λ its. moves (with_items its h)) (statements_are body)

pub done-Value : (line : ℕ) (iterators : List TBounds) (value : TExpr) (h : Here) → do_statement (variant.Value line iterators value) h ≡ does h (value_work iterators value)
done-Value line [] value h = refl
done-Value line (b ∷ bs) value h = refl

pub done-Return : (line : ℕ) (value : Option TExpr) (h : Here) → do_statement (variant.Return line value) h ≡ does h (return_work value)
done-Return line None h = refl
done-Return line (Some e) h = refl

pub done-Label : (line number : ℕ) (body : TStmt) (h : Here) → do_statement (variant.Label line number body) h ≡ starts h body
unfolding hidden-the_row-TStmt-1 hidden
done-Label line number body h = refl

pub done-If : (line : ℕ) (condition : TExpr) (chosen : TStmt) (other : Option TStmt) (h : Here)
    → do_statement (variant.If line condition chosen other) h ≡ does h (Eval condition ∷ choose_of (variant.If line condition chosen other) ∷ [])
unfolding hidden-the_row-TStmt-1 hidden
done-If line condition chosen other h = refl

pub done-While : (line : ℕ) (condition : TExpr) (body : TStmt) (h : Here)
    → do_statement (variant.While line condition body) h ≡ does h (Eval condition ∷ WhileTest (variant.While line condition body) ∷ [])
unfolding hidden-the_row-TStmt-1 hidden
done-While line condition body h = refl

pub done-Do : (line : ℕ) (body : TStmt) (condition : TExpr) (h : Here)
    → do_statement (variant.Do line body condition) h ≡ starts_then h body (DoCondition (variant.Do line body condition) ∷ [])
unfolding hidden-the_row-TStmt-1 hidden
done-Do line body condition h = refl

pub done-For : (line : ℕ) (start condition step : Option TExpr) (body : TStmt) (h : Here)
    → do_statement (variant.For line start condition step body) h
    ≡ does h (optionally start ++ ForCondition (variant.For line start condition step body) ∷ [])
unfolding hidden-the_row-TStmt-1 hidden
done-For line start condition step body h = refl

pub done-Switch : (line : ℕ) (value : TExpr) (body : List TStmt) (h : Here)
    → do_statement (variant.Switch line value body) h ≡ does h (Eval value ∷ Select (variant.Switch line value body) ∷ [])
done-Switch line value body h = refl

pub done-Alt : (line : ℕ) (body : List TStmt) (h : Here)
    → do_statement (variant.Alt line body) h ≡ does h (evaluated (alt_exprs (communications_in body)) ++ AltTalk (variant.Alt line body) ∷ [])
done-Alt line body h =
    ap (λ cs. does h (evaluated (alt_exprs (communications cs)) ++ AltTalk (variant.Alt line body) ∷ [])) (branchings_are body)
    ∙ ap (λ cs. does h (evaluated (alt_exprs cs) ++ AltTalk (variant.Alt line body) ∷ [])) (communications_are body)

pub done-Rescue : (line number : ℕ) (body : TStmt) (h : Here) → do_statement (variant.Rescue line number body) h ≡ moves h
unfolding hidden-the_row-TStmt-1 hidden
done-Rescue line number body h = refl

-- ---- what is left of them

pub chosen-If : (line : ℕ) (condition : TExpr) (chosen : TStmt) (other : Option TStmt)
    → choose_of (variant.If line condition chosen other) ≡ Choose chosen other
unfolding hidden-the_row-TStmt-1 hidden
chosen-If line condition chosen None = refl
chosen-If line condition chosen (Some other) = refl

-- what is left of any other statement
pub chosen_other : (s : TStmt) → ((line : ℕ) (condition : TExpr) (chosen : TStmt) (other : Option TStmt) → s ≡ variant.If line condition chosen other → ⊥)
    → choose_of s ≡ Do s
unfolding hidden-the_row-TStmt-1 hidden
chosen_other (If' line condition s (more_of-TStmt chosen end_of-TStmt) stmt.None') unlike = absurd (unlike line condition chosen None refl)
chosen_other (If' line condition s (more_of-TStmt chosen end_of-TStmt) (stmt.Some' t (more_of-TStmt other end_of-TStmt))) unlike =
    absurd (unlike line condition chosen (Some other) refl)
chosen_other s unlike = refl

-- ---- a statement goes on as its kind does

pub becomes : (s v : TStmt) (h : Here) (n : Next) → s ≡ v → do_statement v h ≡ n → n ≡ do_statement s h
becomes s v h n is goes = sym (ap (λ (s : TStmt). do_statement s h) is ∙ goes)

-- the same by a part that was read
pub becomes_by : {A : Type 0} (f : A → Next) (x y : A) (s v : TStmt) (h : Here) → x ≡ y → s ≡ v → do_statement v h ≡ f y → f x ≡ do_statement s h
becomes_by f x y s v h same is goes = ap f same ∙ becomes s v h (f y) is goes

pub does_so : {E : Type 0} (r : Result NextStep E) (s : TStmt) (h : Here) (n : Next) → IfOk r (λ x. next_of x ≡ n) → n ≡ do_statement s h
    → IfOk r (λ x. next_of x ≡ do_statement s h)
does_so r s h n goes same = IfOk-weaker r _ _ (λ x (is : next_of x ≡ n). is ∙ same) goes

pub does_so_as : {E : Type 0} (r : Result NextStep E) (s : TStmt) (w : Work) (h : Here) → w ≡ Do s → IfOk r (λ x. next_of x ≡ do_statement s h)
    → IfOk r (λ x. next_of x ≡ step_work w h)
does_so_as r s w h is goes = IfOk-weaker r _ _ (λ x (e : next_of x ≡ do_statement s h). e ∙ ap (λ (w : Work). step_work w h) (sym is)) goes

pub done-Become : (line : ℕ) (call : TExpr) (h : Here) → do_statement (variant.Become line call) h ≡ does h (call_work h.program call InvokeInstead)
done-Become line call h = refl

pub done-Proc : (line : ℕ) (calls : List TExpr) (h : Here)
    → do_statement (variant.Proc line calls) h ≡ does h (flat_map (λ (e : TExpr). call_work h.program e StartProc) calls)
done-Proc line calls h = refl

pub done-Task : (line : ℕ) (calls : List TExpr) (h : Here)
    → do_statement (variant.Task line calls) h ≡ does h (flat_map (λ (e : TExpr). call_work h.program e StartTask) calls)
done-Task line calls h = refl

-- ---- what it needs

pub needs_so : {T : Type 0} (r : Result T Unmade) (p : Program) (s v : TStmt) → s ≡ v → IfErr r (λ e. Explains e (StatementFits p v))
    → IfErr r (λ e. Explains e (StatementFits p s))
needs_so r p s v is why = subst (λ (s : TStmt). IfErr r (λ e. Explains e (StatementFits p s))) (sym is) why

pub needs_calls : {T : Type 0} (r : Result T Unmade) (p : Program) (read calls : List TExpr) → read ≡ calls → IfErr r (λ e. Explains e (CallsFit p read))
    → IfErr r (λ e. Explains e (CallsFit p calls))
needs_calls r p read calls same why = subst (λ (es : List TExpr). IfErr r (λ e. Explains e (CallsFit p es))) same why

pub ruleset done = (done-Block, done-Value, done-Return, done-Label, done-If, done-While, done-Do, done-For, done-Switch, done-Alt, done-Rescue)

pub ruleset choices = (chosen-If)
