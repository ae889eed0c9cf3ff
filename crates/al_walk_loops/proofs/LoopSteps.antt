-- Loops at their stages, by parts that were read.
use Rattle.std.proofs.Common.{◌≡◌, ℕ, false, [], ◌∷◌, ◌++◌, Option, sym, ap, ◌∙◌}
use Rattle.al_typed.specs.declared.expression.TExpr.{TExpr}
use Rattle.al_typed.specs.declared.statement.TStmt.{TStmt}
use Rattle.al_typed.specs.declared.statement.TStmt.TheVariants as variant
use Rattle.al_meaning.specs.Execute.{do_condition, for_condition, for_next, for_test, optionally, starts_then, while_test}
use Rattle.al_meaning.specs.Here.{Here, does}
use Rattle.al_meaning.specs.Items.{Work, Eval, DoTest, ForAgain, ForNext, WhileAgain}
use Rattle.al_walk_loops.specs.Rounds.{begins_round}
use Rattle.al_walk_loops.proofs.LoopRounds.{while-body, do-condition, for-condition, for-body, for-next}

pub while_step : (line : ℕ) (condition : TExpr) (body b s : TStmt) (w : Work) (h : Here) → s ≡ variant.While line condition body → b ≡ body → w ≡ WhileAgain s
    → starts_then h b (w ∷ []) ≡ while_test s false h
while_step line condition body b s w h is same work =
    ap (λ t. starts_then h t (w ∷ [])) same
    ∙ ap (λ v. starts_then h body (v ∷ [])) (work ∙ ap WhileAgain is)
    ∙ sym (while-body line condition body h)
    ∙ ap (λ t. while_test t false h) (sym is)

pub do_step : (line : ℕ) (body : TStmt) (condition : TExpr) (s : TStmt) (w : Work) (h : Here) → s ≡ variant.Do line body condition → w ≡ DoTest s
    → does h (Eval condition ∷ w ∷ []) ≡ do_condition s h
do_step line body condition s w h is work =
    ap (λ v. does h (Eval condition ∷ v ∷ [])) (work ∙ ap DoTest is)
    ∙ sym (do-condition line body condition h)
    ∙ ap (λ t. do_condition t h) (sym is)

pub for_step : (line : ℕ) (start condition step : Option TExpr) (body b s : TStmt) (h : Here) → s ≡ variant.For line start condition step body → b ≡ body
    → begins_round condition b s h ≡ for_condition s h
for_step line start condition step body b s h is same =
    ap (λ t. begins_round condition t s h) same
    ∙ ap (λ t. begins_round condition body t h) is
    ∙ sym (for-condition line start condition step body h)
    ∙ ap (λ t. for_condition t h) (sym is)

pub for_body_step : (line : ℕ) (start condition step : Option TExpr) (body b s : TStmt) (w : Work) (h : Here) → s ≡ variant.For line start condition step body
    → b ≡ body → w ≡ ForNext s → starts_then h b (w ∷ []) ≡ for_test s false h
for_body_step line start condition step body b s w h is same work =
    ap (λ t. starts_then h t (w ∷ [])) same
    ∙ ap (λ v. starts_then h body (v ∷ [])) (work ∙ ap ForNext is)
    ∙ sym (for-body line start condition step body h)
    ∙ ap (λ t. for_test t false h) (sym is)

pub for_next_step : (line : ℕ) (start condition step : Option TExpr) (body s : TStmt) (w : Work) (h : Here) → s ≡ variant.For line start condition step body
    → w ≡ ForAgain s → does h (optionally step ++ w ∷ []) ≡ for_next s h
for_next_step line start condition step body s w h is work =
    ap (λ v. does h (optionally step ++ v ∷ [])) (work ∙ ap ForAgain is)
    ∙ sym (for-next line start condition step body h)
    ∙ ap (λ t. for_next t h) (sym is)
