-- Loops at their stages.
use Rattle.std.proofs.Common.{◌≡◌, ℕ, false, [], ◌∷◌, ◌++◌, Option, Some, None, refl}
use Rattle.al_typed.specs.declared.expression.TExpr.{TExpr}
use Rattle.al_typed.specs.declared.statement.TStmt.{TStmt}
use Rattle.al_typed.specs.declared.statement.TStmt.TheBlock.{hidden-the_row-TStmt-1}
use Rattle.al_typed.specs.declared.statement.TStmt.TheVariants as variant
use denote.Hole.Carrier.{hidden}
use Rattle.al_meaning.specs.Execute.{do_condition, for_condition, for_next, for_test, optionally, starts_then, while_test}
use Rattle.al_meaning.specs.Here.{Here, does}
use Rattle.al_meaning.specs.Items.{Eval, WhileAgain, DoTest, ForNext, ForAgain}
use Rattle.al_walk_loops.specs.Rounds.{begins_round}

pub while-body : (line : ℕ) (condition : TExpr) (body : TStmt) (h : Here)
    → while_test (variant.While line condition body) false h ≡ starts_then h body (WhileAgain (variant.While line condition body) ∷ [])
unfolding hidden-the_row-TStmt-1 hidden
while-body line condition body h = refl

pub do-condition : (line : ℕ) (body : TStmt) (condition : TExpr) (h : Here)
    → do_condition (variant.Do line body condition) h ≡ does h (Eval condition ∷ DoTest (variant.Do line body condition) ∷ [])
unfolding hidden-the_row-TStmt-1 hidden
do-condition line body condition h = refl

pub for-condition : (line : ℕ) (start condition step : Option TExpr) (body : TStmt) (h : Here)
    → for_condition (variant.For line start condition step body) h ≡ begins_round condition body (variant.For line start condition step body) h
unfolding hidden-the_row-TStmt-1 hidden
for-condition line start (Some condition) step body h = refl
for-condition line start None step body h = refl

pub for-body : (line : ℕ) (start condition step : Option TExpr) (body : TStmt) (h : Here)
    → for_test (variant.For line start condition step body) false h ≡ starts_then h body (ForNext (variant.For line start condition step body) ∷ [])
unfolding hidden-the_row-TStmt-1 hidden
for-body line start condition step body h = refl

pub for-next : (line : ℕ) (start condition step : Option TExpr) (body : TStmt) (h : Here)
    → for_next (variant.For line start condition step body) h ≡ does h (optionally step ++ ForAgain (variant.For line start condition step body) ∷ [])
unfolding hidden-the_row-TStmt-1 hidden
for-next line start condition step body h = refl

pub ruleset rounds = (while-body, do-condition, for-condition, for-body, for-next)
