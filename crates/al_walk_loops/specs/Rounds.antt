-- Rounds of loops.
use Rattle.std.specs.Prelude.{[], ◌∷◌, Option, Some, None}
use Rattle.al_typed.specs.declared.expression.TExpr.{TExpr}
use Rattle.al_typed.specs.declared.statement.TStmt.{TStmt}
use Rattle.al_meaning.specs.Execute.{starts_then}
use Rattle.al_meaning.specs.Here.{Here, Next, does}
use Rattle.al_meaning.specs.Items.{Eval, ForTest, ForNext}

-- a round of a for begins
abbrev pub begins_round : Option TExpr → TStmt → TStmt → Here → Next
begins_round (Some condition) body s h = does h (Eval condition ∷ ForTest s ∷ [])
begins_round None body s h = starts_then h body (ForNext s ∷ [])
