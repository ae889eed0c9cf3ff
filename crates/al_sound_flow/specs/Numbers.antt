-- The numbers of labels and rescues differ, and there are as many as are gathered of a body.
use Rattle.std.specs.Prelude.{◌≡◌, ℕ, ◌<◌, ◌++◌, All, AllPairs, List, length}
use Rattle.al_tree.specs.declared.statement.Stmt.{Stmt}
use Rattle.al_environment.specs.declared.environment.Environment.{Environment}
use Rattle.al_environment.specs.declared.environment.Here.{Here}
use Rattle.al_flow.specs.declared.mark.Mark.{Mark}
use Rattle.al_flow.specs.Flow.{marks}
use Rattle.al_body_parts.specs.Statements.{parts}
use Rattle.al_sound_flow.specs.Flow.{label_numbers, rescue_numbers}

-- the numbers of all labels and rescues of a function or branch
abbrev pub all_numbers : List Mark → List ℕ
all_numbers ms = label_numbers 0 ms ++ rescue_numbers 0 ms

pub record NumbersDiffer : Type 0 where
  pub below : (ms : List Mark) → All (λ n. n < length ms) (all_numbers ms)
  pub apart : (ms : List Mark) → AllPairs (λ n m. n ≡ m → ⊥) (all_numbers ms)
  pub gathered : (env : Environment) (here : Here) (body : Stmt) → length (parts env here body).labels ≡ length (marks body)
