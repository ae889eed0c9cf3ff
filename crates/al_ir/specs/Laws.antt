-- A law on tasks of operations.
use Rattle.std.specs.Prelude.{ℕ, List, ⊤}
use Rattle.al_world.specs.Turns.{Moves, Turns, Asks, to_turn}
use Rattle.al_ir.specs.declared.ir.Ir.{Ir}
use Rattle.al_ir.specs.Control.{Control}
use Rattle.al_ir.specs.Step.{Next, private_step}
use Rattle.al_ir.specs.Meaning.{control_weight}

-- a turn or an action, and no step on the way to one
abbrev pub IsTurnOrAction : Next → Type 0
IsTurnOrAction (Moves _ _) = ⊥
IsTurnOrAction (Turns _ _ _) = ⊤
IsTurnOrAction (Asks _ _ _ _) = ⊤

-- From every control the private steps that `ask` looks at come to a turn or an action: none goes on for ever in between.
abbrev pub ComeToActions : Type 0
ComeToActions =
    (ir : Ir) (c : Control) (privates : List ℕ) → IsTurnOrAction (to_turn (private_step ir) (control_weight ir) (control_weight ir c) c privates)
