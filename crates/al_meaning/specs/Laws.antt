-- Laws on the meaning of programs.
use Rattle.std.specs.Prelude.{ℕ, ◌+◌, ◌*◌, ◌≤◌, ◌≡◌, ◌≢◌, List, length, ⊤}
use Rattle.al_event.specs.declared.act.Start.{Start}
use Rattle.al_world.specs.Turns.{Moves, Turns, Asks, to_turn}
use Rattle.al_typed.specs.declared.program.Program.{Program}
use Rattle.al_meaning.specs.Items.{Control, most_turns}
use Rattle.al_meaning.specs.Here.{Next}
use Rattle.al_meaning.specs.Step.{private_step}
use Rattle.al_meaning.specs.Weight.{control_weight}
use Rattle.al_meaning.specs.Tasks.{Answer, Stuck, Unfinished}
use Rattle.al_meaning.specs.Meant.{task_told}
use Rattle.al_meaning.specs.After.{task_asked}

-- a turn or an action, and no step on the way to one
abbrev pub IsTurnOrAction : Next → Type 0
IsTurnOrAction (Moves _ _) = ⊥
IsTurnOrAction (Turns _ _ _) = ⊤
IsTurnOrAction (Asks _ _ _ _) = ⊤

-- From every control the private steps that `ask` looks at come to a turn or an action: none goes on for ever in between.
abbrev pub ComeToActions : Type 0
ComeToActions =
    (p : Program) (c : Control) (privates : List ℕ) → IsTurnOrAction (to_turn (private_step p) (control_weight p) (control_weight p c) c privates)

-- A meaning that is told the answers says what a task asks after them, in which line and with which private globals, unless it
-- leaves that open.
abbrev pub AskAsTold : Type 0
AskAsTold =
    (p : Program) (n : ℕ) (start : Start) (privates : List ℕ) (answers : List Answer) → task_told p n start privates answers ≢ Stuck → task_told p n start privates answers ≢ Unfinished → task_asked p start privates answers ≡ task_told p n start privates answers

-- With as many rounds, jumps and calls as there can be turns, it leaves nothing open.
abbrev pub LeaveNothingOpen : Type 0
LeaveNothingOpen =
    (p : Program) (n : ℕ) (start : Start) (privates : List ℕ) (answers : List Answer) → most_turns + most_turns * length answers ≤ n → task_told p n start privates answers ≢ Unfinished
