-- Kinds of control that are made of private steps: a task runs until it asks an action, or until it has made so many turns.
use Rattle.std.specs.Prelude.{ℕ, zero, suc, ◌-◌}
use Rattle.al_event.specs.declared.act.Act.{Act}
use Rattle.al_world.specs.Control.{Asked}

-- a private step: it goes on; it goes on and is a turn, made in a line; or it asks an action, in a line, with a control that
-- waits for the answer
pub data Move (C U : Type 0) : Type 0 where
  Moves : C → U → Move C U
  Turns : (line : ℕ) → C → U → Move C U
  Asks : Act → (line : ℕ) → C → U → Move C U

-- the weight of a control bounds its private steps up to a turn or an action
module _ {C U : Type 0} (step : C → U → Move C U) (weight : C → ℕ) where
  -- at most so many private steps more, up to a turn or an action
  abbrev pub to_turn : ℕ → C → U → Move C U
  to_turn zero c u = step c u
  to_turn (suc n) c u = elim (step c u) [ Moves d v ↦ to_turn n d v | Turns line d v ↦ Turns line d v | Asks a line d v ↦ Asks a line d v ]

  -- at most so many turns more, and then one at which the task asks the last action
  abbrev pub with_turns : ℕ → Act → Move C U → Asked C U
  with_turns n last (Asks a line c u) = record { act = a; line = line; work = 0; control = c; privates = u }
  with_turns n last (Moves c u) = record { act = last; line = 0; work = 0; control = c; privates = u }
  with_turns zero last (Turns line c u) = record { act = last; line = line; work = 0; control = c; privates = u }
  with_turns (suc n) last (Turns line c u) = with_turns n last (to_turn (weight c) c u)

  -- the next action; or the last one, asked right after so many turns without an action
  abbrev pub ask_within : ℕ → Act → C → U → Asked C U
  ask_within turns last c u = with_turns (turns - 1) last (to_turn (weight c) c u)
