-- What private steps come to, and what a task asks.
use Rattle.std.proofs.Common.{◌≡◌, ℕ, ◌-◌, ◌<◌, List, refl, sym}
use Rattle.al_event.specs.declared.act.Act.{Act}
use Rattle.al_event.specs.declared.act.Act.TheVariants as act
use Rattle.al_world.specs.Control.{Asked}
use Rattle.al_world.specs.Turns.{Moves, Turns, Asks, with_turns}
use Rattle.al_typed.specs.declared.program.Program.{Program}
use Rattle.al_meaning.specs.Items.{Control, most_turns}
use Rattle.al_meaning.specs.Here.{Next}
use Rattle.al_meaning.specs.Meaning.{ask}
use Rattle.al_meaning.specs.Step.{private_step}
use Rattle.al_meaning.specs.Weight.{control_weight}
use Rattle.al_meaning.proofs.Lighter.{lighter}
use Rattle.al_walk.specs.Asks.{turn_from, AskFits, TurnFits, TurnsFit}
use Rattle.al_walk.specs.Works.{StepFits}
use Rattle.al_walk.proofs.Rounds as rounds

-- ---- up to a turn or an action

pub moved : (p : Program) (c d : Control) (u v : List ℕ) → Moves d v ≡ private_step p c u → turn_from p d v ≡ turn_from p c u
unfolding turn_from
moved p c d u v e = sym (rounds.turn_moves (private_step p) (control_weight p) (StepFits p) (lighter p) c d u v (sym e))

pub turned : (p : Program) (line : ℕ) (c d : Control) (u v : List ℕ) → Turns line d v ≡ private_step p c u → Turns line d v ≡ turn_from p c u
unfolding turn_from
turned p line c d u v e = sym (rounds.turn_made (private_step p) (control_weight p) (StepFits p) (control_weight p c) line c d u v (sym e))

pub asked : (p : Program) (a : Act) (line : ℕ) (c d : Control) (u v : List ℕ) → Asks a line d v ≡ private_step p c u → Asks a line d v ≡ turn_from p c u
unfolding turn_from
asked p a line c d u v e = sym (rounds.action_asked (private_step p) (control_weight p) (StepFits p) (control_weight p c) line c d u v a (sym e))

pub is_lighter : (p : Program) (c d : Control) (u v : List ℕ) → Moves d v ≡ private_step p c u → control_weight p d < control_weight p c
is_lighter p c d u v e = lighter p c d u v (sym e)

pub moved_fits : (p : Program) (c d : Control) (u v : List ℕ) → Moves d v ≡ private_step p c u → TurnFits p c u → TurnFits p d v
unfolding TurnFits
moved_fits p c d u v e h = rounds.turn_fits (private_step p) (control_weight p) (StepFits p) (lighter p) c d u v (sym e) h

pub step_fits : (p : Program) (c : Control) (u : List ℕ) → TurnFits p c u → StepFits p c u
unfolding TurnFits
step_fits p c u h = rounds.first_fits (private_step p) (control_weight p) (StepFits p) (control_weight p c) c u h

-- ---- up to an action

-- what is asked after this step, with so many turns before the pause
unfoldable pub asked_after : Program → ℕ → Next → Asked Control (List ℕ)
asked_after p n next = with_turns (private_step p) (control_weight p) n act.Pause next

pub ask_begins : (p : Program) (c : Control) (u : List ℕ) → asked_after p (most_turns - 1) (turn_from p c u) ≡ ask p c u
unfolding turn_from asked_after
ask_begins p c u = refl

pub ask_asks : (p : Program) (n : ℕ) (a : Act) (line : ℕ) (c : Control) (u : List ℕ)
    → asked_after p n (Asks a line c u) ≡ record { act = a; line = line; work = 0; control = c; privates = u }
unfolding asked_after
ask_asks p n a line c u = refl

pub ask_pauses : (p : Program) (line : ℕ) (c : Control) (u : List ℕ)
    → asked_after p 0 (Turns line c u) ≡ record { act = act.Pause; line = line; work = 0; control = c; privates = u }
unfolding asked_after
ask_pauses p line c u = refl

pub ask_ends : (p : Program) (n : ℕ) (c : Control) (u : List ℕ)
    → asked_after p n (Moves c u) ≡ record { act = act.Pause; line = 0; work = 0; control = c; privates = u }
unfolding asked_after
ask_ends p n c u = refl

pub ask_turns : (p : Program) (n line : ℕ) (c : Control) (u : List ℕ) → 0 < n
    → asked_after p n (Turns line c u) ≡ asked_after p (n - 1) (turn_from p c u)
unfolding turn_from asked_after
ask_turns p n line c u below = rounds.turn_more (private_step p) (control_weight p) (StepFits p) n line act.Pause c u below

pub first_fits : (p : Program) (c : Control) (u : List ℕ) → AskFits p c u → TurnFits p c u
unfolding AskFits
first_fits p c u h = h.0

pub rest_fit : (p : Program) (c : Control) (u : List ℕ) → AskFits p c u → TurnsFit p (most_turns - 1) (turn_from p c u)
unfolding AskFits
rest_fit p c u h = h.1

pub next_fits : (p : Program) (n line : ℕ) (c : Control) (u : List ℕ) → 0 < n → TurnsFit p n (Turns line c u) → TurnFits p c u
unfolding TurnFits TurnsFit
next_fits p n line c u below h = (rounds.more_fit (private_step p) (control_weight p) (StepFits p) n line c u below h).0

pub more_fit : (p : Program) (n line : ℕ) (c : Control) (u : List ℕ) → 0 < n → TurnsFit p n (Turns line c u) → TurnsFit p (n - 1) (turn_from p c u)
unfolding turn_from TurnsFit
more_fit p n line c u below h = (rounds.more_fit (private_step p) (control_weight p) (StepFits p) n line c u below h).1
