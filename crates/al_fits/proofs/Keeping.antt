-- What is known of a control stays known: through its private steps, an answer, and at a start.
use Rattle.std.proofs.Common.{◌≡◌, ℕ, zero, suc, ◌-◌, List, [], ◌∷◌, Option, Some, None, refl, sym, subst, arith}
use Rattle.std.specs.Prelude.{⊤}
use Rattle.std.specs.List.{AllByRecursion}
use Rattle.al_event.specs.declared.act.Act.TheVariants as act
use Rattle.al_event.specs.declared.act.Start.{Start}
use Rattle.al_world.specs.Control.{fitted}
use Rattle.al_world.specs.Turns.{Move, Moves, Turns, Asks, to_turn, with_turns}
use Rattle.al_typed.specs.declared.program.Program.{Program}
use Rattle.al_typed.specs.Sound.{HasSoundTypes}
use Rattle.al_meaning.specs.Items.{Frame, Entering, Control, most_turns}
use Rattle.al_meaning.specs.Here.{Next}
use Rattle.al_meaning.specs.Calls.{begun}
use Rattle.al_meaning.specs.Step.{private_step, step_entering, step_frames}
use Rattle.al_meaning.specs.Weight.{control_weight}
use Rattle.al_meaning.specs.Meaning.{ask, start}
use Rattle.al_fits.specs.Controls.{ActIs, HasRoom, FrameIs, FramesAre, ControlIs, WaitIs, NextIs}
use Rattle.al_walk.specs.Fitting as fitting
use Rattle.al_fits.proofs.Going.{controlled, resumed}
use Rattle.al_fits.proofs.Working.{begun_is, enters_it, frame_steps}

module _ (p : Program) (W : HasSoundTypes p) (R : HasRoom p) where
  frames_step : (c : Control) (frames : List Frame) (u : List ℕ) → c.frames ≡ frames → FramesAre p None frames → NextIs p (step_frames p c frames u)
  frames_step c [] u e K = ((tt, omega arith), λ words. resumed p c (fitted act.End words) (subst (AllByRecursion (FrameIs p)) (sym e) tt))
  frames_step c (f ∷ below) u e K = frame_steps p W R f.items f below u K.0 K.1

  entering_steps : (c : Control) (e : Option Entering) (u : List ℕ) → FramesAre p e c.frames → NextIs p (step_entering p c e u)
  entering_steps c (Some e) u K = enters_it p W R e.function e.words c c.frames u K K
  entering_steps c None u K = frames_step c c.frames u refl K

  -- a private step
  pub step_keeps : (c : Control) (u : List ℕ) → ControlIs p c → NextIs p (private_step p c u)
  step_keeps c u K = entering_steps c c.entering u K

  -- a task that starts
  pub start_is : (s : Start) → ControlIs p (start p s)
  start_is s = controlled p None (begun p s.code s.words ∷ []) (begun_is p W R s.code s.words, tt)

  turn_is : (n : ℕ) (c : Control) (u : List ℕ) → ControlIs p c → NextIs p (to_turn (private_step p) (control_weight p) n c u)
  turn_is zero c u K = step_keeps c u K
  turn_is (suc n) c u K = on (private_step p c u) (step_keeps c u K) (λ d v k. turn_is n d v k)
    where
      on : (x : Next) → NextIs p x → ((d : Control) (v : List ℕ) → ControlIs p d → NextIs p (to_turn (private_step p) (control_weight p) n d v))
          → NextIs p (elim x [ Moves d v ↦ to_turn (private_step p) (control_weight p) n d v | Turns line d v ↦ Turns line d v | Asks a line d v ↦ Asks a line d v ])
      on (Moves d v) k more = more d v k
      on (Turns line d v) k more = k
      on (Asks a line d v) k more = k

  asked_waits : (n : ℕ) (x : Next) → NextIs p x
      → ActIs (with_turns (private_step p) (control_weight p) n act.Pause x).act
      × WaitIs p (with_turns (private_step p) (control_weight p) n act.Pause x).act (with_turns (private_step p) (control_weight p) n act.Pause x).control
  asked_waits zero (Moves c u) k = ((tt, omega arith), λ words. k)
  asked_waits zero (Turns line c u) k = ((tt, omega arith), λ words. k)
  asked_waits zero (Asks a line c u) k = k
  asked_waits (suc n) (Moves c u) k = ((tt, omega arith), λ words. k)
  asked_waits (suc n) (Turns line c u) k = asked_waits n (to_turn (private_step p) (control_weight p) (control_weight p c) c u) (turn_is (control_weight p c) c u k)
  asked_waits (suc n) (Asks a line c u) k = k

  -- what a task asks leaves a control that goes on with each answer
  pub ask_keeps : (c : Control) (u : List ℕ) → ControlIs p c → ActIs (ask p c u).act × WaitIs p (ask p c u).act (ask p c u).control
  ask_keeps c u K =
      asked_waits (most_turns - 1) (to_turn (private_step p) (control_weight p) (control_weight p c) c u) (turn_is (control_weight p c) c u K)

-- ---- an invariant that gives what each step needs gives what all steps need

module _ {C U : Type 0} (step : C → U → Move C U) (weight : C → ℕ) (Fits : C → U → Type 0) (I : C → Type 0) where
  abbrev pub Keeps : Move C U → Type 0
  Keeps (Moves d v) = I d
  Keeps (Turns line d v) = I d
  Keeps (Asks a line d v) = ⊤

  module _ (fits : (c : C) (u : U) → I c → Fits c u) (keeps : (c : C) (u : U) → I c → Keeps (step c u)) where
    steps_fit : (n : ℕ) (c : C) (u : U) → I c → fitting.StepsFit step weight Fits n c u
    steps_fit zero c u i = fits c u i
    steps_fit (suc n) c u i = (fits c u i, on (step c u) (keeps c u i) (λ d v j. steps_fit n d v j))
      where
        on : (x : Move C U) → Keeps x → ((d : C) (v : U) → I d → fitting.StepsFit step weight Fits n d v)
            → (elim x as (λ x. Type 0) [ Moves d v ↦ fitting.StepsFit step weight Fits n d v | Turns line d v ↦ ⊤ | Asks a line d v ↦ ⊤ ])
        on (Moves d v) i more = more d v i
        on (Turns line d v) i more = tt
        on (Asks a line d v) i more = tt

    turn_keeps : (n : ℕ) (c : C) (u : U) → I c → Keeps (to_turn step weight n c u)
    turn_keeps zero c u i = keeps c u i
    turn_keeps (suc n) c u i = on (step c u) (keeps c u i) (λ d v j. turn_keeps n d v j)
      where
        on : (x : Move C U) → Keeps x → ((d : C) (v : U) → I d → Keeps (to_turn step weight n d v))
            → Keeps (elim x [ Moves d v ↦ to_turn step weight n d v | Turns line d v ↦ Turns line d v | Asks a line d v ↦ Asks a line d v ])
        on (Moves d v) i more = more d v i
        on (Turns line d v) i more = i
        on (Asks a line d v) i more = tt

    turns_fit : (n : ℕ) (x : Move C U) → Keeps x → fitting.TurnsFit step weight Fits n x
    turns_fit zero (Moves d v) i = tt
    turns_fit zero (Turns line d v) i = tt
    turns_fit zero (Asks a line d v) i = tt
    turns_fit (suc n) (Moves d v) i = tt
    turns_fit (suc n) (Turns line d v) i = (steps_fit (weight d) d v i, turns_fit n (to_turn step weight (weight d) d v) (turn_keeps (weight d) d v i))
    turns_fit (suc n) (Asks a line d v) i = tt

    pub all_fit : (n : ℕ) (c : C) (u : U) → I c → fitting.AllFit step weight Fits n c u
    all_fit n c u i = (steps_fit (weight c) c u i, turns_fit n (to_turn step weight (weight c) c u) (turn_keeps (weight c) c u i))
