-- Harts that follow a kind of control which is made of private steps: where the control makes a step, the hart comes by some
-- instructions to where it stands for the control behind that step, and where the control asks, the hart asks the same.
use Rattle.std.specs.Prelude.{◌≡◌, ◌≢◌, ℕ, suc, ◌^◌, ◌<◌, false, List, ◌⊎◌}
use Rattle.al_base.specs.declared.trap.Trap.TheVariants.{Illegal}
use Rattle.al_event.specs.declared.act.Act.{Act}
use Rattle.al_event.specs.declared.act.Act.TheVariants.{Pause, Trap as Traps}
use Rattle.al_until_last.specs.UntilLast.{is_last}
use Rattle.al_world.specs.Control.{fitted}
use Rattle.al_world.specs.Turns.{Move, Moves, Turns, Asks}
use Rattle.rv_isa.specs.declared.image.Contents.{Contents}
use Rattle.rv_exec.specs.Hart.{Hart}
use Rattle.rv_exec.specs.Calls.{Privates}
use Rattle.rv_exec.specs.Machine.{asked, line_of, resumed}
use Rattle.rv_code.specs.Runs.{Fine, Leads, Comes}

-- `Match` is said of a control and a hart between two private steps, with so many turns left; `Private` of private globals that
-- correspond.
module _ (image : Contents) {C U : Type 0} (resume : C → List ℕ → C) (Private : U → Privates → Type 0) (Match : (left : ℕ) → C → Hart → Type 0) where
  -- comes by some instructions to where it stands for the control
  pub record Nears (left : ℕ) (c : C) (h : Hart) (p : Privates) : Type 0 where
    pub there : Hart
    pub leads : Leads image h p there p
    pub match : Match left c there

  -- the same from the start of a stretch, with whatever private globals
  pub record Going (full : ℕ) (c : C) (h : Hart) : Type 0 where
    pub near : h.pc < 2 ^ 32
    pub jumps : h.jumps ≡ 0
    pub work : h.work ≡ 0
    pub comes : (p : Privates) → Fine h p → Nears full c h p

  abbrev pub Waiting : (full : ℕ) → Act → C → Hart → Type 0
  Waiting full act c h = is_last act ≡ false → (words : List ℕ) → Going full (resume c (fitted act words)) (resumed h (fitted act words))

  -- asks this in this line, and stands for the control and the private globals behind it
  pub record Asking (full : ℕ) (h : Hart) (p : Privates) (act : Act) (line : ℕ) (c : C) (u : U) : Type 0 where
    pub waiting : Hart
    pub privates : Privates
    pub comes : Comes image h p (asked image act waiting privates)
    pub line_is : line_of image waiting.pc ≡ line
    pub waits : Waiting full act c (record waiting { jumps = 0; work = 0 })
    pub same : Private u privates

  pub record GoesOn (left : ℕ) (h : Hart) (p : Privates) (c : C) (u : U) : Type 0 where
    pub next : Hart
    pub privates : Privates
    pub leads : Leads image h p next privates
    pub match : Match left c next
    pub same : Private u privates

  -- What the hart does where the control makes this step: the last turn asks the pause. The trap Illegal is asked where
  -- operations have no meaning, and nothing is claimed there.
  abbrev pub Follows : (full left : ℕ) → Hart → Privates → Move C U → Type 0
  Follows full left h p (Moves c u) = GoesOn left h p c u
  Follows full (suc (suc left)) h p (Turns line c u) = GoesOn (suc left) h p c u
  Follows full _ h p (Turns line c u) = Asking full h p Pause line c u
  Follows full left h p (Asks act line c u) = act ≢ Traps Illegal → Asking full h p act line c u

-- A hart may also stand for a control by what it does where the control makes its next step, after which it stands for it
-- plainly: for a function that is about to be entered, say.
module _ (image : Contents) {C U : Type 0} (step : C → U → Move C U) (resume : C → List ℕ → C) (Private : U → Privates → Type 0)
    (Plain : (left : ℕ) → C → Hart → Type 0) (full : ℕ) where
  abbrev pub Soon : (left : ℕ) → C → Hart → Type 0
  Soon left c h = (u : U) (p : Privates) → Private u p → Fine h p → Follows image resume Private Plain full left h p (step c u)

  abbrev pub PlainOrSoon : (left : ℕ) → C → Hart → Type 0
  PlainOrSoon left c h = Plain left c h ⊎ Soon left c h
