-- Which harts stand for which controls of a program of operations.
use Rattle.std.specs.Prelude.{◌≡◌, ℕ, zero, suc, ◌+◌, ◌*◌, ◌^◌, ◌<◌, ◌≤◌, List, [], ◌∷◌, length, slice_index, Option, Some, None}
use Rattle.rv_isa.specs.declared.addresses.TheConstants.{STACK_START, GLOBALS_START}
use Rattle.rv_isa.specs.declared.image.Contents.{Contents}
use Rattle.rv_exec.specs.Hart.{Hart}
use Rattle.rv_exec.specs.Calls.{Privates}
use Rattle.rv_exec.specs.declared.state.Waits.TheVariants.{Done}
use Rattle.al_meaning.specs.Shown.{most_text}
use Rattle.al_ir.specs.declared.ir.Ir.{Ir}
use Rattle.al_ir.specs.Control.{Slots, Frame as IrFrame, Entering, Control}
use Rattle.al_ir.specs.Meaning.{resume}
use Rattle.al_ir.specs.Step.{private_step}
use Rattle.rv_code.specs.declared.home.Home.TheVariants.{Frame}
use Rattle.rv_code.specs.Homes.{value_at}
use Rattle.rv_code.specs.Jumps.{place}
use Rattle.rv_code.specs.Pieces.{down_code}
use Rattle.rv_code.specs.Runs.{Stands}
use Rattle.rv_match.specs.Following.{PlainOrSoon}
use Rattle.rv_match.specs.Places.{Places, under, jumps_before, full, wide}

-- private globals correspond word by word
abbrev pub Private : Ir → List ℕ → Privates → Type 0
Private ir u p = (length u ≡ ir.privates) × ((j : ℕ) → j < ir.privates → p j ≡ slice_index u j)

-- the text that is composed: a byte too much has trapped
abbrev pub IsText : (shown text : List ℕ) → Type 0
IsText shown text = (shown ≡ text) × (length text ≤ most_text)

-- `live` as in Places; `Midway` says where a hart stands that has done so many units of an operation, at least one.
module _ (ir : Ir) (image : Contents) (l : Places) (live : (f pc unit t : ℕ) → Type 0)
    (Midway : (f pc unit : ℕ) → Slots → (sp : ℕ) → Hart → Type 0) where
  -- the words of the slots that are live are at their homes
  abbrev pub Holds : (f pc unit : ℕ) → Slots → (sp : ℕ) → (registers stack : ℕ → ℕ) → Type 0
  Holds f pc unit slots sp registers stack =
      (t w : ℕ) → live f pc unit t → slots t ≡ Some w → (t < l.slots f) × (value_at (l.home f t) sp registers stack ≡ w)

  -- a frame that waits for the one above it has its words in the stack
  abbrev pub Rests : IrFrame → (sp : ℕ) → (stack : ℕ → ℕ) → Type 0
  Rests f sp stack =
      (t w : ℕ) → live f.function f.pc 0 t → f.slots t ≡ Some w → (t < l.slots f.function) × ((l.home f.function t ≡ Frame t) × (stack (sp + t) ≡ w))

  -- It goes on at `back`: there the frame comes down, and its next operation follows.
  pub record Resting (stack : ℕ → ℕ) (back : ℕ) (f : IrFrame) (sp : ℕ) : Type 0 where
    pub way : ℕ
    pub is : back ≡ place way
    pub down : Stands image.code way (down_code (l.stack f.function))
    pub next : way + 3 ≡ l.at f.function f.pc
    pub low : l.at f.function f.pc < 2 ^ 23
    pub room : l.slots f.function < l.stack f.function
    pub words : Rests f sp stack

  -- the frames that wait; a task begins as if it had been called from word 0
  abbrev pub Below : (stack : ℕ → ℕ) → (back : ℕ) → List IrFrame → Type 0
  Below stack back [] = back ≡ place 0
  Below stack back (f ∷ below) =
      Resting stack back f (under l below) × Below stack (stack (under l below + l.slots f.function)) below

  -- at the operation, or within it
  abbrev pub Reaches : (f pc unit : ℕ) → Slots → (sp : ℕ) → Hart → Type 0
  Reaches f pc zero slots sp h = h.pc ≡ place (l.at f pc)
  Reaches f pc (suc n) slots sp h = Midway f pc (suc n) slots sp h

  -- a function is at work
  pub record InFrame (left : ℕ) (f : IrFrame) (below : List IrFrame) (unit : ℕ) (text : List ℕ) (last : Slots) (h : Hart) : Type 0 where
    pub here : Reaches f.function f.pc unit f.slots (under l below) h
    pub pointer : h.registers 2 ≡ STACK_START + 4 * under l below
    pub turns : h.registers 3 ≡ left
    pub globals : h.registers 4 ≡ GLOBALS_START
    pub inside : under l below + l.stack f.function ≤ 2 ^ 20
    pub room : l.slots f.function < l.stack f.function
    pub holds : Holds f.function f.pc unit f.slots (under l below) h.registers h.stack
    pub waiting : Below h.stack (h.stack (under l below + l.slots f.function)) below
    -- what the function gave that returned last stands in the words above the frame
    pub above : (t w : ℕ) → last t ≡ Some w → (under l below + l.stack f.function + t < 2 ^ 20) × (h.stack (under l below + l.stack f.function + t) ≡ w)
    pub text_is : IsText h.text text
    pub waits : h.waits ≡ Done
    pub counted : h.jumps + wide * left ≤ wide * full + jumps_before ir f.function f.pc + 4
    pub some : 1 ≤ left
    pub few : left ≤ full

  -- a task whose frames are gone is about to ask its end
  pub record Ended (left : ℕ) (h : Hart) : Type 0 where
    pub here : h.pc ≡ place 0

  abbrev pub InFrames : (left : ℕ) → List IrFrame → Control → Hart → Type 0
  InFrames left [] c h = Ended left h
  InFrames left (f ∷ below) c h = InFrame left f below c.unit c.text c.last h

  abbrev pub IfNone : Option Entering → Type 0 → Type 0
  IfNone None T = T
  IfNone (Some e) T = ⊥

  -- between two operations, or within one that has units
  abbrev pub Plain : (left : ℕ) → Control → Hart → Type 0
  Plain left c h = IfNone c.entering (InFrames left c.frames c h)

  -- What the hart does at a function to be entered, and where a text has a byte too much, is told by the control's next step.
  abbrev pub Match : (left : ℕ) → Control → Hart → Type 0
  Match left c h = PlainOrSoon image (private_step ir) resume (Private ir) Plain full left c h
