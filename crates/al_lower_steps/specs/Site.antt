-- Where a task goes through operations.
use Rattle.std.specs.Prelude.{◌≡◌, ℕ, ◌+◌, ⊤, List, [], ◌∷◌, Some, None}
use Rattle.al_ir.specs.declared.ir.Ir.{Ir}
use Rattle.al_ir.specs.declared.ir.Operation.{Operation}
use Rattle.al_ir.specs.declared.op.Op.{Op}
use Rattle.al_ir.specs.Control.{Slots, no_slots, Frame, Nowhere, Control, operation_at}
use Rattle.al_ir.specs.Step.{Here}
use Rattle.al_lowered.specs.Rules.{Rules}

-- a function that is at work above these frames, with so much of a text composed
pub record Site : Type 1 where
  pub ir : Ir
  pub rules : Rules
  pub function : ℕ
  pub below : List Frame
  pub text : List ℕ

abbrev pub with_text : List ℕ → Site → Site
with_text text x = record x { text = text }

abbrev pub frame_at : Site → ℕ → Slots → Frame
frame_at x pc slots = record { function = x.function; pc = pc; slots = slots }

-- nothing is to begin; these frames go on
abbrev pub going : (text : List ℕ) → (last : Slots) → List Frame → Control
going text last frames = record { entering = None; into = Nowhere; unit = 0; text = text; last = last; frames = frames }

-- at the operation of that number, of which so many units are done
abbrev pub standing : Site → (pc unit : ℕ) → (slots last : Slots) → Control
standing x pc unit slots last = record { entering = None; into = Nowhere; unit = unit; text = x.text; last = last; frames = frame_at x pc slots ∷ x.below }

-- a function is to begin above these frames
abbrev pub entering : (text : List ℕ) → ℕ → (arguments : Slots) → List Frame → Control
entering text function arguments frames = record {
  entering = Some (record { function = function; arguments = arguments });
  into = Nowhere;
  unit = 0;
  text = text;
  last = no_slots;
  frames = frames;
}

-- where its step is made
abbrev pub here : Site → (line pc unit : ℕ) → (slots last : Slots) → (privates : List ℕ) → Here
here x line pc unit slots last privates = record {
  ir = x.ir;
  line = line;
  function = x.function;
  pc = pc;
  unit = unit;
  slots = slots;
  below = x.below;
  text = x.text;
  last = last;
  privates = privates;
}

-- the operation of that number in the function
abbrev pub HasOperation : Site → (pc line : ℕ) → Op → Type 0
HasOperation x pc line o = operation_at x.ir x.function pc ≡ Some (record { line = line; op = o })

-- these operations stand in the function from that number on
abbrev pub HasAt : Site → (pc : ℕ) → List Operation → Type 0
HasAt x pc [] = ⊤
HasAt x pc (o ∷ os) = (operation_at x.ir x.function pc ≡ Some o) × HasAt x (pc + 1) os
