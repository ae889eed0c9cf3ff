-- Steps that go by whether there is room, or a block.
use Rattle.std.proofs.Common.{◌≡◌, ℕ, Bool, true, false, if◌then◌else◌, List, ◌∷◌, None, ap}
use Rattle.al_base.specs.declared.trap.Trap.TheVariants as trap
use Rattle.al_event.specs.declared.act.Act.TheVariants as act
use Rattle.al_event.specs.declared.act.Block.TheVariants.{Frame as FrameBlock}
use Rattle.al_world.specs.Turns.{Moves, Asks}
use Rattle.al_typed.specs.declared.program.Program.{Program}
use Rattle.al_meaning.specs.Calls.{begun, enters, gives_block, has_room, line_of_name, only}
use Rattle.al_meaning.specs.Here.{Here, Next, control_at, function_here}
use Rattle.al_meaning.specs.Items.{Control, Frame, Work}
use Rattle.al_meaning.specs.Places.{function_at, has_block, locals_of}

abbrev pub begins_above : Program → ℕ → List ℕ → List Frame → List ℕ → Next
begins_above p number words frames privates = let c : Control = record { entering = None; frames = begun p number words ∷ frames } in Moves c privates

abbrev pub overflows : Program → ℕ → Control → List ℕ → Next
overflows p number c privates = Asks (act.Trap trap.Stack) (line_of_name (function_at p number)) c privates

pub enters_there : (p : Program) (number : ℕ) (words : List ℕ) (c : Control) (frames : List Frame) (privates : List ℕ) → true ≡ has_room p number frames
    → begins_above p number words frames privates ≡ enters p number words c frames privates
enters_there p number words c frames privates e = ap (λ (b : Bool). if b then begins_above p number words frames privates else overflows p number c privates) e

pub enters_none : (p : Program) (number : ℕ) (words : List ℕ) (c : Control) (frames : List Frame) (privates : List ℕ) → false ≡ has_room p number frames
    → overflows p number c privates ≡ enters p number words c frames privates
enters_none p number words c frames privates e = ap (λ (b : Bool). if b then begins_above p number words frames privates else overflows p number c privates) e

abbrev pub frees : Here → List Work → Next
frees h work = Asks (act.Free h.frame.block FrameBlock) h.line (control_at (only h work)) h.privates

pub block_given : (h : Here) (work : List Work) (next : Next) → true ≡ has_block (locals_of (function_here h)) → frees h work ≡ gives_block h work next
block_given h work next e = ap (λ (b : Bool). if b then frees h work else next) e

pub no_block : (h : Here) (work : List Work) (next : Next) → false ≡ has_block (locals_of (function_here h)) → next ≡ gives_block h work next
no_block h work next e = ap (λ (b : Bool). if b then frees h work else next) e
