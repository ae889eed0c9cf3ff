-- What steps of actions need, so that their numbers fit in words. All of it holds of well-typed programs.
use Rattle.std.specs.Prelude.{◌<◌, ◌^◌, List, ◌∷◌, ⊤, slice_index}
use Rattle.al_typed.specs.declared.ty.Ty.{Ty, out-Ty}
use Rattle.al_typed.specs.declared.ty.Ty.TheOpen.{Ty-F}
use Rattle.al_typed.specs.declared.program.Program.{Program}
use Rattle.al_meaning.specs.Items.{Found, Words}
use Rattle.al_meaning.specs.Here.{Here}
use Rattle.al_meaning.specs.Places.{words_in}
use Rattle.al_control_values.specs.Fits.{IsSmall}
use Rattle.al_control.specs.declared.work.Action.{Action}
use Rattle.al_control.specs.declared.work.Action.TheVariants as action

-- values of the type have so few words that a word has room for their number
abbrev pub HasFewWords : Program → Ty → Type 0
HasFewWords p t = words_in p t < 2 ^ 32

abbrev pub AllocationFits : Program → Ty-F Ty → Type 0
AllocationFits p (Ty-F.Pointer to) = IsSmall p to
AllocationFits p (Ty-F.Chan element capacity) = HasFewWords p element
AllocationFits p _ = ⊤

-- a byte that was read is one
abbrev pub ByteFits : List Found → Type 0
ByteFits (Words words ∷ found) = slice_index words 0 < 256
ByteFits _ = ⊤

abbrev pub ActionFits : Here → Action → Type 0
ActionFits h (action.Scanned at pieces arguments text) = ByteFits h.frame.found
ActionFits h (action.Receives ty) = HasFewWords h.program ty.now
ActionFits h (action.Received ty) = IsSmall h.program ty.now
ActionFits h (action.Sends ty) = HasFewWords h.program ty.now
ActionFits h (action.Allocate ty) = AllocationFits h.program (out-Ty ty.now)
ActionFits h _ = ⊤
