-- Where a private step is made, what was found before it, and how it goes on.
use Rattle.std.specs.Prelude.{ℕ, zero, suc, if◌then◌else◌, List, [], ◌∷◌, ◌++◌, map, Option, Some, None, slice_index}
use Rattle.al_base.specs.declared.trap.Trap.{Trap}
use Rattle.al_base.specs.declared.trap.Trap.TheVariants as trap
use Rattle.al_event.specs.declared.act.Act.{Act}
use Rattle.al_event.specs.declared.act.Act.TheVariants as act
use Rattle.al_world.specs.Turns.{Move, Moves, Turns, Asks}
use Rattle.al_typed.specs.declared.ty.Ty.{Ty, out-Ty}
use Rattle.al_typed.specs.declared.ty.Ty.TheOpen.{Ty-F}
use Rattle.al_typed.specs.declared.ty.Ty.TheVariants as ty
use Rattle.al_typed.specs.declared.layout.Unit.{Unit}
use Rattle.al_typed.specs.declared.program.Function.{Function as FunctionRow}
use Rattle.al_typed.specs.declared.program.Program.{Program}
use Rattle.al_typed.specs.Types.{is_void}
use Rattle.al_typed.specs.Layout.{Member, member, size_of, units_of}
use Rattle.al_meaning.specs.Places.{function_at}
use Rattle.al_meaning.specs.Items.{Found, Words, Address, Work, Answered, Drop, Item, Frame, Control}
use Rattle.al_meaning.specs.Parts.{item}

-- ---- where a step is made

-- an item of a frame that is taken off it, the frames below, and the private globals
pub record Here : Type 0 where
  pub program : Program
  pub line : ℕ
  pub frame : Frame
  pub below : List Frame
  pub privates : List ℕ

abbrev pub here : Program → ℕ → Frame → List Frame → List ℕ → Here
here p line f below privates = record { program = p; line = line; frame = f; below = below; privates = privates }

abbrev pub Next : Type 0
Next = Move Control (List ℕ)

abbrev pub control_at : Here → Control
control_at h = record { entering = None; frames = h.frame ∷ h.below }

-- the frame with these items before the others
abbrev pub with_items : List Item → Here → Here
with_items items h = record h { frame = record h.frame { items = items ++ h.frame.items } }

abbrev pub with_found : List Found → Here → Here
with_found found h = record h { frame = record h.frame { found = found } }

-- work of this item's statement
abbrev pub with_work : List Work → Here → Here
with_work work h = with_items (map (item h.line) work) h

-- goes on
abbrev pub moves : Here → Next
moves h = Moves (control_at h) h.privates

-- with more to do
abbrev pub does : Here → List Work → Next
does h work = moves (with_work work h)

-- a value or place was found
abbrev pub finds : Here → Found → Next
finds h f = moves (with_found (f ∷ h.frame.found) h)

abbrev pub gives : Here → List ℕ → Next
gives h words = finds h (Words words)

-- an action, and work after its answer
abbrev pub asks : Here → Act → List Work → Next
asks h a work = Asks a h.line (control_at (with_work work h)) h.privates

abbrev pub traps : Here → Trap → Next
traps h t = asks h (act.Trap t) (Answered ∷ [])

-- what no well-typed program comes to
abbrev pub lost : Here → Next
lost h = traps h trap.Illegal

-- a turn, and work after it
abbrev pub turns : Here → List Work → Next
turns h work = Turns h.line (control_at (with_work work h)) h.privates

-- the function that runs
abbrev pub function_here : Here → Option FunctionRow
function_here h = function_at h.program h.frame.function

-- ---- what was found is taken

abbrev pub value_taken : List Found → Here → (List ℕ → Here → Next) → Next
value_taken (Words ws ∷ found) h k = k ws (with_found found h)
value_taken _ h k = lost h

abbrev pub with_value : Here → (List ℕ → Here → Next) → Next
with_value h k = value_taken h.frame.found h k

abbrev pub with_word : Here → (ℕ → Here → Next) → Next
with_word h k = with_value h (λ ws. k (slice_index ws 0))

-- the value that was found first, and then the other
abbrev pub with_two : Here → (List ℕ → List ℕ → Here → Next) → Next
with_two h k = with_value h (λ second h. with_value h (λ first h. k first second h))

-- a place, an address, or that a part is dropped
abbrev pub place_taken : List Found → Here → (Found → Here → Next) → Next
place_taken [] h k = lost h
place_taken (f ∷ found) h k = k f (with_found found h)

abbrev pub with_place : Here → (Found → Here → Next) → Next
with_place h k = place_taken h.frame.found h k

abbrev pub at_address : (ℕ → Here → Next) → Found → Here → Next
at_address k (Address at) h = k at h
at_address k _ h = lost h

abbrev pub with_address : Here → (ℕ → Here → Next) → Next
with_address h k = with_place h (at_address k)

-- so many values, in the order in which they were found, before these
abbrev pub words_before : ℕ → List (List ℕ) → Here → (List (List ℕ) → Here → Next) → Next
words_before zero values h k = k values h
words_before (suc n) values h k = with_value h (λ ws h. words_before n (ws ∷ values) h k)

abbrev pub with_values : ℕ → Here → (List (List ℕ) → Here → Next) → Next
with_values n h k = words_before n [] h k

-- so many places, in order
abbrev pub places_before : ℕ → List Found → Here → (List Found → Here → Next) → Next
places_before zero places h k = k places h
places_before (suc n) places h k = with_place h (λ f h. places_before n (f ∷ places) h k)

-- ---- types

abbrev pub pointee_at : Ty-F Ty → Ty
pointee_at (Ty-F.Pointer to) = to
pointee_at _ = ty.Void

-- what a pointer leads to
unfoldable pub pointee : Ty → Ty
pointee t = pointee_at (out-Ty t)

abbrev pub size_in : Program → Ty → ℕ
size_in p t = size_of p.aggregates t

abbrev pub units_in : Program → Ty → List Unit
units_in p t = units_of p.aggregates t

-- the type that a path of members leads to
abbrev pub type_at : Option Member → Ty
type_at (Some m) = m.ty
type_at None = ty.Void

abbrev pub member_type : Program → Ty → List ℕ → Ty
member_type p t path = type_at (member p.aggregates path t)

-- a void expression has no value to drop
abbrev pub drops : Ty → List Work
drops t = if is_void t then [] else Drop ∷ []
