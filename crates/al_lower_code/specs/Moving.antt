-- Operations on several words: between slots, private globals and shared storage. An address stands in a slot, and offsets are
-- added to it.
use Rattle.std.specs.Prelude.{ℕ, zero, suc, ◌+◌, ◌-◌, ◌==◌, nat_lt, nat_le, ◌&&◌, Bool, if◌then◌else◌, List, [], ◌∷◌, ◌++◌, length, Option, Some, None}
use Rattle.al_typed.specs.declared.layout.Unit.{Unit as StorageUnit}
use Rattle.al_typed.specs.declared.ty.Ty.{Ty, out-Ty}
use Rattle.al_typed.specs.declared.ty.Ty.TheOpen.{Ty-F}
use Rattle.al_meaning.specs.Words.{sum}
use Rattle.al_ir.specs.declared.ir.Operation.{Operation}
use Rattle.al_ir.specs.declared.op.Op.TheVariants.{Constant, Copy, Zero, Result, Extract, Offset, GetPrivate, PutPrivate, Load, Store, LoadUnits, StoreUnits, ClearUnits}
use Rattle.al_ir.specs.Bounds.{most_words}
use Rattle.al_lower_code.specs.Homes.{Spot, words, size, units, operation, here}

-- ---- slots

abbrev pub constants : ℕ → (to : ℕ) → List ℕ → List Operation
constants line to [] = []
constants line to (w ∷ ws) = operation line (Constant to w) ∷ constants line (to + 1) ws

abbrev pub copies : ℕ → (to from n : ℕ) → List Operation
copies line to from zero = []
copies line to from (suc n) = operation line (Copy to from) ∷ copies line (to + 1) (from + 1) n

-- nothing where they stand there already
abbrev pub moves : ℕ → (to from n : ℕ) → List Operation
moves line to from n = if to == from then [] else copies line to from n

abbrev pub zeros : ℕ → (to n : ℕ) → List Operation
zeros line to n = if n == 0 then [] else operation line (Zero to n) ∷ []

-- the words that a call left
abbrev pub results : ℕ → (to word n : ℕ) → List Operation
results line to word zero = []
results line to word (suc n) = operation line (Result to word) ∷ results line (to + 1) (word + 1) n

-- Words that were received keep the bytes of their units. They have no more than 4 bytes.
abbrev pub trims : ℕ → (at : ℕ) → List StorageUnit → List Operation
trims line at [] = []
trims line at (u ∷ us) = (if u.size == 4 then [] else operation line (Extract at at 0 u.size) ∷ []) ++ trims line (at + 1) us

-- ---- private globals

abbrev pub gets : ℕ → (to place n : ℕ) → List Operation
gets line to place zero = []
gets line to place (suc n) = operation line (GetPrivate to place) ∷ gets line (to + 1) (place + 1) n

abbrev pub puts : ℕ → (place from n : ℕ) → List Operation
puts line place from zero = []
puts line place from (suc n) = operation line (PutPrivate place from) ∷ puts line (place + 1) (from + 1) n

-- the same word into each
abbrev pub puts_same : ℕ → (place from n : ℕ) → List Operation
puts_same line place from zero = []
puts_same line place from (suc n) = operation line (PutPrivate place from) ∷ puts_same line (place + 1) from n

-- ---- units in shared storage

abbrev pub loads : ℕ → (to slot offset : ℕ) → List StorageUnit → List Operation
loads line to slot offset [] = []
loads line to slot offset (u ∷ us) = operation line (Load to slot (sum offset u.at) u.size) ∷ loads line (to + 1) slot offset us

abbrev pub stores : ℕ → (slot offset from : ℕ) → List StorageUnit → List Operation
stores line slot offset from [] = []
stores line slot offset from (u ∷ us) = operation line (Store slot (sum offset u.at) u.size from) ∷ stores line slot offset (from + 1) us

abbrev pub stores_same : ℕ → (slot offset from : ℕ) → List StorageUnit → List Operation
stores_same line slot offset from [] = []
stores_same line slot offset from (u ∷ us) = operation line (Store slot (sum offset u.at) u.size from) ∷ stores_same line slot offset from us

-- A value of more units than these, which is copied whole in no more bytes than it may have, is loaded and stored in one operation.
abbrev pub most_units : ℕ
most_units = 16

abbrev pub is_wide : (count bytes : ℕ) → Bool
is_wide count bytes = nat_lt most_units count && nat_le bytes most_words

-- the layout of an aggregate has the aggregate's number
abbrev pub layout_at : (wide : Bool) → Ty-F Ty → Option ℕ
layout_at wide (Ty-F.Aggregate number) = if wide then Some number else None
layout_at wide _ = None

unfoldable pub layout_number : Spot → Ty → Option ℕ
layout_number s t = layout_at (is_wide (length (units s t)) (size s t)) (out-Ty t)

-- ---- where a place is

-- so many bytes behind the address that a slot has; in slots; or in words of private globals
pub data Where : Type 0 where
  Stored : (slot offset : ℕ) → Where
  Slotted : (home : ℕ) → Where
  Kept : (place : ℕ) → Where

-- so many bytes further on
abbrev pub moved_by : ℕ → Where → Where
moved_by n (Stored slot offset) = Stored slot (sum offset n)
moved_by n (Slotted home) = Slotted home
moved_by n (Kept place) = Kept place

-- its address as a word
abbrev pub address_code : Spot → Where → (to : ℕ) → List Operation
address_code s (Stored slot offset) to = here s (Offset to slot offset)
address_code s _ to = []

-- an address that a slot has, without an offset
abbrev pub settles : Spot → Where → (to : ℕ) → List Operation
settles s (Stored slot offset) to = if offset == 0 then [] else here s (Offset to slot offset)
settles s _ to = []

abbrev pub settled : Where → (to : ℕ) → ℕ
settled (Stored slot offset) to = if offset == 0 then slot else to
settled _ to = to

-- ---- values of places

abbrev pub load_by : Spot → Option ℕ → Ty → (to slot offset : ℕ) → List Operation
load_by s (Some layout) t to slot offset = here s (LoadUnits to slot offset layout)
load_by s None t to slot offset = loads s.line to slot offset (units s t)

abbrev pub store_by : Spot → Option ℕ → Ty → (slot offset from : ℕ) → List Operation
store_by s (Some layout) t slot offset from = here s (StoreUnits slot offset layout from)
store_by s None t slot offset from = stores s.line slot offset from (units s t)

-- zero in each unit; one slot from `free` on serves it
abbrev pub clear_by : Spot → Option ℕ → Ty → (slot offset free : ℕ) → List Operation
clear_by s (Some layout) t slot offset free = here s (ClearUnits slot offset layout)
clear_by s None t slot offset free = here s (Constant free 0) ++ stores_same s.line slot offset free (units s t)

abbrev pub read_code : Spot → Ty → Where → (to : ℕ) → List Operation
read_code s t (Stored slot offset) to = load_by s (layout_number s t) t to slot offset
read_code s t (Slotted home) to = moves s.line to home (words s t)
read_code s t (Kept place) to = gets s.line to place (words s t)

abbrev pub save_code : Spot → Ty → Where → (from : ℕ) → List Operation
save_code s t (Stored slot offset) from = store_by s (layout_number s t) t slot offset from
save_code s t (Slotted home) from = moves s.line home from (words s t)
save_code s t (Kept place) from = puts s.line place from (words s t)

abbrev pub clear_code : Spot → Ty → Where → (free : ℕ) → List Operation
clear_code s t (Stored slot offset) free = clear_by s (layout_number s t) t slot offset free
clear_code s t (Slotted home) free = zeros s.line home (words s t)
clear_code s t (Kept place) free = here s (Constant free 0) ++ puts_same s.line place free (words s t)

-- the slots that it stands in, if it does
abbrev pub home_of : Where → Option ℕ
home_of (Slotted home) = Some home
home_of _ = None

-- ---- parts of values

-- of the units of a value, the one that has the byte at this offset, and how far the byte stands in it
pub record Holder : Type 0 where
  pub index : ℕ
  pub skip : ℕ

abbrev pub holder : (index at : ℕ) → List StorageUnit → Holder
holder index at [] = record { index = index; skip = 0 }
holder index at (u ∷ us) =
    if nat_le u.at at && nat_lt at (u.at + u.size) then record { index = index; skip = at - u.at } else holder (index + 1) at us

-- these units of a value, whose words stand from `from` on. Each lies in one unit of the whole.
abbrev pub extracts : ℕ → (to from : ℕ) → (whole part : List StorageUnit) → List Operation
extracts line to from whole [] = []
extracts line to from whole (u ∷ us) =
    let h = holder 0 u.at whole in
    operation line (Extract to (from + h.index) h.skip u.size) ∷ extracts line (to + 1) from whole us
