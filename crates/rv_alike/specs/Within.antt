-- Which slots matter, and where harts stand, within an operation that has units.
use Rattle.std.specs.Prelude.{◌≡◌, ℕ, zero, suc, ◌+◌, ◌<◌, ◌≤◌, ◌⊎◌, true, length, Option, Some, None}
use Rattle.al_ir.specs.Control.{Slots, operation_at}
use Rattle.al_ir.specs.declared.ir.Ir.{Ir}
use Rattle.al_ir.specs.declared.ir.Operation.{Operation}
use Rattle.al_ir.specs.declared.op.Op.{Op}
use Rattle.al_ir.specs.declared.op.Op.TheVariants.{LoadUnits, StoreUnits, ClearUnits}
use Rattle.rv_exec.specs.Hart.{Hart}
use Rattle.rv_code.specs.Homes.{bring}
use Rattle.rv_form.specs.Layout.{Layout}
use Rattle.rv_form.specs.Units.{Loads, Stores, Clears}
use Rattle.rv_form.specs.Words.{offset_instrs}
use Rattle.rv_match.specs.Places.{Places}
use Rattle.rv_regs.specs.Homes.{AreHomes}
use Rattle.rv_units.specs.Units.{AtValue}

-- places and homes as a layout has them
abbrev pub places : Layout → Places
places l = record { at = l.at; home = l.home; stack = l.stack; slots = l.slots }

-- ---- slots

-- what an operation has loaded, once so many units are done
abbrev pub IsLoadedBy : Op → (n t : ℕ) → Type 0
IsLoadedBy (LoadUnits to at offset layout) n t = (to ≤ t) × (t < to + n)
IsLoadedBy _ n t = ⊥

abbrev pub IsLoaded : Option Operation → (n t : ℕ) → Type 0
IsLoaded (Some o) n t = IsLoadedBy o.op n t
IsLoaded None n t = ⊥

-- a slot that is live before an operation, and one that has been loaded within it
abbrev pub live_in : (ir : Ir) (l : Layout) → ((f : ℕ) → AreHomes ir f (l.home f)) → (f pc unit t : ℕ) → Type 0
live_in ir l homes f pc zero t = (homes f).live pc t ≡ true
live_in ir l homes f pc (suc n) t = ((homes f).live pc t ≡ true) ⊎ IsLoaded (operation_at ir f pc) (suc n) t

-- ---- harts

-- the code of a value's units, behind that of its address
abbrev pub units_place : Layout → (f pc slot offset : ℕ) → ℕ
units_place l f pc slot offset = l.at f pc + length (bring (l.home f slot) 10) + length (offset_instrs offset 10 10)

abbrev pub midway_by : Layout → Op → (f pc unit : ℕ) → Slots → (sp : ℕ) → Hart → Type 0
midway_by l (LoadUnits to at offset layout) f pc unit slots sp h = AtValue Loads (l.runs layout) (units_place l f pc at offset) to at offset unit slots sp h
midway_by l (StoreUnits at offset layout from) f pc unit slots sp h = AtValue Stores (l.runs layout) (units_place l f pc at offset) from at offset unit slots sp h
midway_by l (ClearUnits at offset layout) f pc unit slots sp h = AtValue Clears (l.runs layout) (units_place l f pc at offset) 0 at offset unit slots sp h
midway_by l _ f pc unit slots sp h = ⊥

abbrev pub midway_at : Layout → Option Operation → (f pc unit : ℕ) → Slots → (sp : ℕ) → Hart → Type 0
midway_at l (Some o) f pc unit slots sp h = midway_by l o.op f pc unit slots sp h
midway_at l None f pc unit slots sp h = ⊥

-- a hart that has done some units of an operation, and not all of it
abbrev pub midway_in : Ir → Layout → (f pc unit : ℕ) → Slots → (sp : ℕ) → Hart → Type 0
midway_in ir l f pc unit slots sp h = midway_at l (operation_at ir f pc) f pc unit slots sp h
