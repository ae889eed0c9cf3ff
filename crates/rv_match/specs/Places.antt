-- Where operations stand in the code and their slots in the frame, and which slots of a frame matter.
use Rattle.std.specs.Prelude.{◌≡◌, ◌≢◌, ℕ, zero, suc, ◌+◌, ◌<◌, ◌≤◌, ◌⊎◌, List, [], ◌∷◌}
use Rattle.al_ir.specs.Bounds.{jumps_of}
use Rattle.al_ir.specs.Control.{Frame as IrFrame, code_of, function_at}
use Rattle.al_ir.specs.declared.ir.Ir.{Ir}
use Rattle.al_ir.specs.declared.ir.Operation.{Operation}
use Rattle.rv_code.specs.declared.home.Home.{Home}
use Rattle.rv_code.specs.declared.home.Home.TheVariants.{Frame, Saved}
use Rattle.rv_code.specs.Homes.{Apart}

-- The word of the code where an operation begins; the home of each slot; and how many words a frame of the function has, of
-- which so many are for slots. The word behind those has the place where the function returns to.
pub record Places : Type 0 where
  pub at : (function pc : ℕ) → ℕ
  pub home : (function slot : ℕ) → Home
  pub stack : (function : ℕ) → ℕ
  pub slots : (function : ℕ) → ℕ

-- the words of the stack below the frame that stands above these
abbrev pub under : Places → List IrFrame → ℕ
under l [] = 0
under l (f ∷ below) = l.stack f.function + under l below

-- a home in the frame is the word of the slot's number
pub record Homes (l : Places) : Type 0 where
  pub frame : (f t k : ℕ) → l.home f t ≡ Frame k → k ≡ t
  pub saved : (f t r : ℕ) → l.home f t ≡ Saved r → (18 ≤ r) × (r < 28)

-- ---- which slots are live

-- `live f pc unit t` says that slot t may still be read as it is before operation pc of f, once `unit` units of it are done.

-- the operation writes this slot; all that is live behind it is live before it, at other homes
abbrev pub Writes : Places → (live : (f pc unit t : ℕ) → Type 0) → (f pc to : ℕ) → Type 0
Writes l live f pc to = (t : ℕ) → live f (pc + 1) 0 t → t ≢ to → Apart (l.home f to) (l.home f t) × live f pc 0 t

-- the operation writes so many slots, which have stack homes
pub record WritesAll (l : Places) (live : (f pc unit t : ℕ) → Type 0) (f pc to n : ℕ) : Type 0 where
  pub homes : (t : ℕ) → to ≤ t → t < to + n → l.home f t ≡ Frame t
  pub lives : (t : ℕ) → live f (pc + 1) 0 t → (t < to) ⊎ (to + n ≤ t) → live f pc 0 t

-- from one operation to another, with no slot written
abbrev pub Passes : (live : (f pc unit t : ℕ) → Type 0) → (f pc to : ℕ) → Type 0
Passes live f pc to = (t : ℕ) → live f to 0 t → live f pc 0 t

-- ---- counted jumps

-- the jumps that the first operations of a list make at most
abbrev pub jumps_in : ℕ → List Operation → ℕ
jumps_in zero os = 0
jumps_in (suc n) [] = 0
jumps_in (suc n) (o ∷ os) = jumps_of o.op + jumps_in n os

abbrev pub jumps_before : Ir → (function pc : ℕ) → ℕ
jumps_before ir f pc = jumps_in pc (code_of (function_at ir f))

-- the turns of a stretch
abbrev pub full : ℕ
full = 4096

-- each turn has room for the jumps of a whole function, and for those of a call or return
abbrev pub wide : ℕ
wide = 32744
