-- The blocks of the first world, and what they need so that their numbers fit.
use Rattle.std.specs.Prelude.{ℕ, ◌+◌, ◌<◌, ◌≤◌, ◌^◌, Bool, true, false, List, [], ◌∷◌, ◌++◌, All, length, filter, map, Option, None, ⊤}
use Rattle.al_event.specs.Store.{Live}
use Rattle.al_world.specs.Step.{with_globals}
use Rattle.al_typed.specs.declared.program.Global.{Global}
use Rattle.al_typed.specs.declared.program.StartValue.{StartValue}
use Rattle.al_typed.specs.declared.program.StartWord.{StartWord}
use Rattle.al_typed.specs.declared.program.StartWord.TheVariants as start
use Rattle.al_typed.specs.declared.program.Program.{Program}
use Rattle.al_typed.specs.Layout.{size_of}
use Rattle.al_meaning.specs.Places.{text_place, is_shared_global, global_bytes}
use Rattle.al_control_values.specs.Fits.{IsSmall}

-- where a string stands that a global begins with
abbrev pub WordFits : Program → StartWord → Type 0
WordFits p (start.Number n) = ⊤
WordFits p (start.Text number) = text_place p number + 1 < 2 ^ 64

-- a start value lies in its global, of so many bytes, and has at most 4 bytes
pub record StartFits (p : Program) (size : ℕ) (v : StartValue) : Type 0 where
  pub within : v.at + v.size ≤ size
  pub few : v.size ≤ 4
  pub word : WordFits p v.word

pub record GlobalFits (p : Program) (g : Global) : Type 0 where
  pub small : IsSmall p g.ty
  pub some : 0 < size_of p.aggregates g.ty
  pub starts : All (StartFits p (size_of p.aggregates g.ty)) g.start

-- a string with a 0 behind it
abbrev pub TextFits : List ℕ → Type 0
TextFits text = length text + 1 < 2 ^ 32

pub record OpeningFits (p : Program) : Type 0 where
  pub globals : All (GlobalFits p) (filter is_shared_global p.globals)
  pub strings : All TextFits p.strings

-- ---- blocks

unfoldable pub global_blocks : Program → List Global → List (List ℕ)
global_blocks p globals = map (global_bytes p) (filter is_shared_global globals)

unfoldable pub text_blocks : List (List ℕ) → List (List ℕ)
text_blocks texts = map (λ s. s ++ 0 ∷ []) texts

-- the store with more blocks, none where one before them has no place
abbrev pub placed_if : (placed : Bool) → (region : ℕ) → List (List ℕ) → List Live → Option (List Live)
placed_if true region rest store = with_globals region rest store
placed_if false region rest store = None
