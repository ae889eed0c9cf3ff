-- Programs that can be compiled, and images that run as their programs mean.
use Rattle.std.specs.Prelude.{◌≡◌, ℕ, ◌^◌, ◌≤◌, List, [], ◌∷◌, slice_get, All, Some}
use Rattle.al_event.specs.declared.act.Start.{Start}
use Rattle.al_event.specs.declared.entry.Entry.{Entry}
use Rattle.al_world.specs.Alike.{SimulatesFrom}
use Rattle.al_typed.specs.declared.program.Program.{Program}
use Rattle.al_typed.specs.Sound.{HasSoundTypes}
use Rattle.al_typed.specs.WellTyped.{IsWellTyped}
use Rattle.al_meaning.specs.Meaning.{source}
use Rattle.al_ir.specs.Control.{arguments_of, function_at}
use Rattle.al_ir.specs.declared.ir.Ir.{Ir}
use Rattle.al_lowered.specs.Rules.{IsKnownStart}
use Rattle.al_lowering.specs.Runs.{meant}
use Rattle.rv_isa.specs.declared.image.Contents.{Contents}
use Rattle.rv_exec.specs.Machine.{machine}
use Rattle.rv_compiled.specs.Compiled.{seen_of_image}

-- how many words the first of some functions takes
abbrev pub first_takes : Ir → List ℕ → ℕ
first_takes ir [] = 0
first_takes ir (f ∷ fs) = arguments_of (function_at ir f)

-- functions that are called through one pointer take equally many words
abbrev pub TakeEquallyMany : Ir → Type 0
TakeEquallyMany ir =
    (class : ℕ) (fs : List ℕ) → slice_get ir.classes class ≡ Some fs → All (λ g. arguments_of (function_at ir g) ≡ first_takes ir fs) fs

-- What is asked of a typed program for its image to run as it means: it is well typed, and its types are sound. The program of each text that
-- is accepted is such.
pub record IsCompilable (p : Program) : Type 0 where
  pub well_typed : IsWellTyped p
  pub sound : HasSoundTypes p

-- In each region, which has at most 256 MiB, and along every schedule all see in a run of the image what they see in that of the
-- program.
abbrev pub RunsAlike : Program → Contents → Type 0
RunsAlike p image = (region : ℕ) (h : List Entry) → region ≤ 2 ^ 28 → meant p region h ≡ seen_of_image image region h

-- So they do from each start that the program has, for every region, all globals and every schedule.
abbrev pub SimulatesAlike : Program → Contents → Type 0
SimulatesAlike p image = (start : Start) → IsKnownStart p start → SimulatesFrom (source p) (machine image) start
