-- Images that programs are compiled to, and what all can see of a run.
use Rattle.std.specs.Prelude.{◌≡◌, ℕ, ◌^◌, ◌<◌, List, length, slice_get, All, Option, Some, option_map}
use Rattle.al_event.specs.declared.entry.Entry.{Entry}
use Rattle.al_world.specs.Step.{run_from}
use Rattle.al_world.specs.World.{Shared, World}
use Rattle.al_typed.specs.declared.program.Program.{Program}
use Rattle.al_meaning.specs.Meaning.{main_start}
use Rattle.al_meaning.specs.Places.{opening_blocks}
use Rattle.al_ir.specs.Bounds.{IsBounded}
use Rattle.al_ir.specs.Control.{arguments_of, function_at}
use Rattle.al_lower_code.specs.Functions.{lowered}
use Rattle.al_core.specs.Opening.{globals_of, main_of}
use Rattle.rv_isa.specs.declared.image.Contents.{Contents}
use Rattle.rv_exec.specs.Machine.{machine}
use Rattle.rv_form.specs.Layout.{Layout}
use Rattle.rv_form.specs.Program.{Homes, IsImageOf}
use Rattle.rv_regs.specs.Homes.{AreHomes}
use Rattle.rv_alike.specs.LaidOut.{IsLaidOut, class_words}

-- The image has the code of the program's operations, laid out somehow. It begins with the program's blocks, globals and strings
-- with the bytes that they have at the start, and with its main function.
pub record IsCompiledTo (p : Program) (image : Contents) : Type 0 where
  pub layout : Layout
  pub laid_out : IsLaidOut (lowered p) image layout
  pub globals : globals_of image ≡ opening_blocks p
  pub main : main_of image ≡ main_start p

-- What all can see after the entries of a schedule, as the machine runs the image: none where an entry is not permitted.
abbrev pub seen_of_image : Contents → (region : ℕ) → List Entry → Option Shared
seen_of_image image region h = option_map (λ (w : World (machine image)). w.shared) (run_from (machine image) region (globals_of image) (main_of image) h)

-- The image is the one that is defined for the program's operations and some homes of their slots. Asked besides are what the
-- operations and the homes have to keep, and that functions which are called through one pointer take equally many words.
pub record IsMadeOf (p : Program) (image : Contents) : Type 0 where
  pub homes : Homes
  pub defined : IsImageOf homes (lowered p) image
  pub bounded : IsBounded (lowered p)
  pub small : length image.code < 2 ^ 23
  pub apart : (f : ℕ) → AreHomes (lowered p) f (homes f)
  pub equally : (class : ℕ) (fs : List ℕ) → slice_get (lowered p).classes class ≡ Some fs → All (λ g. arguments_of (function_at (lowered p) g) ≡ class_words (lowered p) fs) fs
