-- What an image has at the start of a function that operations call.
use Rattle.std.specs.Prelude.{◌≡◌, ◌≢◌, ℕ, ◌+◌, ◌-◌, ◌^◌, ◌<◌, ◌≤◌, length}
use Rattle.al_ir.specs.Control.{arguments_of, function_at, line_of as line_of_function, stack_of}
use Rattle.al_ir.specs.declared.ir.Ir.{Ir}
use Rattle.rv_isa.specs.declared.image.Contents.{Contents}
use Rattle.rv_exec.specs.Machine.{line_of}
use Rattle.rv_code.specs.Homes.{Apart}
use Rattle.rv_code.specs.Jumps.{place}
use Rattle.rv_code.specs.Runs.{Stands}
use Rattle.rv_form.specs.Flow.{no_room, no_room_words, prologue}
use Rattle.rv_match.specs.Places.{Places}

-- The function's first word stands at `entry`, behind the words for a call that finds no room. Its arguments come in the first
-- words of its frame; those that are live are apart from all others.
pub record Begins (ir : Ir) (image : Contents) (l : Places) (live : (f pc unit t : ℕ) → Type 0) (g entry : ℕ) : Type 0 where
  pub low : entry < 2 ^ 23
  pub behind : no_room_words ≤ entry
  pub stub : Stands image.code (entry - no_room_words) no_room
  pub stub_line : line_of image (place (entry - 1)) ≡ line_of_function (function_at ir g)
  pub start : Stands image.code entry (prologue (l.home g) (l.slots g) (arguments_of (function_at ir g)))
  pub first : entry + length (prologue (l.home g) (l.slots g) (arguments_of (function_at ir g))) ≡ l.at g 0
  pub stack_is : stack_of (function_at ir g) ≡ l.stack g
  pub stack : l.stack g ≤ 16384
  pub slots : l.slots g < l.stack g
  pub arguments : arguments_of (function_at ir g) ≤ l.slots g
  pub apart : (i j : ℕ) → i < arguments_of (function_at ir g) → j < arguments_of (function_at ir g) → live g 0 0 i → i ≢ j → Apart (l.home g i) (l.home g j)
