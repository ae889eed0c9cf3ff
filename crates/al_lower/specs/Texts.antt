-- The places of strings in one list.
use Rattle.std.specs.Prelude.{◌≡◌, ℕ, ◌+◌, min, List, length, slice_index}
use Rattle.al_typed.specs.declared.program.Program.{Program}
use Rattle.al_typed.specs.Capped.{capped}
use Rattle.al_meaning.specs.Places.{text_place}

-- those of the strings of a program, and the one behind them, at most 2^64 - 1 each
pub record ArePlaces (p : Program) (places : List ℕ) : Type 0 where
  pub count : length places ≡ length p.strings + 1
  pub are : (number : ℕ) → slice_index places (min number (length p.strings)) ≡ capped (text_place p number)
