-- Programs whose addresses are words.
use Rattle.std.specs.Prelude.{◌≡◌, ℕ, ◌<◌, ◌^◌, length, Some, slice_get, fold}
use Rattle.al_event.specs.Store.{region_base}
use Rattle.al_typed.specs.declared.program.Function.{Function}
use Rattle.al_typed.specs.declared.program.Global.{Global}
use Rattle.al_typed.specs.declared.program.Program.{Program}
use Rattle.al_meaning.specs.Places.{block_sizes, behind, global_place, text_place, function_address}

-- Each address that a name or a string stands for has room in a word. The meaning counts without bound; operations have 32 bits.
pub record AddressesAreWords (p : Program) : Type 0 where
  pub globals : (number : ℕ) (g : Global) → slice_get p.globals number ≡ Some g → global_place p number < 2 ^ 32
  pub strings : (number : ℕ) → number < length p.strings → text_place p number < 2 ^ 32
  pub functions : (number : ℕ) (f : Function) → slice_get p.functions number ≡ Some f → function_address number < 2 ^ 32

-- where the blocks of globals and strings end that are there from the start
abbrev pub blocks_end : Program → ℕ
blocks_end p = fold behind region_base (block_sizes p)
