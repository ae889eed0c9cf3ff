-- Every address that a name of a program stands for is a word, if the blocks of the first world end there.
use Rattle.std.proofs.Common.{◌≡◌, ℕ, zero, suc, ◌+◌, ◌^◌, ◌<◌, ◌≤◌, List, [], ◌∷◌, length, take, Some, le_refl, arith}
use Rattle.std.specs.Prelude.{slice_get, fold}
use Rattle.std.proofs.lemmas.Option.{slice_get_within}
use Rattle.al_typed.specs.declared.program.Function.{Function as FunctionRow}
use Rattle.al_typed.specs.declared.program.Global.{Global as GlobalRow}
use Rattle.al_typed.specs.declared.program.Program.{Program}
use Rattle.al_event.specs.Store.{region_base}
use Rattle.al_meaning.specs.Places.{block_sizes, behind, shared_before, global_place, text_place, function_address}

pub record IsAddressed (p : Program) : Type 0 where
  pub globals : (n : ℕ) (g : GlobalRow) → slice_get p.globals n ≡ Some g → global_place p n < 2 ^ 32
  pub texts : (n : ℕ) → n < length p.strings → text_place p n < 2 ^ 32
  pub functions : (n : ℕ) (g : FunctionRow) → slice_get p.functions n ≡ Some g → function_address n < 2 ^ 32

-- where the blocks of the first world end
abbrev pub blocks_end : Program → ℕ
blocks_end p = fold behind region_base (block_sizes p)

rises : (sizes : List ℕ) (at : ℕ) → at ≤ fold behind at sizes
rises [] at = le_refl at
rises (size ∷ sizes) at = let h = rises sizes (behind at size) in omega (arith, h)

before_end : (n : ℕ) (sizes : List ℕ) (at : ℕ) → fold behind at (take n sizes) ≤ fold behind at sizes
before_end zero sizes at = rises sizes at
before_end (suc n) [] at = le_refl at
before_end (suc n) (size ∷ sizes) at = before_end n sizes (behind at size)

pub addressed : (p : Program) → blocks_end p < 2 ^ 32 → length p.functions ≤ 2 ^ 28 → IsAddressed p
addressed p end few = record {
  globals = λ n g e. let h = before_end (shared_before p n) (block_sizes p) region_base in omega (arith, h, end);
  texts = λ n lt. let h = before_end (shared_before p (length p.globals) + n) (block_sizes p) region_base in omega (arith, h, end);
  functions = λ n g e. let h = slice_get_within p.functions n g e in omega (arith, h, few);
}
