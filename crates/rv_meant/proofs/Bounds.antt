-- What the bounds of a program's operations say of the program.
use Rattle.std.proofs.Common.{◌≡◌, ℕ, ◌+◌, ◌≤◌, ◌^◌, List, [], ◌∷◌, ◌++◌, length, arith}
use Rattle.std.specs.Prelude.{filter, map}
use Rattle.std.specs.List.{AllByRecursion}
use Rattle.std.proofs.lemmas.List.Elements.{recursion_from_All}
use Rattle.al_typed.specs.declared.program.Function.{Function}
use Rattle.al_typed.specs.declared.program.Program.{Program}
use Rattle.al_meaning.specs.Places.{is_shared_global}
use Rattle.al_world.specs.Answers.{AreBytes}
use Rattle.al_ir.specs.declared.ir.Global.{Global}
use Rattle.al_ir.specs.Bounds.{IsBounded, IsGlobal, ItemsFit}
use Rattle.al_lower_code.specs.Functions.{byte_items, functions_from, globals, lowered, shared_global, string_global}
use Rattle.al_lowering.specs.Runs.{StringsAreBytes}

-- an item for each character has room for a byte
are_bytes : (text : List ℕ) (at behind bytes : ℕ) → ItemsFit behind bytes (byte_items at text) → AreBytes text
are_bytes [] at behind bytes fit = tt
are_bytes (b ∷ text) at behind bytes fit = (fit.1.1.1.1.0, are_bytes text (at + 1) (at + 1) bytes fit.1.1.1.1.1)

each_is : (texts : List (List ℕ)) → AllByRecursion IsGlobal (map string_global texts) → AllByRecursion AreBytes texts
each_is [] all = tt
each_is (text ∷ texts) all = (are_bytes text 0 0 (length text + 1) all.0.start, each_is texts all.1)

last_ones : (gs more : List Global) → AllByRecursion IsGlobal (gs ++ more) → AllByRecursion IsGlobal more
last_ones [] more all = all
last_ones (g ∷ gs) more all = last_ones gs more all.1

as_many : (p : Program) (number : ℕ) (fs : List Function) → length (functions_from p number fs) ≡ length fs
as_many p number [] = omega arith
as_many p number (f ∷ fs) = let rest = as_many p (number + 1) fs in omega (arith, rest)

module _ (p : Program) (bounded : IsBounded (lowered p)) where
  pub strings_are_bytes : StringsAreBytes p
  strings_are_bytes = each_is p.strings (last_ones (map (shared_global p) (filter is_shared_global p.globals)) (map string_global p.strings) (recursion_from_All IsGlobal (globals p) bounded.globals))

  pub few_functions : length p.functions ≤ 2 ^ 28
  few_functions = let same = as_many p 0 p.functions in omega (arith, bounded.count, same)
