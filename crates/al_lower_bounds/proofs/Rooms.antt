-- The variables of a function have room in its part of the stack.
use Rattle.std.proofs.Common.{◌≡◌, ℕ, zero, suc, ◌+◌, ◌≤◌, Bool, true, false, if◌then◌else◌, List, [], ◌∷◌, length, take, arith}
use Rattle.std.specs.Prelude.{All, drop, filter, Some}
use Rattle.std.specs.List.{AllByRecursion}
use Rattle.std.proofs.lemmas.List.Elements.{All-from_recursion}
use Rattle.std.proofs.lemmas.List.Sums.{sum_by-cons}
use Rattle.al_typed.specs.declared.program.Function.{Function as FunctionRow}
use Rattle.al_typed.specs.declared.program.Local.{Local as LocalRow}
use Rattle.al_typed.specs.declared.program.Program.{Program}
use Rattle.al_typed.specs.Layout.{words_of}
use Rattle.al_typed.specs.Typed.{local_types}
use Rattle.al_typed.specs.Measures.{IsWithin, function_slots, greatest_by, private_types, slots, words_in}
use Rattle.al_lower_code.specs.Homes.{behind_locals, home_in}
use Rattle.al_lower_code.specs.Functions.{functions_from, lowered, lowered_function}
use Rattle.al_lower_bounds.specs.Parts.{HasRoom}

module _ (p : Program) where
  words_cons : (l : LocalRow) (ls : List LocalRow) → words_in p (local_types (l ∷ ls)) ≡ words_of p.aggregates l.ty + words_in p (local_types ls)
  words_cons l ls = sum_by-cons (words_of p.aggregates) l.ty (local_types ls)

  -- parameters take their words, one behind the other
  pub behind_parameters : (ls : List LocalRow) (at m : ℕ) → behind_locals p at m m ls ≡ at + words_in p (local_types (take m ls))
  behind_parameters ls at zero = omega arith
  behind_parameters [] at (suc m) = omega arith
  behind_parameters (l ∷ ls) at (suc m) =
      omega (arith, behind_parameters ls (at + words_of p.aggregates l.ty) m, words_cons l (take m ls))

  -- other locals take theirs where they are private
  behind_private : (ls : List LocalRow) (at : ℕ) → behind_locals p at 0 (length ls) ls ≡ at + words_in p (private_types ls)
  behind_private [] at = omega arith
  behind_private (l ∷ ls) at = on (λ at. behind_private ls at) l.is_shared
    where
      on : ((at : ℕ) → behind_locals p at 0 (length ls) ls ≡ at + words_in p (private_types ls)) → (b : Bool) → behind_locals p (at + (if b then 0 else words_of p.aggregates l.ty)) 0 (length ls) ls ≡ at + words_in p (local_types (if (if b then false else true) then l ∷ filter (λ (l : LocalRow). if l.is_shared then false else true) ls else filter (λ (l : LocalRow). if l.is_shared then false else true) ls))
      on rest true = omega (arith, rest (at + 0))
      on rest false = omega (arith, rest (at + words_of p.aggregates l.ty), words_cons l (filter (λ (l : LocalRow). if l.is_shared then false else true) ls))

  -- all of them
  pub behind_all : (ls : List LocalRow) (at m : ℕ) → behind_locals p at m (length ls) ls ≡ at + (words_in p (local_types (take m ls)) + words_in p (private_types (drop m ls)))
  behind_all ls at zero = omega (arith, behind_private ls at)
  behind_all [] at (suc m) = omega arith
  behind_all (l ∷ ls) at (suc m) = omega (arith, behind_all ls (at + words_of p.aggregates l.ty) m, words_cons l (take m ls))

  -- ---- functions

  given_fit : (f : FunctionRow) → home_in p (Some f) f.parameters + 16 ≤ function_slots p f
  given_fit f = omega (arith, behind_parameters f.locals (length f.around) f.parameters)

  module _ (M : IsWithin p) where
    slots_few : greatest_by (function_slots p) p.functions ≤ 16384
    unfolding slots
    slots_few = omega (arith, M.slots)

    has_room : (number : ℕ) (f : FunctionRow) → function_slots p f ≤ 16384 → HasRoom (lowered_function p number f)
    has_room number f le = record {
      stack = le;
      slots = omega (arith, given_fit f);
      arguments = omega (arith, given_fit f);
    }

    have_room : (number : ℕ) (fs : List FunctionRow) → greatest_by (function_slots p) fs ≤ 16384 → AllByRecursion HasRoom (functions_from p number fs)
    have_room number [] le = tt
    have_room number (f ∷ fs) le = (has_room number f (omega (arith, le)), have_room (number + 1) fs (omega (arith, le)))

    pub rooms : All HasRoom (lowered p).functions
    rooms = All-from_recursion HasRoom (functions_from p 0 p.functions) (have_room 0 p.functions slots_few)
