-- Functions of one type take equally many words.
use Rattle.std.proofs.Common.{◌≡◌, ℕ, zero, suc, ◌+◌, Bool, true, false, List, [], ◌∷◌, length, Some, refl, sym, ap, ◌∙◌, subst, arith}
use Rattle.std.specs.Prelude.{◌==◌, if◌then◌else◌, slice_get}
use Rattle.std.specs.List.{AllByRecursion, flat_map}
use Rattle.std.proofs.lemmas.List.Elements.{All-from_recursion, recursion_from_All}
use Rattle.std.proofs.lemmas.Option.{same_Some}
use Rattle.al_typed.specs.declared.ty.Ty.{Ty}
use Rattle.al_typed.specs.declared.program.Function.{Function as FunctionRow}
use Rattle.al_typed.specs.declared.program.Program.{Program}
use Rattle.al_typed.specs.Types.{is_array}
use Rattle.al_typed.specs.Typed.{function_type, parameter_types}
use Rattle.al_typed.specs.WellTyped.{IsWellTyped}
use Rattle.al_typed.specs.Alike.{are_alike}
use Rattle.al_meaning.specs.Calls.{has_type}
use Rattle.al_meaning.specs.Here.{units_in}
use Rattle.al_ir.specs.Control.{arguments_of, function_at}
use Rattle.al_lower_code.specs.Classes.{all_of_type, class_at, class_number, classes_from}
use Rattle.al_lower_code.specs.Functions.{lowered}
use Rattle.al_lower_code.specs.Homes.{behind_locals}
use Rattle.al_lower_pointers.proofs.Alike.{same_calls}
use Rattle.al_lower_bodies.proofs.Starting.{counted}
use Rattle.al_lower_programs.proofs.Rows.{row_is}
use Rattle.al_lowering.proofs.Opening.{behind_takes}
use Rattle.rv_meant.specs.Meant.{TakeEquallyMany, first_takes}

-- no branch of a par has a type
typed : (t : Ty) (around : List ℕ) (f : FunctionRow) → has_type t around f ≡ true → (around ≡ []) × (are_alike t (function_type f) ≡ true)
typed t [] f e = (refl, e)
typed t (n ∷ around) f e = absurd (cc)

module _ (p : Program) (W : IsWellTyped p) where
  abbrev words_of : FunctionRow → ℕ
  words_of f = length (flat_map (units_in p) (parameter_types f))

  abbrev Takes : (words number : ℕ) → Type 0
  Takes words number = arguments_of (function_at (lowered p) number) ≡ words

  takes : (number : ℕ) (f : FunctionRow) → slice_get p.functions number ≡ Some f → f.around ≡ [] → Takes (words_of f) number
  takes number f there alone =
      ap arguments_of (row_is p number f there)
      ∙ (ap (λ (around : List ℕ). behind_locals p (length around) f.parameters f.parameters f.locals) alone
      ∙ (behind_takes p f.locals 0 f.parameters
      ∙ counted p (parameter_types f) (recursion_from_All (λ t. is_array t ≡ false) (parameter_types f) (W.functions number f there).no_arrays)))

  one_takes : (f g : FunctionRow) (number : ℕ) → slice_get p.functions number ≡ Some g → has_type (function_type f) g.around g ≡ true → Takes (words_of f) number
  one_takes f g number there is =
      let a = typed (function_type f) g.around g is in
      takes number g there a.0 ∙ sym (ap length (same_calls p f.returns g.returns (parameter_types f) (parameter_types g) a.1).taken)

  -- these functions, the first of which has that number, stand in the program
  abbrev StandFrom : (number : ℕ) → List FunctionRow → Type 0
  StandFrom number fs = (i : ℕ) (g : FunctionRow) → slice_get fs i ≡ Some g → slice_get p.functions (number + i) ≡ Some g

  first_stands : (number : ℕ) (g : FunctionRow) (fs : List FunctionRow) → StandFrom number (g ∷ fs) → slice_get p.functions number ≡ Some g
  first_stands number g fs stand = let z : number + 0 ≡ number = omega arith in subst (λ n. slice_get p.functions n ≡ Some g) z (stand 0 g refl)

  others_stand : (number : ℕ) (g : FunctionRow) (fs : List FunctionRow) → StandFrom number (g ∷ fs) → StandFrom (number + 1) fs
  others_stand number g fs stand i h e = let z : number + suc i ≡ number + 1 + i = omega arith in subst (λ n. slice_get p.functions n ≡ Some h) z (stand (suc i) h e)

  all_take : (f : FunctionRow) (number : ℕ) (fs : List FunctionRow) → StandFrom number fs → AllByRecursion (Takes (words_of f)) (all_of_type (function_type f) number fs)
  all_take f number [] stand = tt
  all_take f number (g ∷ fs) stand = on (has_type (function_type f) g.around g) refl (all_take f (number + 1) fs (others_stand number g fs stand)) where
    on : (b : Bool) → has_type (function_type f) g.around g ≡ b → AllByRecursion (Takes (words_of f)) (all_of_type (function_type f) (number + 1) fs)
        → AllByRecursion (Takes (words_of f)) (if b then number ∷ all_of_type (function_type f) (number + 1) fs else all_of_type (function_type f) (number + 1) fs)
    on true is rest = (one_takes f g number (first_stands number g fs stand) is, rest)
    on false is rest = rest

  abbrev Equally : List ℕ → Type 0
  Equally fs = AllByRecursion (Takes (first_takes (lowered p) fs)) fs

  as_first : (words : ℕ) (fs : List ℕ) → AllByRecursion (Takes words) fs → Equally fs
  as_first words [] h = tt
  as_first words (f ∷ fs) h = subst (λ n. AllByRecursion (Takes n) (f ∷ fs)) (sym h.0) h

  class_takes : (number : ℕ) (f : FunctionRow) → Equally (class_at p number f)
  class_takes number f = on (class_number p (function_type f) == number) where
    on : (b : Bool) → Equally (if b then all_of_type (function_type f) 0 p.functions else [])
    on true = as_first (words_of f) (all_of_type (function_type f) 0 p.functions) (all_take f 0 p.functions (λ i g e. let z : i ≡ 0 + i = omega arith in subst (λ n. slice_get p.functions n ≡ Some g) z e))
    on false = tt

  classes_take : (number : ℕ) (fs : List FunctionRow) (class : ℕ) (names : List ℕ) → slice_get (classes_from p number fs) class ≡ Some names → Equally names
  classes_take number [] zero names e = subst Equally (same_Some [] names e) tt
  classes_take number [] (suc class) names e = absurd (cc)
  classes_take number (f ∷ fs) zero names e = subst Equally (same_Some (class_at p number f) names e) (class_takes number f)
  classes_take number (f ∷ fs) (suc class) names e = classes_take (number + 1) fs class names e

  pub take_equally_many : TakeEquallyMany (lowered p)
  take_equally_many class names e = All-from_recursion (Takes (first_takes (lowered p) names)) names (classes_take 0 p.functions class names e)
