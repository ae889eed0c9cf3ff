-- There are few functions, in all and of each type, and few words of private globals. The main function is there.
use Rattle.std.proofs.Common.{◌≡◌, ℕ, zero, suc, ◌+◌, ◌<◌, ◌≤◌, ◌⊎◌, inl, inr, Bool, true, false, if◌then◌else◌, List, [], ◌∷◌, length, take, refl, ap, ◌∙◌, arith}
use Rattle.std.specs.Prelude.{◌==◌, All, Some, slice_get, sum_by}
use Rattle.std.specs.List.{AllByRecursion}
use Rattle.std.proofs.lemmas.List.Elements.{All-from_recursion}
use Rattle.std.proofs.lemmas.Option.{same_Some, slice_get_within}
use Rattle.al_typed.specs.declared.ty.Ty.{Ty}
use Rattle.al_typed.specs.declared.ty.Ty.TheVariants as ty
use Rattle.al_typed.specs.declared.ty.Ty.TheViews.{out-Ty}
use Rattle.al_typed.specs.declared.ty.Ty.TheBlock.{hidden-the_row-Ty-0}
use denote.Hole.Carrier.{hidden, out}
use Rattle.al_typed.specs.declared.program.Function.{Function as FunctionRow}
use Rattle.al_typed.specs.declared.program.Program.{Program}
use Rattle.al_typed.specs.Measures.{IsWithin, private_words, slots, words_in}
use Rattle.al_typed.specs.Sound.{HasSoundTypes}
use Rattle.al_typed.specs.Typed.{function_type, parameter_types}
use Rattle.al_typed.specs.Types.{byte_pointer, int, is_array}
use Rattle.al_typed.specs.WellTyped.{IsWellTyped}
use Rattle.al_typed.specs.Layout.{layout, layout_of, words_of}
use Rattle.al_meaning.specs.Calls.{has_type}
use Rattle.al_meaning.specs.Places.{private_place, private_words_of}
use Rattle.al_ir.specs.Control.{arguments_of, function_at}
use Rattle.al_lower_code.specs.Homes.{home_in}
use Rattle.al_lower_code.specs.Classes.{all_of_type, class_at, class_number, classes_from}
use Rattle.al_lower_code.specs.Functions.{functions_from, lowered, lowered_function}
use Rattle.al_weights.proofs.Weights.{few_functions}
use Rattle.al_lower_bounds.proofs.Rooms.{behind_parameters}

take_all : {A : Type 0} (xs : List A) → take (length xs) xs ≡ xs
take_all [] = refl
take_all (x ∷ xs) = ap (λ l. x ∷ l) (take_all xs)

of_type : (t : Ty) (number : ℕ) (fs : List FunctionRow) → length (all_of_type t number fs) ≤ length fs
of_type t number [] = omega arith
of_type t number (f ∷ fs) = on (has_type t f.around f) (of_type t (number + 1) fs)
  where
    on : (b : Bool) → length (all_of_type t (number + 1) fs) ≤ length fs → length (if b then number ∷ all_of_type t (number + 1) fs else all_of_type t (number + 1) fs) ≤ suc (length fs)
    on true h = omega (arith, h)
    on false h = omega (arith, h)

module _ (p : Program) where
  as_many : (number : ℕ) (fs : List FunctionRow) → length (functions_from p number fs) ≡ length fs
  as_many number [] = refl
  as_many number (f ∷ fs) = ap suc (as_many (number + 1) fs)

  get_lowered : (number k : ℕ) (fs : List FunctionRow) (f : FunctionRow) → slice_get fs k ≡ Some f → slice_get (functions_from p number fs) k ≡ Some (lowered_function p (number + k) f)
  get_lowered number k [] f e = absurd (cc)
  get_lowered number zero (g ∷ fs) f e =
      let z : number ≡ number + 0 = omega arith in
      ap (λ g. Some (lowered_function p number g)) (same_Some g f e) ∙ ap (λ n. Some (lowered_function p n f)) z
  get_lowered number (suc k) (g ∷ fs) f e =
      let z : number + 1 + k ≡ number + suc k = omega arith in
      get_lowered (number + 1) k fs f e ∙ ap (λ n. Some (lowered_function p n f)) z

  -- ---- how many

  module _ (M : IsWithin p) where
    pub privates : (lowered p).privates ≤ 16384
    unfolding slots
    privates =
        let all : private_place p (length p.globals) ≡ private_words p = ap (sum_by (private_words_of p)) (take_all p.globals) in
        omega (arith, all, M.slots)

    module _ (W : HasSoundTypes p) where
      pub count : length (lowered p).functions ≤ 65536
      count = omega (arith, as_many 0 p.functions, few_functions p M W)

      class_few : (number : ℕ) (f : FunctionRow) → length (class_at p number f) ≤ 65536
      class_few number f = on (class_number p (function_type f) == number)
        where
          on : (b : Bool) → length (if b then all_of_type (function_type f) 0 p.functions else []) ≤ 65536
          on true = omega (arith, of_type (function_type f) 0 p.functions, few_functions p M W)
          on false = omega arith

      classes_few : (number : ℕ) (fs : List FunctionRow) → AllByRecursion (λ (fs : List ℕ). length fs ≤ 65536) (classes_from p number fs)
      classes_few number [] = (omega arith, tt)
      classes_few number (f ∷ fs) = (class_few number f, classes_few (number + 1) fs)

      pub classes : All (λ (fs : List ℕ). length fs ≤ 65536) (lowered p).classes
      classes = All-from_recursion (λ (fs : List ℕ). length fs ≤ 65536) (classes_from p 0 p.functions) (classes_few 0 p.functions)

  -- ---- the main function

  module _ (W : IsWellTyped p) where
    main_row : slice_get p.functions p.main ≡ Some W.main_function
    main_row = W.main.is_there.0

    pub main : (lowered p).main < length (lowered p).functions
    main = omega (arith, as_many 0 p.functions, slice_get_within p.functions p.main W.main_function main_row)

    main_arguments : arguments_of (function_at (lowered p) p.main) ≡ words_in p (parameter_types W.main_function)
    main_arguments =
        let f = W.main_function in
        let here : slice_get (functions_from p 0 p.functions) p.main ≡ Some (lowered_function p (0 + p.main) f) = get_lowered 0 p.main p.functions f main_row in
        let none : length f.around ≡ 0 = ap length W.main.is_there.1 in
        let given : home_in p (Some f) f.parameters ≡ words_in p (parameter_types f) = omega (arith, none, behind_parameters p f.locals (length f.around) f.parameters) in
        ap arguments_of here ∙ given

    two_words : words_in p (int ∷ ty.Pointer byte_pointer ∷ []) ≡ 2
    unfolding words_of is_array layout layout_of out-Ty out hidden-the_row-Ty-0 hidden
    two_words = refl

    pub main_words : (arguments_of (function_at (lowered p) (lowered p).main) ≡ 0) ⊎ (arguments_of (function_at (lowered p) (lowered p).main) ≡ 2)
    main_words = on W.main.parameters
      where
        on : (parameter_types W.main_function ≡ []) ⊎ (parameter_types W.main_function ≡ int ∷ ty.Pointer byte_pointer ∷ []) → (arguments_of (function_at (lowered p) p.main) ≡ 0) ⊎ (arguments_of (function_at (lowered p) p.main) ≡ 2)
        on (inl e) = inl (main_arguments ∙ ap (words_in p) e)
        on (inr e) = inr (main_arguments ∙ (ap (words_in p) e ∙ two_words))
