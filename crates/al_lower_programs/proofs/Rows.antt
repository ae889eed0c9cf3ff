-- The functions of a lowered program, and what well-typed programs have of their types.
use Rattle.std.proofs.Common.{◌≡◌, ℕ, zero, suc, ◌+◌, List, [], ◌∷◌, ◌++◌, take, length, Option, Some, None, refl, sym, ap, ap₂, ◌∙◌, subst, ⊎_elim, arith, length-append}
use Rattle.std.specs.Prelude.{Bool, true, false, ◌&&◌, All, slice_get, sum_by}
use Rattle.std.specs.List.{AllByRecursion, flat_map}
use Rattle.std.proofs.lemmas.List.{append_assoc}
use Rattle.std.proofs.lemmas.List.Elements.{All-head, All-tail, All-take, recursion_from_All}
use Rattle.std.proofs.lemmas.List.Sums.{sum_by-cons}
use Rattle.std.proofs.lemmas.Option.{same_Some}
use Rattle.al_typed.specs.declared.ty.Ty.{Ty, Void, Integer, Pointer', Array', Chan', Tuple', Aggregate, Function'}
use Rattle.al_typed.specs.declared.ty.Ty.TheVariants as ty
use Rattle.al_typed.specs.declared.ty.Ty.TheViews.{out-Ty}
use denote.Hole.Carrier.{out}
use Rattle.al_typed.specs.declared.program.Aggregate.{Aggregate as AggregateRow}
use Rattle.al_typed.specs.declared.program.Function.{Function as FunctionRow}
use Rattle.al_typed.specs.declared.program.Global.{Global as GlobalRow}
use Rattle.al_typed.specs.declared.program.Local.{Local as LocalRow}
use Rattle.al_typed.specs.declared.program.Program.{Program}
use Rattle.al_typed.specs.Types.{is_void, is_array, may_be_private, is_complete}
use Rattle.al_typed.specs.Typed.{parameter_types, local_types}
use Rattle.al_typed.specs.WellTyped.{is_sound, is_stored, IsLocalOf, IsFunction, IsGlobal, IsWellTyped}
use Rattle.al_meaning.specs.Words.{zero_words}
use Rattle.al_meaning.specs.Places.{function_at, locals_of, private_words_of, private_place, fresh_privates}
use Rattle.al_meaning.specs.Calls.{slots_of, line_of_name}
use Rattle.al_ir.specs.declared.ir.Operation.{Operation}
use Rattle.al_ir.specs.Control.{code_of, arguments_of, stack_of, line_of}
use Rattle.al_ir.specs.Control as operations
use Rattle.al_lowered.specs.Rules.{IsPrivate, private_units}
use Rattle.al_lower_words.specs.Units.{AreOf}
use Rattle.al_lower_code.specs.Functions.{lowered_function, functions_from, lowered}
use Rattle.al_lower_steps.specs.Site.{Site, HasAt}
use Rattle.al_lower_steps.specs.Given.{HasFrames}
use Rattle.al_lower_claims.proofs.Homes.{HasNoArrays}
use Rattle.al_lower_claims.proofs.Privates.{NoArrayGlobals, words_counted}
use Rattle.al_lower_returns.proofs.Begins.{NoArrays}
use Rattle.al_lower_returns.proofs.Returns.{zero_fits}
use Rattle.al_lower_statements.proofs.Terms.{IsPassed}
use Rattle.al_lower_programs.proofs.Layouts.{get_map, get_take}

-- ---- lists

pub all_at : {A : Type 0} (P : A → Type 0) (xs : List A) (n : ℕ) (x : A) → All P xs → slice_get xs n ≡ Some x → P x
all_at P [] n x h e = absurd (cc)
all_at P (a ∷ xs) zero x h e = subst P (same_Some a x e) (All-head P a xs h)
all_at P (a ∷ xs) (suc n) x h e = all_at P xs n x (All-tail P a xs h) e

get_here : (before : List Operation) (o : Operation) (ops : List Operation) → slice_get (before ++ o ∷ ops) (length before) ≡ Some o
get_here [] o ops = refl
get_here (b ∷ before) o ops = get_here before o ops

-- operations that a function has behind others
pub has_from : (x : Site) (before ops : List Operation) → code_of (operations.function_at x.ir x.function) ≡ before ++ ops → HasAt x (length before) ops
has_from x before [] e = tt
has_from x before (o ∷ ops) e =
    let len : length (before ++ o ∷ []) ≡ length before + 1 = length-append before (o ∷ []) in (
      ap (λ c. slice_get c (length before)) e ∙ get_here before o ops,
      subst (λ n. HasAt x n ops) len (has_from x (before ++ o ∷ []) ops (e ∙ sym (append_assoc before (o ∷ []) ops))),
    )

-- ---- functions

module _ (p : Program) where
  rows_at : (fs : List FunctionRow) (k n : ℕ) (g : FunctionRow) → slice_get fs n ≡ Some g → slice_get (functions_from p k fs) n ≡ Some (lowered_function p (k + n) g)
  rows_at [] k n g e = absurd (cc)
  rows_at (f ∷ fs) k zero g e = let z : k ≡ k + 0 = omega arith in ap₂ (λ (i : ℕ) (r : FunctionRow). Some (lowered_function p i r)) z (same_Some f g e)
  rows_at (f ∷ fs) k (suc n) g e = let z : k + 1 + n ≡ k + suc n = omega arith in rows_at fs (k + 1) n g e ∙ ap (λ i. Some (lowered_function p i g)) z

  rows_none : (fs : List FunctionRow) (k n : ℕ) → slice_get fs n ≡ None → slice_get (functions_from p k fs) n ≡ None
  rows_none [] k n e = refl
  rows_none (f ∷ fs) k zero e = absurd (cc)
  rows_none (f ∷ fs) k (suc n) e = rows_none fs (k + 1) n e

  pub row_is : (number : ℕ) (g : FunctionRow) → function_at p number ≡ Some g → operations.function_at (lowered p) number ≡ Some (lowered_function p number g)
  row_is number g e = let z : 0 + number ≡ number = omega arith in rows_at p.functions 0 number g e ∙ ap (λ i. Some (lowered_function p i g)) z

  pub frames : HasFrames p (lowered p)
  frames = record {
    stack = λ number. stack number (function_at p number) refl;
    line = λ number. line number (function_at p number) refl;
  }
    where
      stack : (number : ℕ) (o : Option FunctionRow) → function_at p number ≡ o → stack_of (operations.function_at (lowered p) number) ≡ slots_of p (function_at p number)
      stack number (Some g) e = ap stack_of (row_is number g e) ∙ ap (slots_of p) (sym e)
      stack number None e = ap stack_of (rows_none p.functions 0 number e) ∙ ap (slots_of p) (sym e)

      line : (number : ℕ) (o : Option FunctionRow) → function_at p number ≡ o → line_of (operations.function_at (lowered p) number) ≡ line_of_name (function_at p number)
      line number (Some g) e = ap line_of (row_is number g e) ∙ ap line_of_name (sym e)
      line number None e = ap line_of (rows_none p.functions 0 number e) ∙ ap line_of_name (sym e)

-- ---- types

pub both_true : (a b : Bool) → (a && b) ≡ true → (a ≡ true) × (b ≡ true)
both_true true true e = (refl, refl)
both_true true false e = absurd (cc)
both_true false b e = absurd (cc)

pub complete_not_void : (rows : List AggregateRow) (t : Ty) → is_complete rows t ≡ true → is_void t ≡ false
unfolding is_complete is_void out-Ty out
complete_not_void rows Void e = absurd (cc)
complete_not_void rows (Integer k) e = refl
complete_not_void rows (Pointer' _ to) e = refl
complete_not_void rows (Array' _ element count) e = refl
complete_not_void rows (Chan' _ element capacity) e = refl
complete_not_void rows (Tuple' _ parts) e = refl
complete_not_void rows (Aggregate number) e = refl
complete_not_void rows (Function' _ returns _ parameters) e = refl

pub private_not_array : (t : Ty) → may_be_private t ≡ true → is_array t ≡ false
unfolding may_be_private is_array out-Ty out
private_not_array Void e = refl
private_not_array (Integer k) e = refl
private_not_array (Pointer' _ to) e = refl
private_not_array (Array' _ element count) e = absurd (cc)
private_not_array (Chan' _ element capacity) e = refl
private_not_array (Tuple' _ parts) e = refl
private_not_array (Aggregate number) e = refl
private_not_array (Function' _ returns _ parameters) e = refl

pub void_is : is_void ty.Void ≡ true
unfolding is_void out-Ty out
void_is = refl

-- ---- what well-typed programs have

module _ (p : Program) (W : IsWellTyped p) where
  pub stored_not_void : (t : Ty) → is_stored p.aggregates t ≡ true → is_void t ≡ false
  stored_not_void t e = complete_not_void p.aggregates t (both_true (is_sound p.aggregates t) (is_complete p.aggregates t) e).1

  pub globals_plain : NoArrayGlobals p p.globals
  globals_plain i g e private = private_not_array g.ty ((all_at (IsGlobal p) p.globals i g W.globals e).is_private private).0

  module _ (number : ℕ) (g : FunctionRow) (there : function_at p number ≡ Some g) where
    pub function_is : IsFunction p number g
    function_is = W.functions number g there

    pub local_not_void : (n : ℕ) (l : LocalRow) → slice_get g.locals n ≡ Some l → is_void l.ty ≡ false
    local_not_void n l e = stored_not_void l.ty (all_at (IsLocalOf p) g.locals n l function_is.locals e).0

    pub private_plain : HasNoArrays p number
    private_plain n l x =
        let row : slice_get g.locals n ≡ Some l = ap (λ r. slice_get (locals_of r) n) (sym there) ∙ x.row in
        private_not_array l.ty ((all_at (IsLocalOf p) g.locals n l function_is.locals row).1 x.private)

    pub parameters_plain : NoArrays p g.parameters g.locals
    parameters_plain n l e lt = all_at (λ t. is_array t ≡ false) (parameter_types g) n l.ty function_is.no_arrays (get_map (λ (r : LocalRow). r.ty) (take g.parameters g.locals) n l (get_take g.locals g.parameters n l e lt))

    pub parameters_passed : AllByRecursion IsPassed (parameter_types g)
    parameters_passed = passed (take g.parameters g.locals) (recursion_from_All (IsLocalOf p) (take g.parameters g.locals) (All-take (IsLocalOf p) g.parameters g.locals function_is.locals)) (recursion_from_All (λ t. is_array t ≡ false) (parameter_types g) function_is.no_arrays)
      where
        passed : (ls : List LocalRow) → AllByRecursion (IsLocalOf p) ls → AllByRecursion (λ t. is_array t ≡ false) (local_types ls) → AllByRecursion IsPassed (local_types ls)
        passed [] h g = tt
        passed (l ∷ ls) h g = ((stored_not_void l.ty h.0.0, g.0), passed ls h.1 g.1)

    pub returns_whole : is_void g.returns ≡ false → is_array g.returns ≡ false
    returns_whole nv = ⊎_elim (λ e. absurd (no_both (sym void_is ∙ (ap is_void (sym e) ∙ nv)))) (λ x. x.1) function_is.returns
      where
        no_both : true ≡ false → ⊥
        no_both e = cc

  -- ---- private globals

  places_are : (gs : List GlobalRow) → NoArrayGlobals p gs → sum_by (private_words_of p) gs ≡ length (flat_map (private_units p) gs)
  places_are [] plain = refl
  places_are (g ∷ gs) plain =
      let a = sum_by-cons (private_words_of p) g gs in
      let w = words_counted p g (plain zero g refl) in
      let h = places_are gs (λ i. plain (suc i)) in
      omega (arith, a, w, h, length-append (private_units p g) (flat_map (private_units p) gs))

  take_all : {A : Type 0} (xs : List A) → take (length xs) xs ≡ xs
  take_all [] = refl
  take_all (x ∷ xs) = ap (λ l. x ∷ l) (take_all xs)

  pub fresh_fits : IsPrivate p (fresh_privates p)
  fresh_fits =
      let all = flat_map (private_units p) p.globals in
      let count : private_place p (length p.globals) ≡ length all = ap (sum_by (private_words_of p)) (take_all p.globals) ∙ places_are p.globals globals_plain in
      subst (λ n. AreOf all (zero_words n)) (sym count) (zero_fits all)
