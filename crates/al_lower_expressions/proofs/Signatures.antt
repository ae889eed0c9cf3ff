-- What functions take and return.
use Rattle.std.proofs.Common.{◌≡◌, ℕ, List, [], ◌∷◌, take, Some, refl, sym, ap, subst, ⊎_elim}
use Rattle.std.specs.Prelude.{⊤, Bool, true, false, ◌&&◌, ◌||◌, not, slice_get}
use Rattle.std.specs.List.{AllByRecursion}
use Rattle.std.proofs.lemmas.List.Elements.{recursion_from_All, All-take}
use Rattle.al_typed.specs.declared.program.Function.{Function as FunctionRow}
use Rattle.al_typed.specs.declared.program.Local.{Local as LocalRow}
use Rattle.al_typed.specs.declared.program.Program.{Program}
use Rattle.al_typed.specs.declared.ty.Ty.{Ty, Row_of-Ty, end_of-Ty, more_of-Ty, items-the_row-Ty, items_hidden-the_row-Ty-1}
use Rattle.al_typed.specs.declared.ty.Ty.TheVariants as ty
use Rattle.al_typed.specs.declared.ty.Ty.TheBlock.{hidden-the_row-Ty-0, hidden-the_row-Ty-1}
use denote.Hole.Carrier.{hidden}
use Rattle.al_typed.specs.Types.{is_void, is_array, is_complete, is_whole}
use Rattle.al_typed.specs.Typed.{function_type, local_types, parameter_types}
use Rattle.al_typed.specs.WellTyped.{IsFunction, IsLocalOf, is_sound, are_sound, is_stored}
use Rattle.al_lower_claims.proofs.Claims.{Setting}
use Rattle.al_lower_expressions.proofs.Types.{both_hold, AreParts, stored_part, row_parts, void_is}
use Rattle.al_lower_expressions.proofs.Premises.{Premises}

both_true : (a b : Bool) → a ≡ true → b ≡ true → (a && b) ≡ true
both_true true true p q = refl
both_true true false p q = q
both_true false b p q = p

not_false : (b : Bool) → b ≡ false → not b ≡ true
not_false true e = absurd (cc)
not_false false e = refl

module _ (p : Program) where
  -- each is stored and no array
  abbrev AreGiven : List Ty → Type 0
  AreGiven [] = ⊤
  AreGiven (t ∷ ts) = (is_stored p.aggregates t ≡ true) × ((is_array t ≡ false) × AreGiven ts)

  given_of : (ls : List LocalRow) → AllByRecursion (IsLocalOf p) ls → AllByRecursion (λ t. is_array t ≡ false) (local_types ls) → AreGiven (local_types ls)
  given_of [] h g = tt
  given_of (l ∷ ls) h g = (h.0.0, (g.0, given_of ls h.1 g.1))

  pub parameters_given : (n : ℕ) (f : FunctionRow) → IsFunction p n f → AreGiven (parameter_types f)
  parameters_given n f h = given_of (take f.parameters f.locals) (recursion_from_All (IsLocalOf p) (take f.parameters f.locals) (All-take (IsLocalOf p) f.parameters f.locals h.locals)) (recursion_from_All (λ t. is_array t ≡ false) (parameter_types f) h.no_arrays)

  pub given_parts : (ts : List Ty) → AreGiven ts → AreParts ts
  given_parts [] h = tt
  given_parts (t ∷ ts) h = (stored_part p.aggregates t h.0 h.1.0, given_parts ts h.1.1)

  row_sound : {m : _} (r : Row_of-Ty m) → AreGiven (items-the_row-Ty m r) → are_sound p.aggregates r ≡ true
  row_sound end_of-Ty h = refl
  row_sound (more_of-Ty t rest) h =
      let s = both_hold (is_sound p.aggregates t) (is_complete p.aggregates t) h.0 in
      both_true (is_sound p.aggregates t && is_whole p.aggregates t) (are_sound p.aggregates rest) (both_true (is_sound p.aggregates t) (is_whole p.aggregates t) s.0 (both_true (is_complete p.aggregates t) (not (is_array t)) s.1 (not_false (is_array t) h.1.0))) (row_sound rest h.1.1)

  pub tuple_parts : (ts : List Ty) → is_sound p.aggregates (ty.Tuple ts) ≡ true → AreParts ts
  tuple_parts ts e =
      let q = both_hold (are_sound p.aggregates (hidden-the_row-Ty-1 ts)) _ e in
      subst AreParts (items_hidden-the_row-Ty-1 ts) (row_parts p.aggregates (hidden-the_row-Ty-1 ts) q.0)

module _ (k : Setting) (h : Premises k) where
  pub returned_sound : (n : ℕ) (f : FunctionRow) → slice_get k.ways.program.functions n ≡ Some f → is_sound k.ways.program.aggregates f.returns ≡ true
  returned_sound n f e = ⊎_elim (λ v. subst (λ t. is_sound k.ways.program.aggregates t ≡ true) (sym v) refl) (λ s. (both_hold (is_sound k.ways.program.aggregates f.returns) (is_complete k.ways.program.aggregates f.returns) s.0).0) (h.well_typed.functions n f e).returns

  pub returned_void_or_whole : (n : ℕ) (f : FunctionRow) → slice_get k.ways.program.functions n ≡ Some f → (is_void f.returns || is_whole k.ways.program.aggregates f.returns) ≡ true
  returned_void_or_whole n f e = ⊎_elim
      (λ v. subst (λ t. (is_void t || is_whole k.ways.program.aggregates t) ≡ true) (sym v) (ap (λ b. b || is_whole k.ways.program.aggregates ty.Void) void_is))
      (λ s. either (is_void f.returns) (both_true (is_complete k.ways.program.aggregates f.returns) (not (is_array f.returns)) (both_hold (is_sound k.ways.program.aggregates f.returns) (is_complete k.ways.program.aggregates f.returns) s.0).1 (not_false (is_array f.returns) s.1)))
      (h.well_typed.functions n f e).returns
    where
      either : (b : Bool) {c : Bool} → c ≡ true → (b || c) ≡ true
      either true e = refl
      either false e = e

  pub signature_sound : (n : ℕ) (f : FunctionRow) → slice_get k.ways.program.functions n ≡ Some f → is_sound k.ways.program.aggregates (function_type f) ≡ true
  unfolding hidden-the_row-Ty-0 hidden
  signature_sound n f e =
      let given = parameters_given k.ways.program n f (h.well_typed.functions n f e) in
      both_true (is_sound k.ways.program.aggregates f.returns && (is_void f.returns || is_whole k.ways.program.aggregates f.returns)) (are_sound k.ways.program.aggregates (hidden-the_row-Ty-1 (parameter_types f)))
      (both_true (is_sound k.ways.program.aggregates f.returns) (is_void f.returns || is_whole k.ways.program.aggregates f.returns) (returned_sound n f e) (returned_void_or_whole n f e))
      (row_sound k.ways.program (hidden-the_row-Ty-1 (parameter_types f)) (subst (AreGiven k.ways.program) (sym (items_hidden-the_row-Ty-1 (parameter_types f))) given))
