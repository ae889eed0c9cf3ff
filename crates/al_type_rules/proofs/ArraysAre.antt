-- Pointers and arrays, one more.
use Rattle.std.proofs.Common.{◌≡◌, ℕ, ◌+◌, add-one, List, [], ◌∷◌, ◌++◌, fold, length, Option, refl, ap}
use Rattle.std.proofs.lemmas.List.{reverse-append}
use Rattle.al_base.specs.declared.place.Place.{Place}
use Rattle.al_tree.specs.declared.type_tree.Bound.{Bound}
use Rattle.al_tree.specs.Constants.{bound_number}
use Rattle.al_typed.specs.declared.ty.Ty.{Ty}
use Rattle.al_typed.specs.declared.ty.Ty.TheVariants as ty
use Rattle.al_environment.specs.declared.environment.Environment.{Environment}
use Rattle.al_environment.specs.Written.{array_type}
use Rattle.al_type_rules.specs.Types.{pointers, arrays, parameter_arrays, bound_of}

pub pointers-none : (t : Ty) → pointers 0 t ≡ t
unfolding pointers
pointers-none t = refl

pub pointers-more : (n : ℕ) (t : Ty) → pointers (n + 1) t ≡ ty.Pointer (pointers n t)
unfolding pointers
pointers-more n t = rw (add-one) refl

pub ruleset pointers_are = (pointers-none, pointers-more)

module _ (env : Environment) (at : Place) where
  pub arrays-none : (t : Option Ty) → arrays env at [] t ≡ t
  unfolding arrays
  arrays-none t = refl

  pub arrays-last : (front : List Bound) (b : Bound) (t : Option Ty) → arrays env at (front ++ b ∷ []) t ≡ arrays env at front (array_type t (bound_number env.scopes.constants.list b at))
  unfolding arrays
  arrays-last front b t = ap (fold (λ t b. array_type t (bound_number env.scopes.constants.list b at)) t) (reverse-append front (b ∷ []))

  pub arrays-end : (bounds : List Bound) (t : Option Ty) → length bounds ≡ 0 → arrays env at bounds t ≡ t
  arrays-end [] t h = arrays-none t
  arrays-end (b ∷ bounds) t h = cc

  pub parameter_arrays-none : (t : Option Ty) → parameter_arrays env at [] t ≡ t
  unfolding parameter_arrays
  parameter_arrays-none t = refl

  pub parameter_arrays-last : (front : List (Option Bound)) (b : Option Bound) (t : Option Ty) → parameter_arrays env at (front ++ b ∷ []) t ≡ parameter_arrays env at front (array_type t (bound_of env at b))
  unfolding parameter_arrays
  parameter_arrays-last front b t = ap (fold (λ t b. array_type t (bound_of env at b)) t) (reverse-append front (b ∷ []))

  pub parameter_arrays-end : (bounds : List (Option Bound)) (t : Option Ty) → length bounds ≡ 0 → parameter_arrays env at bounds t ≡ t
  parameter_arrays-end [] t h = parameter_arrays-none t
  parameter_arrays-end (b ∷ bounds) t h = cc

pub ruleset arrays_are = (arrays-none, arrays-last, arrays-end, parameter_arrays-none, parameter_arrays-last, parameter_arrays-end)
