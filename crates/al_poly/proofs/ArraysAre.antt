-- Pointers and arrays, one more.
use Rattle.std.proofs.Common.{◌≡◌, ℕ, ◌+◌, add-one, List, [], ◌∷◌, ◌++◌, fold, length, Option, refl, ap}
use Rattle.std.proofs.lemmas.List.{reverse-append}
use Rattle.al_base.specs.declared.place.Place.{Place}
use Rattle.al_tree.specs.declared.type_tree.Bound.{Bound}
use Rattle.al_tree.specs.Constants.{bound_number}
use Rattle.al_poly.specs.declared.concrete_type.ConcreteType.{ConcreteType}
use Rattle.al_poly.specs.declared.concrete_type.ConcreteType.TheVariants as ty
use Rattle.al_poly.specs.declared.names.Names.{Names}
use Rattle.al_poly.specs.Concrete.{pointers}
use Rattle.al_poly.specs.Types.{arrays, plain_arrays, array_type, bound_of}

pub pointers-none : (t : ConcreteType) → pointers 0 t ≡ t
unfolding pointers
pointers-none t = refl

pub pointers-more : (n : ℕ) (t : ConcreteType) → pointers (n + 1) t ≡ ty.Pointer (pointers n t)
unfolding pointers
pointers-more n t = rw (add-one) refl

pub ruleset pointers_are = (pointers-none, pointers-more)

module _ (names : Names) (at : Place) where
  pub arrays-none : (t : Option ConcreteType) → arrays names at [] t ≡ t
  unfolding arrays
  arrays-none t = refl

  pub arrays-last : (front : List (Option Bound)) (b : Option Bound) (t : Option ConcreteType) → arrays names at (front ++ b ∷ []) t ≡ arrays names at front (array_type t (bound_of names at b))
  unfolding arrays
  arrays-last front b t = ap (fold (λ t b. array_type t (bound_of names at b)) t) (reverse-append front (b ∷ []))

  pub plain_arrays-none : (t : Option ConcreteType) → plain_arrays names at [] t ≡ t
  unfolding plain_arrays
  plain_arrays-none t = refl

  pub plain_arrays-last : (front : List Bound) (b : Bound) (t : Option ConcreteType) → plain_arrays names at (front ++ b ∷ []) t ≡ plain_arrays names at front (array_type t (bound_number names.constants.list b at))
  unfolding plain_arrays
  plain_arrays-last front b t = ap (fold (λ t b. array_type t (bound_number names.constants.list b at)) t) (reverse-append front (b ∷ []))

  pub arrays-end : (bounds : List (Option Bound)) (t : Option ConcreteType) → length bounds ≡ 0 → arrays names at bounds t ≡ t
  arrays-end [] t h = arrays-none t
  arrays-end (b ∷ bounds) t h = cc

  pub plain_arrays-end : (bounds : List Bound) (t : Option ConcreteType) → length bounds ≡ 0 → plain_arrays names at bounds t ≡ t
  plain_arrays-end [] t h = plain_arrays-none t
  plain_arrays-end (b ∷ bounds) t h = cc

pub ruleset arrays_are = (arrays-none, arrays-last, arrays-end, plain_arrays-none, plain_arrays-last, plain_arrays-end)
