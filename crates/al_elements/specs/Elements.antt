-- The elements of the channel types in types, added to a list.
use Rattle.std.specs.Prelude.{List, [], ◌∷◌, ◌++◌, fold}
use Rattle.al_typed.specs.declared.ty.Ty.{Ty, Void, Integer, Pointer', Array', Chan', Tuple', Aggregate, Function', Row_of-Ty, end_of-Ty, more_of-Ty}

-- The outer one first. What is in aggregates stands there.
abbrev mutual
  pub in_type : Ty → List Ty → List Ty
  in_type Void l = l
  in_type (Integer kind) l = l
  in_type (Pointer' _ (more_of-Ty to end_of-Ty)) l = in_type to l
  in_type (Array' _ (more_of-Ty element end_of-Ty) count) l = in_type element l
  in_type (Chan' _ (more_of-Ty element end_of-Ty) capacity) l = in_type element (l ++ element ∷ [])
  in_type (Tuple' _ parts) l = in_row parts l
  in_type (Aggregate number) l = l
  in_type (Function' _ (more_of-Ty returns end_of-Ty) _ parameters) l = in_row parameters (in_type returns l)

  pub in_row : {m : _} → Row_of-Ty m → List Ty → List Ty
  in_row end_of-Ty l = l
  in_row (more_of-Ty t rest) l = in_row rest (in_type t l)

-- those in each of these, one after the other
abbrev pub each : {A : Type 0} → (A → List Ty → List Ty) → List A → List Ty → List Ty
each f xs l = fold (λ l x. f x l) l xs

abbrev pub in_types : List Ty → List Ty → List Ty
in_types = each in_type
