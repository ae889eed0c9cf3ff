-- The elements of the channel types in each form of types.
use Rattle.std.proofs.Common.{◌≡◌, ℕ, List, [], ◌∷◌, ◌++◌, refl, ap, ◌∙◌}
use Rattle.al_base.specs.declared.arith.Kind.{Kind}
use Rattle.al_typed.specs.declared.ty.Ty.{Ty, Row_of-Ty, end_of-Ty, more_of-Ty, items_hidden-the_row-Ty-1}
use Rattle.al_typed.specs.declared.ty.Ty.TheVariants as ty
use Rattle.al_typed.specs.declared.ty.Ty.TheBlock.{hidden-the_row-Ty-0, hidden-the_row-Ty-1, items-the_row-Ty}
use denote.Hole.Carrier.{hidden}
use Rattle.al_elements.specs.Elements.{in_type, in_row, in_types}

pub in_type-Void : (l : List Ty) → in_type ty.Void l ≡ l
in_type-Void l = refl

pub in_type-Integer : (kind : Kind) (l : List Ty) → in_type (ty.Integer kind) l ≡ l
in_type-Integer kind l = refl

pub in_type-Pointer : (to : Ty) (l : List Ty) → in_type (ty.Pointer to) l ≡ in_type to l
unfolding hidden-the_row-Ty-0 hidden
in_type-Pointer to l = refl

pub in_type-Array : (element : Ty) (count : ℕ) (l : List Ty) → in_type (ty.Array element count) l ≡ in_type element l
unfolding hidden-the_row-Ty-0 hidden
in_type-Array element count l = refl

pub in_type-Chan : (element : Ty) (capacity : ℕ) (l : List Ty) → in_type (ty.Chan element capacity) l ≡ in_type element (l ++ element ∷ [])
unfolding hidden-the_row-Ty-0 hidden
in_type-Chan element capacity l = refl

row-items : {m : _} (row : Row_of-Ty m) (l : List Ty) → in_row row l ≡ in_types (items-the_row-Ty m row) l
row-items end_of-Ty l = refl
row-items (more_of-Ty t rest) l = row-items rest (in_type t l)

row-hidden : (ts l : List Ty) → in_row (hidden-the_row-Ty-1 ts) l ≡ in_types ts l
row-hidden ts l = row-items (hidden-the_row-Ty-1 ts) l ∙ ap (λ us. in_types us l) (items_hidden-the_row-Ty-1 ts)

pub in_type-Tuple : (parts l : List Ty) → in_type (ty.Tuple parts) l ≡ in_types parts l
in_type-Tuple parts l = row-hidden parts l

pub in_type-Aggregate : (number : ℕ) (l : List Ty) → in_type (ty.Aggregate number) l ≡ l
in_type-Aggregate number l = refl

pub in_type-Function : (returns : Ty) (parameters l : List Ty) → in_type (ty.Function returns parameters) l ≡ in_types parameters (in_type returns l)
unfolding hidden-the_row-Ty-0 hidden
in_type-Function returns parameters l = row-hidden parameters (in_type returns l)

pub ruleset in_type_is = (in_type-Void, in_type-Integer, in_type-Pointer, in_type-Array, in_type-Chan, in_type-Tuple, in_type-Aggregate, in_type-Function)
