-- Which values are converted to which types (rule 33).
use Rattle.std.specs.Prelude.{Bool, true, false, ◌&&◌, ◌||◌, if◌then◌else◌, List, [], ◌∷◌, Option, Some, None, is_some}
use Rattle.al_base.specs.declared.place.Place.{Place}
use Rattle.al_typed.specs.declared.ty.Ty.{Ty, Void, Integer, Pointer', Array', Chan', Tuple', Aggregate, Function', Row_of-Ty, end_of-Ty, more_of-Ty}
use Rattle.al_typed.specs.Types.{is_void, is_scalar}
use Rattle.al_convert.specs.declared.literal.Literal.{Literal, fold-Literal}
use Rattle.al_convert.specs.declared.literal.Literal.TheOpen.{Literal-F}
use Rattle.al_convert.specs.Same.{same, pointed, parts_of, is_aggregate}
use Rattle.al_convert.specs.Kinds.{is_integer, is_channel, element_of}

-- ---- by types alone

-- pointers convert where they point to the same type or one of them to void
abbrev pub pointers_convert : Ty → Option Ty → Bool
pointers_convert a None = false
pointers_convert a (Some b) = is_void a || (is_void b || same false a b)

-- channels convert where their elements are the same
abbrev pub channels_convert : Ty → Option Ty → Bool
channels_convert a None = false
channels_convert a (Some b) = same false a b

-- An integer converts to an integer; a pointer to an equal one, and to and from `void*`; a channel to one of equal element
-- type; an aggregate to the same; a tuple to a tuple part by part.
abbrev mutual
  pub type_converts : Ty → Ty → Bool
  type_converts Void to = false
  type_converts (Integer kind) to = is_integer to
  type_converts (Pointer' _ (more_of-Ty a end_of-Ty)) to = pointers_convert a (pointed to)
  type_converts (Array' _ (more_of-Ty a end_of-Ty) count) to = false
  type_converts (Chan' _ (more_of-Ty a end_of-Ty) capacity) to = channels_convert a (element_of to)
  type_converts (Tuple' _ parts) to = row_converts parts (parts_of to)
  type_converts (Aggregate number) to = is_aggregate number to
  type_converts (Function' _ (more_of-Ty a end_of-Ty) _ parameters) to = false

  pub row_converts : {m : _} → Row_of-Ty m → Option (List Ty) → Bool
  row_converts end_of-Ty None = false
  row_converts end_of-Ty (Some []) = true
  row_converts end_of-Ty (Some (t ∷ ts)) = false
  row_converts (more_of-Ty a row) None = false
  row_converts (more_of-Ty a row) (Some []) = false
  row_converts (more_of-Ty a row) (Some (t ∷ ts)) = type_converts a t && row_converts row (Some ts)

-- the types of two lists, one by one
abbrev pub types_convert : List Ty → List Ty → Bool
types_convert [] [] = true
types_convert [] (t ∷ ts) = false
types_convert (a ∷ as_) [] = false
types_convert (a ∷ as_) (t ∷ ts) = type_converts a t && types_convert as_ ts

abbrev pub parts_convert : List Ty → Option (List Ty) → Bool
parts_convert as_ None = false
parts_convert as_ (Some ts) = types_convert as_ ts

-- ---- by what the value is written as too

-- what takes nil
abbrev pub takes_nil : Ty → Bool
takes_nil to = is_some (pointed to) || is_channel to

-- a value of a type converts to a type
abbrev pub Conversion : Type 0
Conversion = Ty → Ty → Bool

abbrev pub all_convert : List Conversion → List Ty → List Ty → Bool
all_convert [] [] [] = true
all_convert (c ∷ cs) (a ∷ as_) (t ∷ ts) = c a t && all_convert cs as_ ts
all_convert _ _ _ = false

abbrev pub tuple_converts : List Conversion → Option (List Ty) → Option (List Ty) → Bool
tuple_converts cs (Some as_) (Some ts) = all_convert cs as_ ts
tuple_converts cs _ _ = false

-- nil converts to a pointer or channel, the constant 0 to these and to an integer, and a tuple part by part
abbrev pub converts_step : Literal-F Conversion → Conversion
converts_step Literal-F.Other from to = type_converts from to
converts_step Literal-F.Zero from to = is_scalar to
converts_step (Literal-F.Nil at) from to = takes_nil to
converts_step (Literal-F.Tuple cs) from to = tuple_converts cs (parts_of from) (parts_of to)

unfoldable pub converts : Literal → Conversion
converts = fold-Literal Conversion converts_step

abbrev pub literals_convert : List Literal → List Ty → List Ty → Bool
literals_convert [] [] [] = true
literals_convert (l ∷ ls) (a ∷ as_) (t ∷ ts) = converts l a t && literals_convert ls as_ ts
literals_convert _ _ _ = false

abbrev pub parts_of_literal_convert : List Literal → Option (List Ty) → Option (List Ty) → Bool
parts_of_literal_convert ls (Some as_) (Some ts) = literals_convert ls as_ ts
parts_of_literal_convert ls _ _ = false

-- ---- nil

abbrev pub first_place : List (Option Place) → Option Place
first_place [] = None
first_place (None ∷ rest) = first_place rest
first_place (Some at ∷ rest) = Some at

abbrev pub nil_step : Literal-F (Option Place) → Option Place
nil_step Literal-F.Other = None
nil_step Literal-F.Zero = None
nil_step (Literal-F.Nil at) = Some at
nil_step (Literal-F.Tuple parts) = first_place parts

-- the place of the first nil
unfoldable pub nil_in : Literal → Option Place
nil_in = fold-Literal (Option Place) nil_step

abbrev pub nil_among : List Literal → Option Place
nil_among [] = None
nil_among (l ∷ ls) = if is_some (nil_in l) then nil_in l else nil_among ls
