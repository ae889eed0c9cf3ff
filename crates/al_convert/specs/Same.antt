-- Which types are the same, part by part, array bounds counted. Capacities of channels are counted where it is said, since
-- they serve `alloc` alone.
use Rattle.std.specs.Prelude.{ℕ, ◌==◌, Bool, true, false, not, ◌&&◌, ◌||◌, if◌then◌else◌, List, [], ◌∷◌, Option, Some, None}
use Rattle.al_base.specs.declared.arith.Kind.{Kind}
use Rattle.al_base.specs.declared.arith.Kind.TheVariants as kind
use Rattle.al_typed.specs.declared.ty.Ty.{Ty, fold-Ty, out-Ty}
use Rattle.al_typed.specs.declared.ty.Ty.TheOpen.{Ty-F}
use Rattle.al_typed.specs.Types.{is_void}

-- the place of a kind among them
abbrev pub kind_number : Kind → ℕ
kind_number kind.Byte = 0
kind_number kind.Sint = 1
kind_number kind.Usint = 2
kind_number kind.Int = 3
kind_number kind.Uint = 4
kind_number kind.Lint = 5
kind_number kind.Ulint = 6

abbrev pub same_kind : Kind → Kind → Bool
same_kind a b = kind_number a == kind_number b

-- ---- the parts of a type of a form, or none where it is of another

abbrev pub is_of_kind_at : Kind → Ty-F Ty → Bool
is_of_kind_at a (Ty-F.Integer b) = same_kind a b
is_of_kind_at a _ = false

unfoldable pub is_of_kind : Kind → Ty → Bool
is_of_kind a t = is_of_kind_at a (out-Ty t)

abbrev pub is_aggregate_at : ℕ → Ty-F Ty → Bool
is_aggregate_at a (Ty-F.Aggregate b) = a == b
is_aggregate_at a _ = false

unfoldable pub is_aggregate : ℕ → Ty → Bool
is_aggregate a t = is_aggregate_at a (out-Ty t)

abbrev pub parts_at : Ty-F Ty → Option (List Ty)
parts_at (Ty-F.Tuple xs) = Some xs
parts_at _ = None

unfoldable pub parts_of : Ty → Option (List Ty)
parts_of t = parts_at (out-Ty t)

abbrev pub pointed_at : Ty-F Ty → Option Ty
pointed_at (Ty-F.Pointer x) = Some x
pointed_at _ = None

-- what a pointer points to
unfoldable pub pointed : Ty → Option Ty
pointed t = pointed_at (out-Ty t)

abbrev pub is_capacity : Bool → ℕ → ℕ → Bool
is_capacity counted a b = not counted || a == b

abbrev pub chan_at : Bool → ℕ → Ty-F Ty → Option Ty
chan_at counted a (Ty-F.Chan x b) = if is_capacity counted a b then Some x else None
chan_at counted a _ = None

-- the element of a channel, of that capacity where it is counted
unfoldable pub chan_element : Bool → ℕ → Ty → Option Ty
chan_element counted a t = chan_at counted a (out-Ty t)

abbrev pub array_at : ℕ → Ty-F Ty → Option Ty
array_at a (Ty-F.Array x b) = if a == b then Some x else None
array_at a _ = None

-- the element of an array of so many
unfoldable pub array_element : ℕ → Ty → Option Ty
array_element a t = array_at a (out-Ty t)

abbrev pub returns_at : Ty-F Ty → Option Ty
returns_at (Ty-F.Function x xs) = Some x
returns_at _ = None

unfoldable pub returns_of : Ty → Option Ty
returns_of t = returns_at (out-Ty t)

abbrev pub parameters_at : Ty-F Ty → Option (List Ty)
parameters_at (Ty-F.Function x xs) = Some xs
parameters_at _ = None

unfoldable pub parameters_of : Ty → Option (List Ty)
parameters_of t = parameters_at (out-Ty t)

-- ---- the same

abbrev pub Test : Type 0
Test = Ty → Bool

abbrev pub all_pass : List Test → List Ty → Bool
all_pass [] [] = true
all_pass [] (t ∷ ts) = false
all_pass (p ∷ ps) [] = false
all_pass (p ∷ ps) (t ∷ ts) = p t && all_pass ps ts

abbrev pub passes : Test → Option Ty → Bool
passes p None = false
passes p (Some t) = p t

abbrev pub pass : List Test → Option (List Ty) → Bool
pass ps None = false
pass ps (Some ts) = all_pass ps ts

abbrev pub same_step : Bool → Ty-F Test → Test
same_step counted Ty-F.Void t = is_void t
same_step counted (Ty-F.Integer a) t = is_of_kind a t
same_step counted (Ty-F.Pointer x) t = passes x (pointed t)
same_step counted (Ty-F.Array x a) t = passes x (array_element a t)
same_step counted (Ty-F.Chan x a) t = passes x (chan_element counted a t)
same_step counted (Ty-F.Tuple xs) t = pass xs (parts_of t)
same_step counted (Ty-F.Aggregate a) t = is_aggregate a t
same_step counted (Ty-F.Function x xs) t = passes x (returns_of t) && pass xs (parameters_of t)

-- two types are the same
unfoldable pub same : (counted : Bool) → Ty → Test
same counted = fold-Ty Test (same_step counted)

-- the types of two lists are the same, one by one
abbrev pub same_list : (counted : Bool) → List Ty → List Ty → Bool
same_list counted [] [] = true
same_list counted [] (y ∷ ys) = false
same_list counted (x ∷ xs) [] = false
same_list counted (x ∷ xs) (y ∷ ys) = same counted x y && same_list counted xs ys

abbrev pub are_same : (counted : Bool) → List Ty → Option (List Ty) → Bool
are_same counted xs None = false
are_same counted xs (Some ys) = same_list counted xs ys
