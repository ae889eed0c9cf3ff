-- Which concrete types are the same: part by part, capacities and array bounds counted.
use Rattle.std.specs.Prelude.{ℕ, zero, suc, ◌==◌, Bool, true, false, ◌&&◌, if◌then◌else◌, List, [], ◌∷◌, Option, Some, None}
use Rattle.al_tree.specs.declared.type_tree.BasicType.{BasicType}
use Rattle.al_tree.specs.declared.type_tree.BasicType.TheVariants as basic
use Rattle.al_poly.specs.declared.concrete_type.ConcreteType.{ConcreteType, fold-ConcreteType, out-ConcreteType}
use Rattle.al_poly.specs.declared.concrete_type.ConcreteType.TheOpen.{ConcreteType-F}
use Rattle.al_poly.specs.declared.concrete_type.ConcreteType.TheVariants as ty
use Rattle.al_poly.specs.declared.instance.Instance.{Instance}

-- the place of a basic type among them
abbrev pub basic_number : BasicType → ℕ
basic_number basic.Byte = 0
basic_number basic.Sint = 1
basic_number basic.Usint = 2
basic_number basic.Int = 3
basic_number basic.Uint = 4
basic_number basic.Lint = 5
basic_number basic.Ulint = 6
basic_number basic.Void = 7

-- ---- the parts of a type of a kind, or none where it is of another

abbrev pub is_basic_at : BasicType → ConcreteType-F ConcreteType → Bool
is_basic_at a (ConcreteType-F.Basic b) = basic_number a == basic_number b
is_basic_at a _ = false

unfoldable pub is_basic : BasicType → ConcreteType → Bool
is_basic a t = is_basic_at a (out-ConcreteType t)

abbrev pub is_named_at : ℕ → ConcreteType-F ConcreteType → Bool
is_named_at a (ConcreteType-F.Named b) = a == b
is_named_at a _ = false

unfoldable pub is_named : ℕ → ConcreteType → Bool
is_named a t = is_named_at a (out-ConcreteType t)

abbrev pub arguments_at : ℕ → ConcreteType-F ConcreteType → Option (List ConcreteType)
arguments_at a (ConcreteType-F.Instance b xs) = if a == b then Some xs else None
arguments_at a _ = None

-- of an instance of that adt
unfoldable pub arguments_of : ℕ → ConcreteType → Option (List ConcreteType)
arguments_of a t = arguments_at a (out-ConcreteType t)

abbrev pub parts_at : ConcreteType-F ConcreteType → Option (List ConcreteType)
parts_at (ConcreteType-F.Tuple xs) = Some xs
parts_at _ = None

unfoldable pub parts_of : ConcreteType → Option (List ConcreteType)
parts_of t = parts_at (out-ConcreteType t)

abbrev pub chan_at : ℕ → ConcreteType-F ConcreteType → Option ConcreteType
chan_at a (ConcreteType-F.Chan x b) = if a == b then Some x else None
chan_at a _ = None

-- of a channel of that capacity
unfoldable pub chan_element : ℕ → ConcreteType → Option ConcreteType
chan_element a t = chan_at a (out-ConcreteType t)

abbrev pub pointed_at : ConcreteType-F ConcreteType → Option ConcreteType
pointed_at (ConcreteType-F.Pointer x) = Some x
pointed_at _ = None

unfoldable pub pointed : ConcreteType → Option ConcreteType
pointed t = pointed_at (out-ConcreteType t)

abbrev pub array_at : ℕ → ConcreteType-F ConcreteType → Option ConcreteType
array_at a (ConcreteType-F.Array x b) = if a == b then Some x else None
array_at a _ = None

-- of an array of so many elements
unfoldable pub array_element : ℕ → ConcreteType → Option ConcreteType
array_element a t = array_at a (out-ConcreteType t)

abbrev pub returns_at : ConcreteType-F ConcreteType → Option ConcreteType
returns_at (ConcreteType-F.Function x xs) = Some x
returns_at _ = None

unfoldable pub returns_of : ConcreteType → Option ConcreteType
returns_of t = returns_at (out-ConcreteType t)

abbrev pub parameters_at : ConcreteType-F ConcreteType → Option (List ConcreteType)
parameters_at (ConcreteType-F.Function x xs) = Some xs
parameters_at _ = None

unfoldable pub parameters_of : ConcreteType → Option (List ConcreteType)
parameters_of t = parameters_at (out-ConcreteType t)

-- ---- the same

abbrev pub Test : Type 0
Test = ConcreteType → Bool

abbrev pub all_pass : List Test → List ConcreteType → Bool
all_pass [] [] = true
all_pass [] (t ∷ ts) = false
all_pass (p ∷ ps) [] = false
all_pass (p ∷ ps) (t ∷ ts) = p t && all_pass ps ts

abbrev pub passes : Test → Option ConcreteType → Bool
passes p None = false
passes p (Some t) = p t

abbrev pub pass : List Test → Option (List ConcreteType) → Bool
pass ps None = false
pass ps (Some ts) = all_pass ps ts

abbrev pub same_step : ConcreteType-F Test → Test
same_step (ConcreteType-F.Basic a) t = is_basic a t
same_step (ConcreteType-F.Named a) t = is_named a t
same_step (ConcreteType-F.Instance a xs) t = pass xs (arguments_of a t)
same_step (ConcreteType-F.Tuple xs) t = pass xs (parts_of t)
same_step (ConcreteType-F.Chan x a) t = passes x (chan_element a t)
same_step (ConcreteType-F.Pointer x) t = passes x (pointed t)
same_step (ConcreteType-F.Array x a) t = passes x (array_element a t)
same_step (ConcreteType-F.Function x xs) t = passes x (returns_of t) && pass xs (parameters_of t)

unfoldable pub same : ConcreteType → Test
same = fold-ConcreteType Test same_step

-- the types of two lists are the same, one by one
abbrev pub same_list : List ConcreteType → List ConcreteType → Bool
same_list [] [] = true
same_list [] (y ∷ ys) = false
same_list (x ∷ xs) [] = false
same_list (x ∷ xs) (y ∷ ys) = same x y && same_list xs ys

abbrev pub are_same : List ConcreteType → Option (List ConcreteType) → Bool
are_same xs None = false
are_same xs (Some ys) = same_list xs ys

-- two instances are one where their adts and their arguments are the same
abbrev pub same_instance : Instance → Instance → Bool
same_instance a b = a.adt == b.adt && same_list a.arguments b.arguments

-- so many pointers to it
unfoldable pub pointers : ℕ → ConcreteType → ConcreteType
pointers zero t = t
pointers (suc n) t = ty.Pointer (pointers n t)
