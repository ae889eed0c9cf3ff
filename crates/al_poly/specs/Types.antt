-- What a written type is, and which instances of adts it names.
--
-- Inside an adt with parameters and inside its functions a parameter is its argument, and the adt's plain name is the
-- instance at hand. Where several items declare a name the latest counts. A type has no meaning where type arguments stand after anything but an adt with parameters, where they
-- are not as many as its parameters, where such an adt stands without them elsewhere, and where a bound has no value from 0
-- to 2^32 - 1. Such a type names no instance.
use Rattle.std.specs.Prelude.{ℕ, ◌==◌, Bool, false, if◌then◌else◌, List, [], ◌∷◌, ◌++◌, map, fold, position, reverse, length, nat_eq, slice_get, Option, Some, None, is_some, option_map, option_and_then}
use Rattle.std.specs.List.{flat_map}
use Rattle.std.specs.Map.{lookup}
use Rattle.std.specs.Option.{option_to_list}
use Rattle.indexmap.specs.IndexMap.{insert_entry}
use Rattle.al_base.specs.declared.place.Place.{Place}
use Rattle.al_tree.specs.declared.type_tree.Bound.{Bound}
use Rattle.al_tree.specs.declared.type_tree.BasicType.TheVariants as basic
use Rattle.al_tree.specs.declared.type_tree.Dcl.{Dcl}
use Rattle.al_tree.specs.declared.type_tree.TypeTree.{TypeTree, fold-TypeTree}
use Rattle.al_tree.specs.declared.type_tree.TypeTree.TheOpen.{TypeTree-F}
use Rattle.al_tree.specs.declared.expression.Name.{Name}
use Rattle.al_tree.specs.declared.item.Parameter.{Parameter}
use Rattle.al_tree.specs.declared.item.Parameter.TheVariants as parameter
use Rattle.al_tree.specs.declared.item.Item.{Item}
use Rattle.al_tree.specs.declared.item.Item.TheVariants as item
use Rattle.al_tree.specs.Constants.{values, bound_number}
use Rattle.al_poly.specs.declared.concrete_type.ConcreteType.{ConcreteType}
use Rattle.al_poly.specs.declared.concrete_type.ConcreteType.TheVariants as ty
use Rattle.al_poly.specs.declared.instance.Instance.{Instance}
use Rattle.al_poly.specs.declared.names.Names.{Names}
use Rattle.al_poly.specs.Concrete.{pointers}

-- ---- names

-- the parameters of the adt with parameters of that name
unfoldable pub adt_named : List (ℕ × List ℕ) → ℕ → Option (List ℕ)
adt_named adts name = lookup (nat_eq name) adts

abbrev pub if_there : {A : Type 0} → Option (Option A) → Option A
if_there None = None
if_there (Some x) = x

-- what the type of that name stands for
unfoldable pub type_known : List (ℕ × Option ConcreteType) → ℕ → Option ConcreteType
type_known known name = if_there (lookup (nat_eq name) known)

-- what a name stands for outside of adts with parameters
unfoldable pub global : Names → ℕ → Option ConcreteType
global names name = if is_some (adt_named names.adts name) then None else type_known names.known name

abbrev pub parameters : Option (List ℕ) → List ℕ
parameters None = []
parameters (Some ps) = ps

-- which parameter of the adt has that name
unfoldable pub parameter_named : Names → (adt name : ℕ) → Option ℕ
parameter_named names adt name = position (λ p. p == name) (parameters (adt_named names.adts adt))

-- its argument in an instance
unfoldable pub argument : Names → Instance → ℕ → Option ConcreteType
argument names i name = option_and_then (λ k. slice_get i.arguments k) (parameter_named names i.adt name)

abbrev pub type_of_instance : Instance → ConcreteType
type_of_instance i = ty.Instance i.adt i.arguments

unfoldable pub own_or_global : Names → Instance → ℕ → Option ConcreteType
own_or_global names i name = if name == i.adt then Some (type_of_instance i) else global names name

abbrev pub or_else : {A : Type 0} → Option A → Option A → Option A
or_else None other = other
or_else (Some x) other = Some x

-- what a name without type arguments stands for
abbrev pub plain : Names → Option Instance → ℕ → Option ConcreteType
plain names None name = global names name
plain names (Some i) name = or_else (argument names i name) (own_or_global names i name)

-- ---- instances

abbrev pub is_argument : Names → Option Instance → ℕ → Bool
is_argument names None name = false
is_argument names (Some i) name = is_some (argument names i name)

abbrev pub with_arguments : ℕ → Option (List ℕ) → List ConcreteType → Option Instance
with_arguments name None ts = None
with_arguments name (Some ps) ts = if length ts == length ps then Some (record { adt = name; arguments = ts }) else None

-- the instance that a name with type arguments names
unfoldable pub applied : Names → Option Instance → ℕ → List ConcreteType → Option Instance
applied names inside name ts = if is_argument names inside name then None else with_arguments name (adt_named names.adts name) ts

-- all of them, if each is there
abbrev pub all_of : {A : Type 0} → List (Option A) → Option (List A)
all_of [] = Some []
all_of (None ∷ xs) = None
all_of (Some x ∷ xs) = option_map (λ ys. x ∷ ys) (all_of xs)

abbrev pub named_by : Names → Option Instance → ℕ → List (Option ConcreteType) → Option Instance
named_by names inside name [] = None
named_by names inside name (t ∷ ts) = option_and_then (applied names inside name) (all_of (t ∷ ts))

-- ---- types

abbrev pub type_named : Names → Option Instance → ℕ → List (Option ConcreteType) → Option ConcreteType
type_named names inside name [] = plain names inside name
type_named names inside name (t ∷ ts) = option_map type_of_instance (named_by names inside name (t ∷ ts))

abbrev pub chan_type : Option ConcreteType → Option ℕ → Option ConcreteType
chan_type None capacity = None
chan_type (Some t) None = None
chan_type (Some t) (Some n) = Some (ty.Chan t n)

abbrev pub array_type : Option ConcreteType → Option ℕ → Option ConcreteType
array_type None count = None
array_type (Some t) None = None
array_type (Some t) (Some n) = Some (ty.Array t n)

abbrev pub capacity : Names → Place → Option Bound → Option ℕ
capacity names at None = Some 0
capacity names at (Some b) = bound_number names.constants.list b at

-- a type, and the instances that are named in it, in text order
pub record Meaning : Type 0 where
  pub type : Option ConcreteType
  pub named : List Instance

abbrev pub types_in : List Meaning → List (Option ConcreteType)
types_in = map (λ m. m.type)

abbrev pub named_in : List Meaning → List Instance
named_in = flat_map (λ m. m.named)

abbrev pub meaning_step : Names → Option Instance → TypeTree-F Meaning → Meaning
meaning_step names inside (TypeTree-F.Basic at b) = record { type = Some (ty.Basic b); named = [] }
meaning_step names inside (TypeTree-F.Named at name ms) = record {
  type = type_named names inside name (types_in ms);
  named = option_to_list (named_by names inside name (types_in ms)) ++ named_in ms;
}
meaning_step names inside (TypeTree-F.Tuple at ms) = record { type = option_map ty.Tuple (all_of (types_in ms)); named = named_in ms }
meaning_step names inside (TypeTree-F.Chan at m bound) = record { type = chan_type m.type (capacity names at bound); named = m.named }
meaning_step names inside (TypeTree-F.Pointer at m) = record { type = option_map ty.Pointer m.type; named = m.named }
meaning_step names inside (TypeTree-F.Array at bound m) = record { type = array_type m.type (bound_number names.constants.list bound at); named = m.named }

unfoldable pub meaning : Names → Option Instance → TypeTree → Meaning
meaning names inside = fold-TypeTree Meaning (meaning_step names inside)

abbrev pub type_of : Names → Option Instance → TypeTree → Option ConcreteType
type_of names inside t = (meaning names inside t).type

abbrev pub instances_in : Names → Option Instance → TypeTree → List Instance
instances_in names inside t = (meaning names inside t).named

-- ---- what items declare

abbrev pub bound_of : Names → Place → Option Bound → Option ℕ
bound_of names at None = None
bound_of names at (Some b) = bound_number names.constants.list b at

-- arrays of a type, the first bound outermost; a bound that is missing has no value
unfoldable pub arrays : Names → Place → List (Option Bound) → Option ConcreteType → Option ConcreteType
arrays names at bounds t = fold (λ t b. array_type t (bound_of names at b)) t (reverse bounds)

unfoldable pub plain_arrays : Names → Place → List Bound → Option ConcreteType → Option ConcreteType
plain_arrays names at bounds t = fold (λ t b. array_type t (bound_number names.constants.list b at)) t (reverse bounds)

-- a base type with so many stars
abbrev pub starred : Names → Option Instance → ℕ → TypeTree → Option ConcreteType
starred names inside stars base = option_map (pointers stars) (type_of names inside base)

-- what a base type and what stands round a name give it
unfoldable pub declared : Names → Option Instance → TypeTree → Dcl → Option ConcreteType
declared names inside base dcl = plain_arrays names dcl.at dcl.bounds (starred names inside dcl.stars base)

-- an array parameter is a pointer, whatever its first bound is
abbrev pub parameter_arrays : Names → Place → List (Option Bound) → Option ConcreteType → Option ConcreteType
parameter_arrays names at [] t = t
parameter_arrays names at (b ∷ bounds) t = option_map ty.Pointer (arrays names at bounds t)

-- the adt at hand, of that name, is the instance at hand or has no parameters
abbrev pub parameter_type : Names → Option Instance → Parameter → Option ConcreteType
parameter_type names inside (parameter.Plain at base stars name bounds) = parameter_arrays names at bounds (starred names inside stars base)
parameter_type names inside (parameter.OwnPointer at name) = option_map ty.Pointer (plain names inside name)
parameter_type names inside (parameter.OwnValue at name) = plain names inside name

abbrev pub function_of : Option ConcreteType → Option (List ConcreteType) → Option ConcreteType
function_of None ts = None
function_of (Some t) None = None
function_of (Some t) (Some ts) = Some (ty.Function t ts)

unfoldable pub function_type : Names → Option Instance → TypeTree → ℕ → List Parameter → Option ConcreteType
function_type names inside base stars list = function_of (starred names inside stars base) (all_of (map (parameter_type names inside) list))

abbrev pub with_known : Names → ℕ → Option ConcreteType → Names
with_known names name t = record names { known = insert_entry nat_eq names.known name t }

abbrev pub with_enum : Names → Option Name → Names
with_enum names None = names
with_enum names (Some n) = with_known names n.name (Some (ty.Basic basic.Int))

-- what names stand for behind an item
unfoldable pub with_item : Names → Item → Names
with_item names (item.Typedef at base dcl) = with_known names dcl.name.name (declared names None base dcl)
with_item names (item.FunctionType at base stars name list) = with_known names name.name (function_type names None base stars list)
with_item names (item.Forward at kind name) = with_known names name.name (Some (ty.Named name.name))
with_item names (item.Aggregate at kind name members) = with_known names name.name (Some (ty.Named name.name))
with_item names (item.Adt at name list members) = with_known names name.name (Some (ty.Named name.name))
with_item names (item.Enum at name constants) = with_enum names name
with_item names (item.Declare at scope base declarators) = names
with_item names (item.Function at scope base head body) = names

-- the adts with parameters of a text

abbrev pub number_of : Name → ℕ
number_of n = n.name

abbrev pub Adts : Type 0
Adts = List (ℕ × List ℕ)

abbrev pub with_adt : Adts → Name → List Name → Adts
with_adt adts name [] = adts
with_adt adts name (p ∷ ps) = insert_entry nat_eq adts name.name (map number_of (p ∷ ps))

unfoldable pub with_adt_in : Adts → Item → Adts
with_adt_in adts (item.Adt at name list members) = with_adt adts name list
with_adt_in adts _ = adts

-- what the names of a whole text stand for
unfoldable pub names_of : List Item → Names
names_of items = fold with_item (record { constants = record { list = values items }; adts = fold with_adt_in [] items; known = [] }) items
