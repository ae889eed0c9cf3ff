-- The sizes of written types, where names of types have sizes. Each basic type, name, star, array, channel, tuple, list of type
-- arguments and function is a level and a part. A bound counts as a type that stands beside the elements, with a level for each operator.
use Rattle.std.specs.Prelude.{ℕ, List, [], ◌∷◌, fold, nat_eq, Option, Some, None}
use Rattle.std.specs.Map.{lookup}
use Rattle.al_tree.specs.declared.type_tree.Bound.{Bound, fold-Bound}
use Rattle.al_tree.specs.declared.type_tree.Bound.TheOpen.{Bound-F}
use Rattle.al_tree.specs.declared.type_tree.TypeTree.{TypeTree, fold-TypeTree}
use Rattle.al_tree.specs.declared.type_tree.TypeTree.TheOpen.{TypeTree-F}
use Rattle.al_tree.specs.declared.type_tree.Dcl.{Dcl}
use Rattle.al_tree.specs.declared.item.Parameter.{Parameter}
use Rattle.al_tree.specs.declared.item.Parameter.TheVariants as parameter
use Rattle.al_type_limits.specs.declared.size.Size.{Size}
use Rattle.al_type_limits.specs.Sizes.{nothing, one, beside, above}

-- what names of types stand for; any other name is one part
abbrev pub Names : Type 0
Names = List (ℕ × Size)

abbrev pub known : Option Size → Size
known None = one
known (Some size) = size

unfoldable pub named : Names → ℕ → Size
named names name = known (lookup (nat_eq name) names)

-- ---- bounds

abbrev pub bound_step : Bound-F Size → Size
bound_step (Bound-F.Number at value) = one
bound_step (Bound-F.Name at name) = one
bound_step (Bound-F.Binary at op left right) = above 1 (beside left right)

unfoldable pub bound_size : Bound → Size
bound_size = fold-Bound Size bound_step

abbrev pub array : Size → Bound → Size
array element b = above 1 (beside element (bound_size b))

-- an array or a channel whose bound may be missing
abbrev pub holder : Size → Option Bound → Size
holder element None = above 1 element
holder element (Some b) = array element b

-- ---- types

abbrev pub applied : Names → ℕ → List Size → Size
applied names name [] = named names name
applied names name (size ∷ sizes) = above 1 (fold beside nothing (size ∷ sizes))

abbrev pub type_step : Names → TypeTree-F Size → Size
type_step names (TypeTree-F.Basic at basic) = one
type_step names (TypeTree-F.Named at name sizes) = applied names name sizes
type_step names (TypeTree-F.Tuple at sizes) = above 1 (fold beside nothing sizes)
type_step names (TypeTree-F.Chan at element capacity) = holder element capacity
type_step names (TypeTree-F.Pointer at to) = above 1 to
type_step names (TypeTree-F.Array at bound element) = array element bound

unfoldable pub type_size : Names → TypeTree → Size
type_size names = fold-TypeTree Size (type_step names)

-- with one more type beside those before it
abbrev pub with_type : Names → Size → TypeTree → Size
with_type names sum t = beside sum (type_size names t)

abbrev pub together : Names → List TypeTree → Size
together names = fold (with_type names) nothing

abbrev pub with_arguments : Names → ℕ → List TypeTree → Size
with_arguments names name [] = named names name
with_arguments names name (t ∷ ts) = above 1 (together names (t ∷ ts))

-- ---- declarators

-- what a declarator makes of a base type
abbrev pub declared : Size → Dcl → Size
declared base dcl = fold array (above dcl.stars base) dcl.bounds

abbrev pub parameter_size : Names → Parameter → Size
parameter_size names (parameter.Plain at base stars name bounds) = fold holder (above stars (type_size names base)) bounds
parameter_size names (parameter.OwnPointer at name) = above 1 one
parameter_size names (parameter.OwnValue at name) = one

abbrev pub with_parameter : Names → Size → Parameter → Size
with_parameter names sum p = beside sum (parameter_size names p)

-- a function: a level above its result and its parameters
abbrev pub function_size : Names → Size → List Parameter → Size
function_size names returns list = above 1 (fold (with_parameter names) returns list)
