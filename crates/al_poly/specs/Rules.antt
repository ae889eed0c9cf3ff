-- Typing rules 13 and 14, which are asked of the text once, by names alone.
use Rattle.std.specs.Prelude.{ℕ, ◌==◌, Bool, true, false, ◌||◌, if◌then◌else◌, List, [], ◌∷◌, ◌++◌, length, Option, Some, None, is_some}
use Rattle.std.specs.List.{flat_map}
use Rattle.al_base.specs.declared.place.Place.{Place}
use Rattle.al_tree.specs.declared.type_tree.TypeTree.{TypeTree, fold-TypeTree}
use Rattle.al_tree.specs.declared.type_tree.TypeTree.TheOpen.{TypeTree-F}
use Rattle.al_poly.specs.declared.fault.Misuse.{Misuse}
use Rattle.al_poly.specs.declared.fault.Misuse.TheVariants as misuse
use Rattle.al_poly.specs.declared.names.Names.{Names}
use Rattle.al_poly.specs.Types.{adt_named, parameter_named}

-- a parameter of the adt to which the place belongs, if it belongs to one with parameters
abbrev pub is_parameter : Names → Option ℕ → ℕ → Bool
is_parameter names None name = false
is_parameter names (Some owner) name = is_some (parameter_named names owner name)

-- the parameters of the adt with parameters that a name stands for there
unfoldable pub adt_at : Names → Option ℕ → ℕ → Option (List ℕ)
adt_at names owner name = if is_parameter names owner name then None else adt_named names.adts name

-- 13. Type arguments stand only after a parametrised adt.
abbrev pub may_have_arguments : (count : ℕ) → Option (List ℕ) → Bool
may_have_arguments count adt = count == 0 || is_some adt

abbrev pub is_owner : Option ℕ → ℕ → Bool
is_owner None name = false
is_owner (Some owner) name = owner == name

-- 14. They are as many as its parameters, and they are there outside its own body and functions.
abbrev pub has_right_count : Option ℕ → (name count : ℕ) → Option (List ℕ) → Bool
has_right_count owner name count None = true
has_right_count owner name count (Some ps) = if count == 0 then is_owner owner name else count == length ps

abbrev pub Misuses : Type 0
Misuses = List Misuse

abbrev pub unless : Bool → Misuse → Misuses
unless true m = []
unless false m = m ∷ []

-- of a name with so many type arguments
abbrev pub misuses_of_name : Names → Option ℕ → Place → (name count : ℕ) → Misuses
misuses_of_name names owner at name count =
    unless (may_have_arguments count (adt_at names owner name)) (misuse.UnknownParameter at)
    ++ unless (has_right_count owner name count (adt_at names owner name)) (misuse.WrongCount at)

abbrev pub misuse_step : Names → Option ℕ → TypeTree-F Misuses → Misuses
misuse_step names owner (TypeTree-F.Basic at b) = []
misuse_step names owner (TypeTree-F.Named at name arguments) = misuses_of_name names owner at name (length arguments) ++ flat_map (λ ms. ms) arguments
misuse_step names owner (TypeTree-F.Tuple at parts) = flat_map (λ ms. ms) parts
misuse_step names owner (TypeTree-F.Chan at element bound) = element
misuse_step names owner (TypeTree-F.Pointer at to) = to
misuse_step names owner (TypeTree-F.Array at bound element) = element

-- the breaks of rules 13 and 14 in a type that belongs to that adt, or to none
unfoldable pub misuses_in : Names → Option ℕ → TypeTree → Misuses
misuses_in names owner = fold-TypeTree Misuses (misuse_step names owner)
