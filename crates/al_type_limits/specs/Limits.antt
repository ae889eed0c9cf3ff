-- The limits on the types of a text. A parameter of an adt is one part here, and an adt's name with type arguments is what it is written as: what its
-- instances make of them is another matter.
use Rattle.std.specs.Prelude.{nat_le, if◌then◌else◌, List, Option, Some, None}
use Rattle.al_tree.specs.declared.item.Item.{Item}
use Rattle.al_type_limits.specs.declared.size.Size.{Size}
use Rattle.al_type_limits.specs.declared.limit.TypeLimit.{TypeLimit}
use Rattle.al_type_limits.specs.declared.limit.TypeLimit.TheVariants as limit
use Rattle.al_type_limits.specs.Sizes.{past_levels, past_parts}
use Rattle.al_type_limits.specs.Items.{written}

-- the first limit that types of that size pass
abbrev pub passed_by : Size → Option TypeLimit
passed_by size =
    if nat_le past_levels size.levels then Some (limit.Depth past_levels)
    else if nat_le past_parts size.parts then Some (limit.Parts past_parts) else None

-- the first limit that the types of a text pass
unfoldable pub passed : List Item → Option TypeLimit
passed items = passed_by (written items)
