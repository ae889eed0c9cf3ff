-- Which aggregates are adts.
use Rattle.std.specs.Prelude.{ℕ, Bool, true, false, List, map, fold, slice_set, Option, Some, None}
use Rattle.al_tree.specs.declared.item.Item.{Item}
use Rattle.al_tree.specs.declared.item.Item.TheVariants as item
use Rattle.al_typed.specs.declared.program.Aggregate.{Aggregate}
use Rattle.al_typed.specs.declared.ty.Ty.{Ty, out-Ty}
use Rattle.al_typed.specs.Layout.{number_at}
use Rattle.al_environment.specs.declared.environment.InstanceType.{InstanceType}
use Rattle.al_environment.specs.declared.environment.Environment.{Environment}
use Rattle.al_environment.specs.Lookups.{outer_type}

abbrev pub number_in : Option Ty → Option ℕ
number_in None = None
number_in (Some t) = number_at (out-Ty t)

-- the number of the adt without parameters whose body an item is
unfoldable pub adt_number : Environment → Item → Option ℕ
adt_number env (item.Adt at name parameters members) = number_in (outer_type env name.name)
adt_number env _ = None

abbrev pub with_number : List Bool → Option ℕ → List Bool
with_number adts None = adts
with_number adts (Some n) = slice_set adts n true

abbrev pub with_item : Environment → List Bool → Item → List Bool
with_item env adts i = with_number adts (adt_number env i)

abbrev pub with_instance : List Bool → InstanceType → List Bool
with_instance adts i = slice_set adts i.aggregate true

abbrev pub no_adt : Aggregate → Bool
no_adt a = false

-- by the numbers of aggregates: those that are adts of the text, or instances of adts with parameters
unfoldable pub adts : Environment → List Item → List Bool
adts env items = fold with_instance (fold (with_item env) (map no_adt env.aggregates) items) env.instances
