-- The adt whose function is at hand.
use Rattle.std.specs.Prelude.{ℕ, List, [], map, slice_get, Option, Some, None}
use Rattle.al_tree.specs.declared.expression.Name.{Name}
use Rattle.al_tree.specs.declared.item.Owner.{Owner}
use Rattle.al_environment.specs.declared.environment.InstanceType.{InstanceType}
use Rattle.al_environment.specs.declared.environment.OwnAdt.{OwnAdt}
use Rattle.al_environment.specs.declared.environment.Environment.{Environment}
use Rattle.al_adt_functions.specs.Owned.{aggregate_named, number_of}

-- an adt without parameters, which has that number as a type with members
abbrev pub plain_adt : (name : ℕ) → Option ℕ → Option OwnAdt
plain_adt name None = None
plain_adt name (Some aggregate) = Some (record { name = name; aggregate = aggregate; parameters = []; arguments = [] })

-- an instance, whose parameters have the names that the function's definition gives them
abbrev pub instance_adt : Option InstanceType → List Name → Option OwnAdt
instance_adt None parameters = None
instance_adt (Some i) parameters = Some (record { name = i.adt; aggregate = i.aggregate; parameters = map number_of parameters; arguments = i.arguments })

abbrev pub adt_of : Environment → Owner → (instance : Option ℕ) → Option OwnAdt
adt_of env owner None = plain_adt owner.adt.name (aggregate_named env owner.adt.name)
adt_of env owner (Some k) = instance_adt (slice_get env.instances k) owner.parameters

-- a function outside of adts has none
abbrev pub own_adt : Environment → Option Owner → (instance : Option ℕ) → Option OwnAdt
own_adt env None instance = None
own_adt env (Some owner) instance = adt_of env owner instance
