-- What the names of a text stand for as types, and its instances with their arguments.
use Rattle.std.specs.Prelude.{ℕ, nat_le, if◌then◌else◌, List, [], ◌∷◌, map, length, Option, Some, None, option_and_then}
use Rattle.std.specs.List.{flat_map, range_with_len}
use Rattle.std.specs.Option.{option_to_list}
use Rattle.al_base.specs.declared.place.Place.{Place}
use Rattle.al_tree.specs.declared.type_tree.TypeTree.{TypeTree}
use Rattle.al_tree.specs.declared.type_tree.TypeTree.TheVariants as tree
use Rattle.al_tree.specs.declared.item.Tree.{Tree}
use Rattle.al_poly.specs.declared.names.Names.{Names}
use Rattle.al_poly.specs.declared.concrete_type.ConcreteType.{ConcreteType}
use Rattle.al_poly.specs.Types.{type_of, names_of}
use Rattle.al_typed.specs.declared.ty.Ty.{Ty}
use Rattle.al_environment.specs.declared.environment.InstanceType.{InstanceType}
use Rattle.al_form.specs.declared.form.InstanceForm.{InstanceForm}
use Rattle.al_form.specs.declared.form.Forms.{Forms}
use Rattle.al_layout.specs.Types.{ty_of, all_of, number_of_form}

-- ---- types by names

-- where a name stands makes no difference here
abbrev pub nowhere : Place
nowhere = record { line = 1; col = 1 }

-- names are numbered by 32 bits
abbrev pub written : ℕ → Option TypeTree
written name = if nat_le name 4294967295 then Some (tree.Named nowhere name []) else None

-- what a name stands for outside of adts with parameters
unfoldable pub named : Forms → List ℕ → Names → ℕ → Option Ty
named fs ns names name = option_and_then (ty_of fs ns) (option_and_then (type_of names None) (written name))

-- by the numbers of the names
unfoldable pub types : Forms → List ℕ → Names → (names_count : ℕ) → List (Option Ty)
types fs ns names count = map (named fs ns names) (range_with_len 0 count)

-- ---- instances

abbrev pub with_number : ℕ → List Ty → ℕ → InstanceType
with_number adt arguments number = record { adt = adt; arguments = arguments; aggregate = number }

abbrev pub instance_with : ℕ → Option (List Ty) → Option ℕ → Option InstanceType
instance_with adt None number = None
instance_with adt (Some arguments) None = None
instance_with adt (Some arguments) (Some number) = Some (with_number adt arguments number)

-- an instance, where its arguments and its adt have a meaning
abbrev pub instance : Forms → List ℕ → InstanceForm → Option InstanceType
instance fs ns i = instance_with i.instance.adt (all_of (map (ty_of fs ns) i.instance.arguments)) (number_of_form ns i.form)

abbrev pub instance_if : Forms → List ℕ → InstanceForm → List InstanceType
instance_if fs ns i = option_to_list (instance fs ns i)

abbrev pub instances : Forms → List ℕ → List InstanceType
instances fs ns = flat_map (instance_if fs ns) fs.instances

-- ---- both

unfoldable pub built : Forms → List ℕ → Tree → List (Option Ty)
built fs ns tree = types fs ns (names_of tree.items) (length tree.names)
