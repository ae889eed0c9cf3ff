-- The functions that have bodies, by their numbers: those of the text in the order of their definitions, then, instance by
-- instance, those of the instances in the same order. A function of an adt without parameters is one of the text.
use Rattle.std.specs.Prelude.{ℕ, ◌+◌, ◌==◌, Bool, true, false, ◌&&◌, List, [], ◌∷◌, ◌++◌, Option, Some, None}
use Rattle.al_tree.specs.declared.item.Item.{Item}
use Rattle.al_tree.specs.declared.item.Item.TheVariants as item
use Rattle.al_poly.specs.declared.instance.Instance.{Instance}
use Rattle.al_poly.specs.declared.names.Names.{Names}
use Rattle.al_poly.specs.Types.{names_of}
use Rattle.al_poly.specs.Instances.{owner_of}
use Rattle.al_declare.specs.declared.function.Defined.{Defined}

unfoldable pub is_definition : Item → Bool
is_definition (item.Function at scope base head body) = true
is_definition _ = false

abbrev pub same_owner : Option ℕ → Option ℕ → Bool
same_owner None None = true
same_owner None (Some b) = false
same_owner (Some a) None = false
same_owner (Some a) (Some b) = a == b

-- a definition that belongs to that adt with parameters, or to none
abbrev pub belongs : Names → (owner : Option ℕ) → Item → Bool
belongs names owner i = is_definition i && same_owner (owner_of names i) owner

abbrev pub defined : (item : ℕ) → (instance : Option ℕ) → Defined
defined item instance = record { item = item; instance = instance }

abbrev pub defined_if : Bool → Defined → List Defined
defined_if true d = d ∷ []
defined_if false d = []

-- such definitions, where the first item of the list has the number `from`
unfoldable pub definitions : Names → (owner instance : Option ℕ) → (from : ℕ) → List Item → List Defined
definitions names owner instance from [] = []
definitions names owner instance from (i ∷ is) = defined_if (belongs names owner i) (defined from instance) ++ definitions names owner instance (from + 1) is

-- those of instances, where the first of the list has the number `from`
unfoldable pub of_instances : Names → List Item → (from : ℕ) → List Instance → List Defined
of_instances names items from [] = []
of_instances names items from (i ∷ is) = definitions names (Some i.adt) (Some from) 0 items ++ of_instances names items (from + 1) is

unfoldable pub functions : List Item → List Instance → List Defined
functions items instances = definitions (names_of items) None None 0 items ++ of_instances (names_of items) items 0 instances
