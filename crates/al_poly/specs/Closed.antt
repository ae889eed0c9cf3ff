-- What is true of the list of instances of a text, in the words of its rule.
use Rattle.std.specs.Prelude.{◌≡◌, ℕ, ⊤, List, slice_get, Contains, Option, Some, None}
use Rattle.al_tree.specs.declared.item.Item.{Item}
use Rattle.al_poly.specs.declared.instance.Instance.{Instance}
use Rattle.al_poly.specs.Types.{names_of}
use Rattle.al_poly.specs.Instances.{pieces_of, named}

-- those that the text names, or that the body and the functions of an instance name
abbrev pub named_in : List Item → Option Instance → List Instance
named_in items = named (names_of items) (pieces_of (names_of items) items)

-- the text counts always, and an instance where it stands in the list
abbrev pub StandsIn : List Instance → Option Instance → Type 0
StandsIn list None = ⊤
StandsIn list (Some j) = (n : ℕ) × (slice_get list n ≡ Some j)

-- the text names it, or an instance of the list does
abbrev pub IsNamed : List Item → List Instance → Instance → Type 0
IsNamed items list i = (inside : Option Instance) × StandsIn list inside × Contains (named_in items inside) i
