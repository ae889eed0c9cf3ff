-- The bodies of functions of adts among the definitions of a text.
use Rattle.std.specs.Prelude.{ℕ, ◌==◌, Bool, true, false, ◌&&◌, List, position, slice_get, Option, Some, None, option_and_then}
use Rattle.al_tree.specs.declared.item.Item.{Item}
use Rattle.al_tree.specs.declared.item.Item.TheVariants as item
use Rattle.al_tree.specs.declared.item.Head.{Head}
use Rattle.al_tree.specs.declared.item.Owner.{Owner}
use Rattle.al_declare.specs.declared.function.Defined.{Defined}

unfoldable pub head_in : Item → Option Head
head_in (item.Function at scope base head body) = Some head
head_in _ = None

abbrev pub is_owner : Option Owner → ℕ → Bool
is_owner None adt = false
is_owner (Some owner) adt = owner.adt.name == adt

abbrev pub is_head_of : (adt name : ℕ) → Option Head → Bool
is_head_of adt name None = false
is_head_of adt name (Some h) = is_owner h.owner adt && h.name.name == name

abbrev pub same_number : Option ℕ → Option ℕ → Bool
same_number None None = true
same_number None (Some b) = false
same_number (Some a) None = false
same_number (Some a) (Some b) = a == b

abbrev pub head_at : List Item → ℕ → Option Head
head_at items k = option_and_then head_in (slice_get items k)

-- the body of the function of that name of that adt or instance
abbrev pub is_body_of : List Item → (adt : ℕ) → (instance : Option ℕ) → (name : ℕ) → Defined → Bool
is_body_of items adt instance name d = is_head_of adt name (head_at items d.item) && same_number d.instance instance

-- the number of the first
unfoldable pub number_of_body : List Item → List Defined → (adt : ℕ) → (instance : Option ℕ) → (name : ℕ) → Option ℕ
number_of_body items defined adt instance name = position (is_body_of items adt instance name) defined
