-- The numbers of the bodies of functions outside of adts, by the names of the functions.
use Rattle.std.specs.Prelude.{ℕ, ◌+◌, List, [], ◌∷◌, map, slice_get, slice_set, Option, Some, None}
use Rattle.al_tree.specs.declared.item.Item.{Item}
use Rattle.al_tree.specs.declared.item.Item.TheVariants as item
use Rattle.al_tree.specs.declared.item.Owner.{Owner}
use Rattle.al_declare.specs.declared.function.Defined.{Defined}
use Rattle.al_layout.specs.Types.{within}

abbrev pub name_if : Option Owner → ℕ → Option ℕ
name_if None name = Some name
name_if (Some owner) name = None

-- the name of the function outside of adts that an item defines
unfoldable pub defined_name : Item → Option ℕ
defined_name (item.Function at scope base head body) = name_if head.owner head.name.name
defined_name _ = None

abbrev pub name_at : Option Item → Option ℕ
name_at None = None
name_at (Some i) = defined_name i

abbrev pub with_name : List (Option ℕ) → Option ℕ → ℕ → List (Option ℕ)
with_name ns None k = ns
with_name ns (Some name) k = slice_set ns name (within k)

-- definitions from the one of the number `from` on
unfoldable pub with_definitions : List Item → (from : ℕ) → List Defined → List (Option ℕ) → List (Option ℕ)
with_definitions items from [] ns = ns
with_definitions items from (d ∷ ds) ns = with_definitions items (from + 1) ds (with_name ns (name_at (slice_get items d.item)) from)

abbrev pub no_number : List ℕ → Option ℕ
no_number name = None

unfoldable pub numbers : List (List ℕ) → List Item → List Defined → List (Option ℕ)
numbers names items defined = with_definitions items 0 defined (map no_number names)

abbrev pub there : Option (Option ℕ) → Option ℕ
there None = None
there (Some n) = n

abbrev pub number_of : List (Option ℕ) → ℕ → Option ℕ
number_of ns name = there (slice_get ns name)
