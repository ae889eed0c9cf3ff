-- Functions that are defined in two files.
use Rattle.std.specs.Prelude.{ℕ, ◌+◌, if◌then◌else◌, List, [], ◌∷◌, ◌++◌, map, find, Option, Some, None, option_map, codes, slice_get, unwrap_or}
use Rattle.std.specs.List.{flat_map}
use Rattle.al_base.specs.declared.place.Place.{Place}
use Rattle.al_tree.specs.Types.{known}
use Rattle.al_tree.specs.declared.item.Owner.{Owner}
use Rattle.al_tree.specs.declared.item.Head.{Head}
use Rattle.al_tree.specs.declared.item.Item.{Item}
use Rattle.al_tree.specs.declared.item.Item.TheVariants as item
use Rattle.al_link_text.specs.Items.{own_names}
use Rattle.al_link_text.specs.Linked.{among}
use Rattle.al_link_text.specs.declared.file.File.{File}
use Rattle.al_link_names.specs.declared.defined.Defined.{Defined}
use Rattle.al_link_names.specs.declared.at.At.{At}

-- the bytes of a name
abbrev pub bytes_of_name : File → ℕ → List ℕ
bytes_of_name file n = unwrap_or (slice_get file.tree.names n) []

abbrev pub defined : File → Head → List ℕ → List Defined
defined file head before = record { name = before ++ bytes_of_name file head.name.name; at = head.name.at } ∷ []

-- a function of an adt is told by the adt's name too, and belongs to no file
abbrev pub defined_of : File → List ℕ → Head → Option Owner → List Defined
defined_of file own head None = if known own head.name.name then [] else defined file head []
defined_of file own head (Some owner) = defined file head (bytes_of_name file owner.adt.name ++ codes ".")

abbrev pub defined_by : File → List ℕ → Item → List Defined
defined_by file own (item.Function at scope base head body) = defined_of file own head head.owner
defined_by file own _ = []

-- the functions that a file defines for all files
abbrev pub all_defined : File → List Defined
all_defined file = flat_map (defined_by file (own_names file.tree.items)) file.tree.items

abbrev pub name_of : Defined → List ℕ
name_of d = d.name

-- where the first of these stands that is among the names
abbrev pub first_among : List (List ℕ) → List Defined → Option Place
first_among earlier list = option_map (λ (d : Defined). d.at) (find (λ (d : Defined). among earlier d.name) list)

abbrev pub at_or : Option Place → ℕ → Option At → Option At
at_or (Some place) k later = Some (record { file = k; place = place })
at_or None k later = later

-- the first that an earlier file defines too, in files from number k on
abbrev pub twice_from : List (List ℕ) → ℕ → List File → Option At
twice_from earlier k [] = None
twice_from earlier k (file ∷ files) = at_or (first_among earlier (all_defined file)) k (twice_from (earlier ++ map name_of (all_defined file)) (k + 1) files)

abbrev pub first_twice : List File → Option At
first_twice files = twice_from [] 1 files
