-- The instances of adts with parameters that a text needs.
--
-- First stand those that the text names, in text order; then, instance by instance, those that its body and its functions
-- name, in text order. Each stands once. A list that would be longer than 257 is its first 257.
use Rattle.std.specs.Prelude.{ℕ, zero, suc, ◌==◌, nat_le, Bool, false, ◌||◌, if◌then◌else◌, List, [], ◌∷◌, ◌++◌, map, fold, length, slice_get, Option, Some, None, is_some, is_none}
use Rattle.std.specs.List.{flat_map, list_any}
use Rattle.std.specs.Option.{option_to_list}
use Rattle.al_tree.specs.declared.type_tree.TypeTree.{TypeTree}
use Rattle.al_tree.specs.declared.item.Owner.{Owner}
use Rattle.al_tree.specs.declared.item.Head.{Head}
use Rattle.al_tree.specs.declared.item.Declarator.{Declarator}
use Rattle.al_tree.specs.declared.item.Declarator.TheVariants as declarator
use Rattle.al_tree.specs.declared.item.Item.{Item}
use Rattle.al_tree.specs.declared.item.Item.TheVariants as item
use Rattle.al_poly.specs.declared.fault.Misuse.{Misuse}
use Rattle.al_poly.specs.declared.instance.Instance.{Instance}
use Rattle.al_poly.specs.declared.names.Names.{Names}
use Rattle.al_poly.specs.declared.piece.Piece.{Piece}
use Rattle.al_poly.specs.Concrete.{same_instance}
use Rattle.al_poly.specs.Written.{in_item}
use Rattle.al_poly.specs.Types.{adt_named, type_of, named_by, instances_in, names_of}
use Rattle.al_poly.specs.Rules.{misuses_in}

-- ---- to which adt with parameters an item belongs

abbrev pub adt_if_open : Names → ℕ → Option ℕ
adt_if_open names name = if is_some (adt_named names.adts name) then Some name else None

abbrev pub owner_of_name : Names → Option Owner → Option ℕ
owner_of_name names None = None
owner_of_name names (Some o) = adt_if_open names o.adt.name

abbrev pub owner_of_head : Names → Head → Option ℕ
owner_of_head names h = owner_of_name names h.owner

abbrev pub owner_of_declarator : Names → Declarator → Option ℕ
owner_of_declarator names (declarator.Global dcl value) = None
owner_of_declarator names (declarator.Function head) = owner_of_head names head

-- A list of declarations that begins with the head of an adt's function belongs to the adt as a whole.
abbrev pub owner_of_list : Names → List Declarator → Option ℕ
owner_of_list names [] = None
owner_of_list names (first ∷ rest) = owner_of_declarator names first

abbrev pub owner_of : Names → Item → Option ℕ
owner_of names (item.Adt at name parameters members) = adt_if_open names name.name
owner_of names (item.Function at scope base head body) = owner_of_head names head
owner_of names (item.Declare at scope base declarators) = owner_of_list names declarators
owner_of names _ = None

abbrev pub piece_of : Names → Item → Piece
piece_of names i = record { owner = owner_of names i; types = in_item i }

abbrev pub pieces_of : Names → List Item → List Piece
pieces_of names = map (piece_of names)

-- ---- instances

-- what belongs to the text, or to an instance
abbrev pub belongs : Option ℕ → Option Instance → Bool
belongs owner None = is_none owner
belongs None (Some i) = false
belongs (Some adt) (Some i) = adt == i.adt

abbrev pub named_by_piece : Names → Option Instance → Piece → List Instance
named_by_piece names inside p = if belongs p.owner inside then flat_map (instances_in names inside) p.types else []

-- those that the text names, or that the body and the functions of an instance name
abbrev pub named : Names → List Piece → Option Instance → List Instance
named names pieces inside = flat_map (named_by_piece names inside) pieces

abbrev pub most : ℕ
most = 257

abbrev pub is_there : List Instance → Instance → Bool
is_there list i = list_any (λ j. same_instance j i) list

-- one more, unless it is there already or the list is cut
unfoldable pub with_instance : List Instance → Instance → List Instance
with_instance list i = if nat_le most (length list) || is_there list i then list else list ++ i ∷ []

abbrev pub with_all : List Instance → List Instance → List Instance
with_all = fold with_instance

-- the one that a name with these type arguments names
abbrev pub with_named : Names → Option Instance → List Instance → ℕ → List TypeTree → List Instance
with_named names inside list name arguments = with_all list (option_to_list (named_by names inside name (map (type_of names inside) arguments)))

abbrev pub with_those_of : Names → List Piece → List Instance → Option Instance → List Instance
with_those_of names pieces list None = list
with_those_of names pieces list (Some i) = with_all list (named names pieces (Some i))

-- with those that the instance of that number names, if there is one
abbrev pub follow : Names → List Piece → List Instance → ℕ → List Instance
follow names pieces list n = with_those_of names pieces list (slice_get list n)

-- the list when the first `n` instances have been followed
unfoldable pub followed : Names → List Piece → (n : ℕ) → List Instance
followed names pieces zero = with_all [] (named names pieces None)
followed names pieces (suc n) = follow names pieces (followed names pieces n) n

-- those that are needed
unfoldable pub instances_of : Names → List Piece → List Instance
instances_of names pieces = followed names pieces most

-- ---- a text

unfoldable pub instances : List Item → List Instance
instances items = instances_of (names_of items) (pieces_of (names_of items) items)

abbrev pub misuses_of_piece : Names → Piece → List Misuse
misuses_of_piece names p = flat_map (misuses_in names p.owner) p.types

-- the breaks of rules 13 and 14
unfoldable pub misuses : List Item → List Misuse
misuses items = flat_map (misuses_of_piece (names_of items)) (pieces_of (names_of items) items)
