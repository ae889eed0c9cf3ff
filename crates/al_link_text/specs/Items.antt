-- What items at file level say of names that belong to one file, and which tokens an item has.
use Rattle.std.specs.Prelude.{ℕ, Bool, true, false, not, if◌then◌else◌, List, [], ◌∷◌, ◌++◌, fold, take, drop, length, Option, Some, is_some, unwrap_or}
use Rattle.std.specs.List.{position_from}
use Rattle.al_base.specs.declared.place.Place.{Place}
use Rattle.al_lex.specs.declared.token.Token.{Token}
use Rattle.al_tree.specs.Constants.{is_before}
use Rattle.al_tree.specs.Types.{with_name}
use Rattle.al_tree.specs.declared.item.Scope.{Scope}
use Rattle.al_tree.specs.declared.item.Scope.TheVariants as sc
use Rattle.al_tree.specs.declared.item.Head.{Head}
use Rattle.al_tree.specs.declared.item.Declarator.{Declarator}
use Rattle.al_tree.specs.declared.item.Declarator.TheVariants as declarator
use Rattle.al_tree.specs.declared.item.Item.{Item}
use Rattle.al_tree.specs.declared.item.Item.TheVariants as item

-- ---- names of one file: those of globals and functions outside of adts that a declaration marks intern or private

abbrev pub is_own : Option Scope → Bool
is_own (Some sc.Intern) = true
is_own (Some sc.Private) = true
is_own _ = false

-- the functions of an adt belong to no file
abbrev pub with_function : List ℕ → Head → List ℕ
with_function names head = if is_some head.owner then names else with_name names head.name.name

abbrev pub with_declarator : List ℕ → Declarator → List ℕ
with_declarator names (declarator.Global dcl value) = with_name names dcl.name.name
with_declarator names (declarator.Function head) = with_function names head

abbrev pub with_item : List ℕ → Item → List ℕ
with_item names (item.Declare at scope base declarators) = if is_own scope then fold with_declarator names declarators else names
with_item names (item.Function at scope base head body) = if is_own scope then with_function names head else names
with_item names _ = names

-- the numbers of the names of one file, each once
abbrev pub own_names : List Item → List ℕ
own_names items = fold with_item [] items

-- ---- items that declare types

abbrev pub is_type_item : Item → Bool
is_type_item (item.Declare at scope base declarators) = false
is_type_item (item.Function at scope base head body) = false
is_type_item _ = true

-- ---- the tokens of items

-- where an item begins
abbrev pub place_of : Item → Place
place_of (item.Typedef at base dcl) = at
place_of (item.FunctionType at base stars name parameters) = at
place_of (item.Forward at kind name) = at
place_of (item.Aggregate at kind name members) = at
place_of (item.Adt at name parameters members) = at
place_of (item.Enum at name constants) = at
place_of (item.Declare at scope base declarators) = at
place_of (item.Function at scope base head body) = at

-- a token from a place on
abbrev pub is_from : Place → Token → Bool
is_from place t = not (is_before t.place place)

-- How many of the tokens from an item on are its own: those before the place where the next item begins. An optional
-- semicolon behind a brace is one of them.
abbrev pub own_count : (more : List Item) → List Token → ℕ
own_count [] tokens = length tokens
own_count (next ∷ more) tokens = unwrap_or (position_from (is_from (place_of next)) 0 tokens) (length tokens)

-- what each item has, with its own tokens
abbrev pub of_items : {A : Type 0} → (Item → List Token → List A) → List Item → List Token → List A
of_items f [] tokens = []
of_items f (x ∷ more) tokens = f x (take (own_count more tokens) tokens) ++ of_items f more (drop (own_count more tokens) tokens)
