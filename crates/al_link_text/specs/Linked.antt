-- The one text of several files. How it is laid out is this project's choice.
--
-- It has the tokens of the files in order, with two changes. A name that belongs to one file, of a global or of a function
-- that is marked intern or private there, gets the number of its file behind `__` wherever a token stands for that global or
-- function; a local, a member or a label of the same name stays. A type item is left out where an earlier file has the same.
use Rattle.std.specs.Prelude.{◌≡◌, ℕ, ◌+◌, Bool, true, false, ◌&&◌, if◌then◌else◌, List, [], ◌∷◌, ◌++◌, Option, Some, codes, decimal}
use Rattle.std.specs.List.{flat_map, list_any}
use Rattle.al_lex.specs.declared.kind.TokenKind.{TokenKind}
use Rattle.al_lex.specs.declared.kind.TokenKind.TheVariants as k
use Rattle.al_lex.specs.declared.token.Token.{Token}
use Rattle.al_lex.specs.TokenList.{bytes_of}
use Rattle.al_lex.specs.Written.{same_bytes}
use Rattle.al_tree.specs.Words.{is_name}
use Rattle.al_tree.specs.Types.{known}
use Rattle.al_tree.specs.declared.item.Item.{Item}
use Rattle.al_scope.specs.declared.declaration.Declaration.{Declaration}
use Rattle.al_scope.specs.declared.declaration.Declaration.TheVariants as d
use Rattle.al_scope.specs.Firsts.{declaration_at}
use Rattle.al_link_text.specs.Items.{own_names, is_type_item, of_items}
use Rattle.al_link_text.specs.Files.{own_tokens}
use Rattle.al_link_text.specs.declared.file.File.{File}

-- a line ends behind these
abbrev pub ends_line : TokenKind → Bool
ends_line k.Semicolon = true
ends_line k.LeftBrace = true
ends_line k.RightBrace = true
ends_line _ = false

-- a token's bytes, and a line feed or a space behind them
abbrev pub spaced : TokenKind → List ℕ → List ℕ
spaced kind bytes = bytes ++ (if ends_line kind then codes "\n" else codes " ")

-- ---- the names of one file

-- a token that stands for a global or for a function outside of adts
abbrev pub is_at_file_level : Option Declaration → Bool
is_at_file_level (Some (d.Global n)) = true
is_at_file_level (Some (d.Function n)) = true
is_at_file_level _ = false

-- the token stands for a global or function whose name belongs to the file
abbrev pub is_renamed : File → Token → Bool
is_renamed file t = is_name t.kind && (known (own_names file.tree.items) t.name && is_at_file_level (declaration_at file.scopes.names t.place))

-- what stands behind a name of file k
abbrev pub suffix : ℕ → List ℕ
suffix k = codes "__" ++ decimal k

abbrev pub word : ℕ → File → Token → List ℕ
word k file t = bytes_of file.tokens.text t ++ (if is_renamed file t then suffix k else [])

-- the tokens of an item of file k, written
abbrev pub words : ℕ → File → List Token → List ℕ
words k file own = flat_map (λ (t : Token). spaced t.kind (word k file t)) own

-- ---- type items

-- the tokens of an item, written; two items are the same where these are
abbrev pub item_text : File → List Token → List ℕ
item_text file own = flat_map (λ (t : Token). spaced t.kind (bytes_of file.tokens.text t)) own

abbrev pub type_text : File → Item → List Token → List (List ℕ)
type_text file x own = if is_type_item x then item_text file own ∷ [] else []

-- the type items of a file
abbrev pub type_texts : File → List (List ℕ)
type_texts file = of_items (type_text file) file.tree.items (own_tokens file)

-- one of these is the same
abbrev pub among : List (List ℕ) → List ℕ → Bool
among texts text = list_any (same_bytes text) texts

-- the same are found among these, with any more behind them
abbrev pub Alike : List (List ℕ) → List (List ℕ) → Type 0
Alike a b = (more : List (List ℕ)) (other : List ℕ) → among (a ++ more) other ≡ among (b ++ more) other

-- ---- the text

-- a type item that is among those of the earlier files
abbrev pub is_repeated : List (List ℕ) → File → Item → List Token → Bool
is_repeated earlier file x own = is_type_item x && among earlier (item_text file own)

-- an item of file k
abbrev pub linked_item : List (List ℕ) → ℕ → File → Item → List Token → List ℕ
linked_item earlier k file x own = if is_repeated earlier file x own then [] else words k file own

abbrev pub linked_file : List (List ℕ) → ℕ → File → List ℕ
linked_file earlier k file = of_items (linked_item earlier k file) file.tree.items (own_tokens file)

-- files from number k on
abbrev pub linked_from : List (List ℕ) → ℕ → List File → List ℕ
linked_from earlier k [] = []
linked_from earlier k (file ∷ files) = linked_file earlier k file ++ linked_from (earlier ++ type_texts file) (k + 1) files

-- the text of files in order, which are numbered from 1
abbrev pub linked : List File → List ℕ
linked files = linked_from [] 1 files
