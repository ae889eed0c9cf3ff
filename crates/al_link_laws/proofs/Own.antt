-- The text of one file that has no name of its own.
use Rattle.std.proofs.Common.{◌≡◌, ℕ, Bool, true, false, ◌&&◌, if◌then◌else◌, List, [], ◌∷◌, ◌++◌, take, drop, refl, sym, ap, ap₂, ◌∙◌, arith}
use Rattle.std.proofs.lemmas.List.{append-nil, take_all, take-append-drop}
use Rattle.std.proofs.lemmas.Grind.{flat_map-append}
use Rattle.al_lex.specs.declared.token.Token.{Token}
use Rattle.al_lex.specs.TokenList.{bytes_of}
use Rattle.al_tree.specs.Words.{is_name}
use Rattle.al_tree.specs.Types.{known}
use Rattle.al_tree.specs.declared.item.Item.{Item}
use Rattle.al_scope.specs.Firsts.{declaration_at}
use Rattle.al_link_text.specs.Items.{own_names, is_type_item, own_count, of_items}
use Rattle.al_link_text.specs.Files.{own_tokens}
use Rattle.al_link_text.specs.Linked.{spaced, is_at_file_level, is_renamed, suffix, word, words, item_text, linked_item}
use Rattle.al_link_text.specs.declared.file.File.{File}
use Rattle.al_link_laws.specs.Laws.{OwnText}

and_false : (b : Bool) → (b && false) ≡ false
and_false true = refl
and_false false = refl

plain : (file : File) → own_names file.tree.items ≡ [] → (t : Token) → is_renamed file t ≡ false
plain file none t =
    ap (λ own. is_name t.kind && (known own t.name && is_at_file_level (declaration_at file.scopes.names t.place))) none ∙ and_false (is_name t.kind)

word_plain : (k : ℕ) (file : File) → own_names file.tree.items ≡ [] → (t : Token) → word k file t ≡ bytes_of file.tokens.text t
word_plain k file none t =
    ap (λ r. bytes_of file.tokens.text t ++ (if r then suffix k else [])) (plain file none t) ∙ append-nil (bytes_of file.tokens.text t)

words_plain : (k : ℕ) (file : File) → own_names file.tree.items ≡ [] → (own : List Token) → words k file own ≡ item_text file own
words_plain k file none [] = refl
words_plain k file none (t ∷ ts) = ap₂ (λ u v. spaced t.kind u ++ v) (word_plain k file none t) (words_plain k file none ts)

item_plain : (k : ℕ) (file : File) → own_names file.tree.items ≡ [] → (x : Item) (own : List Token) → linked_item [] k file x own ≡ item_text file own
item_plain k file none x own = ap (λ r. if r then [] else words k file own) (and_false (is_type_item x)) ∙ words_plain k file none own

items_plain : (k : ℕ) (file : File) → own_names file.tree.items ≡ [] → (items : List Item) (tokens : List Token)
    → of_items (linked_item [] k file) items tokens ≡ of_items (λ x own. item_text file own) items tokens
items_plain k file none [] tokens = refl
items_plain k file none (x ∷ more) tokens =
    ap₂ (λ u v. u ++ v) (item_plain k file none x (take (own_count more tokens) tokens)) (items_plain k file none more (drop (own_count more tokens) tokens))

whole : (file : File) (x : Item) (more : List Item) (tokens : List Token) → of_items (λ x own. item_text file own) (x ∷ more) tokens ≡ item_text file tokens
whole file x [] tokens =
    append-nil (item_text file (take (own_count [] tokens) tokens)) ∙ ap (item_text file) (take_all (own_count [] tokens) tokens (omega arith))
whole file x (y ∷ more) tokens =
    ap (λ v. item_text file (take (own_count (y ∷ more) tokens) tokens) ++ v) (whole file y more (drop (own_count (y ∷ more) tokens) tokens))
    ∙ sym (flat_map-append (λ (t : Token). spaced t.kind (bytes_of file.tokens.text t)) (take (own_count (y ∷ more) tokens) tokens) (drop (own_count (y ∷ more) tokens) tokens))
    ∙ ap (item_text file) (take-append-drop (own_count (y ∷ more) tokens) tokens)

by_items : (file : File) (items : List Item) (tokens : List Token) → (items ≡ [] → tokens ≡ []) → of_items (λ x own. item_text file own) items tokens ≡ item_text file tokens
by_items file [] tokens empty = sym (ap (item_text file) (empty refl))
by_items file (x ∷ more) tokens empty = whole file x more tokens

pub own_text : OwnText
own_text file none empty =
    append-nil (of_items (linked_item [] 1 file) file.tree.items (own_tokens file)) ∙ items_plain 1 file none file.tree.items (own_tokens file)
    ∙ by_items file file.tree.items (own_tokens file) empty
