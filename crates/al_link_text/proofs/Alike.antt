-- Texts among which the same are found.
use Rattle.std.proofs.Common.{◌≡◌, ℕ, ◌+◌, ◌||◌, ◌&&◌, if◌then◌else◌, ◌<◌, List, [], ◌∷◌, ◌++◌, length, get_or, take, drop, refl, sym, ap, ◌∙◌, append_assoc}
use Rattle.std.proofs.lemmas.List.{append-nil, drop_more}
use Rattle.std.proofs.lemmas.List.Folds.{list_any-append}
use Rattle.al_lex.specs.declared.token.Token.{Token}
use Rattle.al_lex.specs.Written.{same_bytes}
use Rattle.al_tree.specs.declared.item.Item.{Item}
use Rattle.al_link_text.specs.Items.{own_count, of_items, is_type_item}
use Rattle.al_link_text.specs.Files.{own_tokens}
use Rattle.al_link_text.specs.Linked.{among, Alike, words, item_text, type_texts, linked_item, linked_file, linked_from}
use Rattle.al_link_text.specs.declared.file.File.{File}

pub alike_from : (a b : List (List ℕ)) → ((other : List ℕ) → among a other ≡ among b other) → Alike a b
alike_from a b same more other =
    list_any-append (same_bytes other) a more ∙ ap (λ v. v || among more other) (same other) ∙ sym (list_any-append (same_bytes other) b more)

pub among_alike : (a b : List (List ℕ)) → Alike a b → (other : List ℕ) → among a other ≡ among b other
among_alike a b same other =
    ap (λ l. among l other) (sym (append-nil a)) ∙ same [] other ∙ ap (λ l. among l other) (append-nil b)

pub more_alike : (a b c : List (List ℕ)) → Alike a b → Alike (a ++ c) (b ++ c)
more_alike a b c same more other =
    ap (λ l. among l other) (append_assoc a c more) ∙ same (c ++ more) other ∙ ap (λ l. among l other) (sym (append_assoc b c more))

items_alike : {A : Type 0} (f g : Item → List Token → List A) → ((x : Item) (own : List Token) → f x own ≡ g x own)
    → (items : List Item) (tokens : List Token) → of_items f items tokens ≡ of_items g items tokens
items_alike f g same [] tokens = refl
items_alike f g same (x ∷ more) tokens =
    ap (λ v. v ++ of_items f more (drop (own_count more tokens) tokens)) (same x (take (own_count more tokens) tokens))
    ∙ ap (λ v. g x (take (own_count more tokens) tokens) ++ v) (items_alike f g same more (drop (own_count more tokens) tokens))

file_alike : (a b : List (List ℕ)) → Alike a b → (k : ℕ) (file : File) → linked_file a k file ≡ linked_file b k file
file_alike a b same k file =
    items_alike (linked_item a k file) (linked_item b k file)
    (λ x own. ap (λ r. if is_type_item x && r then [] else words k file own) (among_alike a b same (item_text file own)))
    file.tree.items (own_tokens file)

pub linked_alike : (files : List File) (a b : List (List ℕ)) (k : ℕ) → Alike a b → linked_from a k files ≡ linked_from b k files
linked_alike [] a b k same = refl
linked_alike (file ∷ files) a b k same =
    ap (λ v. v ++ linked_from (a ++ type_texts file) (k + 1) files) (file_alike a b same k file)
    ∙ ap (λ v. linked_file b k file ++ v) (linked_alike files (a ++ type_texts file) (b ++ type_texts file) (k + 1) (more_alike a b (type_texts file) same))

-- one file more
pub linked_step : (files : List File) (i : ℕ) (file : File) (old new : List ℕ) (earlier grown : List (List ℕ)) (k : ℕ) (all : List ℕ)
    → i < length files → file ≡ get_or files i file → new ≡ old ++ linked_file earlier k file → Alike grown (earlier ++ type_texts file)
    → old ++ linked_from earlier k (drop i files) ≡ all → new ++ linked_from grown (k + 1) (drop (i + 1) files) ≡ all
linked_step files i file old new earlier grown k all h is written same before =
    let front : drop i files ≡ file ∷ drop (i + 1) files = drop_more files i file h ∙ ap (λ x. x ∷ drop (i + 1) files) (sym is) in
    ap (λ v. new ++ v) (linked_alike (drop (i + 1) files) grown (earlier ++ type_texts file) (k + 1) same)
    ∙ ap (λ v. v ++ linked_from (earlier ++ type_texts file) (k + 1) (drop (i + 1) files)) written
    ∙ append_assoc old (linked_file earlier k file) (linked_from (earlier ++ type_texts file) (k + 1) (drop (i + 1) files))
    ∙ ap (λ v. old ++ v) (sym (ap (linked_from earlier k) front)) ∙ before
