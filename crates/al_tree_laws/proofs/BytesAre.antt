-- The string constants of a tree have bytes where its text has.
use Rattle.std.proofs.Common.{◌≡◌, ℕ, zero, suc, ◌-◌, ◌==◌, nat_lt, Bool, true, false, ◌&&◌, if◌then◌else◌, List, [], ◌∷◌, ◌++◌, take, drop, take_while, flat_map, refl, sym, ap, ap₂, ◌∙◌, take-append-drop}
use Rattle.std.specs.List.{list_all}
use Rattle.std.proofs.lemmas.Bool.{and_parts}
use Rattle.std.proofs.lemmas.List.Folds.{list_all-append}
use Rattle.al_lex.specs.Bytes.{quote, backslash, is_hex, is_octal, value_of}
use Rattle.al_lex.specs.Scan.{escape_len, escape_byte, is_escape_letter, letter_byte, small_byte}
use Rattle.al_lex.specs.TokenList.{TokenList, bytes_of}
use Rattle.al_lex.specs.Values.{text_from}
use Rattle.al_lex.specs.declared.token.Token.{Token}
use Rattle.al_tree.specs.Leaves.{leaves_of}
use Rattle.al_tree.specs.Tree.{IsTree}
use Rattle.al_tree.specs.declared.item.Tree.{Tree}
use Rattle.al_tree_laws.specs.Texts.{item_texts}
use Rattle.al_tree_laws.proofs.ItemsAre.{items_few}

abbrev pub is_byte : ℕ → Bool
is_byte b = nat_lt b 256

abbrev pub are_bytes : List ℕ → Bool
are_bytes bs = list_all is_byte bs

either : {A : Type 0} (test : A → Bool) (c : Bool) (x y : A) → test x ≡ true → test y ≡ true → test (if c then x else y) ≡ true
either test true x y h k = h
either test false x y h k = k

parts_are : (xs ys : List ℕ) → are_bytes (xs ++ ys) ≡ true → (are_bytes xs ≡ true) × (are_bytes ys ≡ true)
parts_are xs ys h = and_parts (are_bytes xs) (are_bytes ys) (sym (list_all-append is_byte xs ys) ∙ h)

take_are : (n : ℕ) (xs : List ℕ) → are_bytes xs ≡ true → are_bytes (take n xs) ≡ true
take_are n xs h = (parts_are (take n xs) (drop n xs) (ap are_bytes (take-append-drop n xs) ∙ h)).0

drop_are : (n : ℕ) (xs : List ℕ) → are_bytes xs ≡ true → are_bytes (drop n xs) ≡ true
drop_are n xs h = (parts_are (take n xs) (drop n xs) (ap are_bytes (take-append-drop n xs) ∙ h)).1

-- ---- escapes

letter_is : (b : ℕ) → is_byte b ≡ true → is_byte (letter_byte b) ≡ true
letter_is b h =
    either is_byte (b == 110) 10 _ refl (either is_byte (b == 114) 13 _ refl (either is_byte (b == 116) 9 _ refl (either is_byte (b == 98) 8 _ refl
    (either is_byte (b == 102) 12 _ refl (either is_byte (b == 97) 7 _ refl (either is_byte (b == 118) 11 b refl h))))))

small_is : (v : ℕ) → is_byte (small_byte v) ≡ true
small_is v = on (nat_lt v 256) refl
  where
    on : (c : Bool) → nat_lt v 256 ≡ c → is_byte (if c then v else 0) ≡ true
    on true e = e
    on false e = refl

escape_is : (bs : List ℕ) → are_bytes bs ≡ true → is_byte (escape_byte bs) ≡ true
escape_is [] h = refl
escape_is (b ∷ bs) h =
    either is_byte (is_escape_letter b) (letter_byte b) _ (letter_is b (and_parts (is_byte b) (are_bytes bs) h).0)
    (either is_byte (b == 120) (small_byte (value_of 16 (take_while is_hex bs))) (small_byte (value_of 8 (take_while is_octal (b ∷ bs))))
    (small_is (value_of 16 (take_while is_hex bs))) (small_is (value_of 8 (take_while is_octal (b ∷ bs)))))

-- ---- strings

from_are : (skipped : ℕ) (bs : List ℕ) → are_bytes bs ≡ true → are_bytes (text_from skipped bs) ≡ true
unfolding text_from
from_are skipped [] h = refl
from_are (suc n) (b ∷ bs) h = from_are n bs (and_parts (is_byte b) (are_bytes bs) h).1
from_are zero (b ∷ bs) h =
    let p = and_parts (is_byte b) (are_bytes bs) h in
    let n = escape_len bs in
    either are_bytes (b == quote) [] _ refl
    (either are_bytes (b == backslash) (escape_byte (take n bs) ∷ text_from n bs) (b ∷ text_from zero bs)
    (ap₂ (λ a b. a && b) (escape_is (take n bs) (take_are n bs p.1)) (from_are n bs p.1))
    (ap₂ (λ a b. a && b) p.0 (from_are zero bs p.1)))

leaves_are : (text : List ℕ) → are_bytes text ≡ true → (t : Token) → are_bytes ((leaves_of text).bytes t) ≡ true
leaves_are text h t = from_are 0 (drop 1 (bytes_of text t)) (drop_are 1 (bytes_of text t) (take_are (t.to - t.from) (drop t.from text) (drop_are t.from text h)))

pub texts_are_bytes : (tokens : TokenList) (tree : Tree) (height : ℕ) → IsTree tokens tree height → are_bytes tokens.text ≡ true → list_all are_bytes (flat_map item_texts tree.items) ≡ true
texts_are_bytes tokens tree height is h = (items_few (leaves_of tokens.text) are_bytes (leaves_are tokens.text h) is.tree_of.items).each
