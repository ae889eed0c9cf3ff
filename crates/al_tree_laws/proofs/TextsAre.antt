-- The string constants and the globals of a tree are no more than tokens, and no string constant is longer than the text.
use Rattle.std.proofs.Common.{◌≡◌, ℕ, zero, suc, ◌-◌, ◌<◌, ◌≤◌, ◌==◌, Bool, true, false, if◌then◌else◌, List, [], ◌∷◌, length, take, drop, flat_map, sum_by, ap, arith, length-append, length-drop, take-append-drop}
use Rattle.std.proofs.lemmas.Bool.{le-leb}
use Rattle.al_lex.specs.Bytes.{quote, backslash}
use Rattle.al_lex.specs.Scan.{escape_len, escape_byte}
use Rattle.al_lex.specs.TokenList.{TokenList, bytes_of}
use Rattle.al_lex.specs.Values.{text_from, text_of}
use Rattle.al_lex.specs.declared.token.Token.{Token}
use Rattle.al_tree.specs.Leaves.{leaves_of}
use Rattle.al_tree.specs.Tree.{IsTree}
use Rattle.al_tree.specs.declared.item.Tree.{Tree}
use Rattle.al_tree_laws.specs.Texts.{TextsAreFew, item_texts, item_globals, is_short}
use Rattle.al_tree_laws.proofs.Few.{Few}
use Rattle.al_tree_laws.proofs.ItemsAre.{items_few, items_count}

from_short : (skipped : ℕ) (bs : List ℕ) → length (text_from skipped bs) ≤ length bs
unfolding text_from
from_short skipped [] = omega arith
from_short (suc n) (b ∷ bs) = let p : length (text_from n bs) ≤ length bs = from_short n bs in omega (arith, p)
from_short zero (b ∷ bs) = quoted (b == quote) (from_short (escape_len bs) bs) (from_short zero bs)
  where
    escaped : (c : Bool) → length (text_from (escape_len bs) bs) ≤ length bs → length (text_from zero bs) ≤ length bs
        → length (if c then escape_byte (take (escape_len bs) bs) ∷ text_from (escape_len bs) bs else b ∷ text_from zero bs) ≤ length (b ∷ bs)
    escaped true p q = omega (arith, p)
    escaped false p q = omega (arith, q)

    quoted : (c : Bool) → length (text_from (escape_len bs) bs) ≤ length bs → length (text_from zero bs) ≤ length bs
        → length (if c then [] else (if b == backslash then escape_byte (take (escape_len bs) bs) ∷ text_from (escape_len bs) bs else b ∷ text_from zero bs)) ≤ length (b ∷ bs)
    quoted true p q = omega arith
    quoted false p q = escaped (b == backslash) p q

take_short : (n : ℕ) (xs : List ℕ) → length (take n xs) ≤ length xs
take_short n xs = omega (arith, ap length (take-append-drop n xs), length-append (take n xs) (drop n xs))

bytes_short : (text : List ℕ) (t : Token) → length (text_of (bytes_of text t)) ≤ length text
bytes_short text t =
    let p : length (text_of (bytes_of text t)) ≤ length (drop 1 (bytes_of text t)) = from_short 0 (drop 1 (bytes_of text t)) in
    let q : length (bytes_of text t) ≤ length (drop t.from text) = take_short (t.to - t.from) (drop t.from text) in
    omega (arith, p, q, length-drop 1 (bytes_of text t), length-drop t.from text)

leaves_short : (text : List ℕ) (t : Token) → is_short (length text) ((leaves_of text).bytes t) ≡ true
leaves_short text t = le-leb (length (text_of (bytes_of text t))) (length text) (bytes_short text t)

tree_few : (tokens : TokenList) (tree : Tree) (height : ℕ) (is : IsTree tokens tree height) → Few (is_short (length tokens.text)) is.front (flat_map item_texts tree.items)
tree_few tokens tree height is = items_few (leaves_of tokens.text) (is_short (length tokens.text)) (leaves_short tokens.text) is.tree_of.items

front_short : (tokens : TokenList) (tree : Tree) (height : ℕ) (is : IsTree tokens tree height) → length is.front < length tokens.list
front_short tokens tree height is = omega (arith, ap length is.is, length-append is.front (is.last ∷ []))

pub texts_are_few : TextsAreFew
texts_are_few = record {
  texts = λ tokens tree height is. omega (arith, (tree_few tokens tree height is).count, front_short tokens tree height is);
  short = λ tokens tree height is. (tree_few tokens tree height is).each;
  globals = λ tokens tree height is. let p : sum_by item_globals tree.items ≤ length is.front = items_count (leaves_of tokens.text) is.tree_of.items in
      omega (arith, p, front_short tokens tree height is);
}
