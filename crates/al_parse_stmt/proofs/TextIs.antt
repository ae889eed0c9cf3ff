-- What the parser of whole texts answers.
use Rattle.std.proofs.Common.{◌≡◌, ◌≢◌, ℕ, ◌<◌, ◌≤◌, List, [], length, Ok, Err, refl, sym, ap, ◌∙◌, subst, arith}
use Rattle.al_lex.specs.declared.token.Token.{Token}
use Rattle.al_lex.specs.TokenList.{TokenList}
use Rattle.al_tree.specs.Types.{Leaves}
use Rattle.al_tree.specs.Leaves.{leaves_of, names_from}
use Rattle.al_tree.specs.Items.{nothing_declared, IsItems}
use Rattle.al_tree.specs.Parts.{TokensFrom, stop_of}
use Rattle.al_tree.specs.Reading.{Outcome}
use Rattle.al_tree.specs.declared.cursor.ParseError.{ParseError}
use Rattle.al_tree.specs.declared.cursor.ParseError.TheVariants.{NoMemory}
use Rattle.al_tree.specs.declared.fault.ParseStop.TheVariants as stop
use Rattle.al_tree.specs.Tree.{limit}
use Rattle.al_tree.specs.declared.item.Item.{Item}
use Rattle.al_tree.specs.declared.item.Tree.{Tree}
use Rattle.al_tree.proofs.PartVerdicts.{one_list}
use Rattle.al_tree.proofs.Verdicts.{world}
use Rattle.al_parse_stmt.specs.Calls.{IsText}
use Rattle.al_parse_stmt.specs.Parse.{items_from, text_items}
use Rattle.al_parse_stmt.proofs.Facts.{never_ok}
use Rattle.al_parse_stmt.proofs.ItemComplete.{text_c}
use Rattle.al_parse_stmt.proofs.TextJudge.{More, JudgedText, text_judged}

module _ (toks : TokenList) (list : List Token) (tokens : TokensFrom toks 0 list) where
  abbrev L : Leaves
  L = leaves_of toks.text

  all : list ≡ tokens.front
  all = tokens.«from»

  pub text_is : (F : ℕ) (xs : List Item) (h : ℕ) (r : List Token) → length list < F → text_items L F 199 list ≡ Ok ((xs, h), r) → h ≤ limit → (names : List (List ℕ)) → names ≡ names_from toks.text [] list → IsText toks (record { names = names; items = xs })
  text_is F xs h r short e low names n =
      let q = subst (JudgedText (world F 199) (λ w. items_from L w.turns w.depth w.fuel nothing_declared [] 0) (More L []) list) e (text_judged L F 199 list short) in
      record {
        height = h;
        low = low;
        is = record {
          front = tokens.front;
          last = tokens.last;
          is = tokens.is;
          tree_of = record {
            declared = q.1.after;
            items = subst (λ z. IsItems L z xs q.1.after h) all q.1.is;
            names = n ∙ ap (names_from toks.text []) all;
          };
        };
      }

  -- the tree, as it is read
  pub record Only (F : ℕ) (tree : Tree) : Type 0 where
    pub height : ℕ
    pub read : text_items L F 199 list ≡ Ok ((tree.items, height), [])
    pub names : tree.names ≡ names_from toks.text [] list

  pub text_only : (F : ℕ) (tree : Tree) → length list < F → IsText toks tree → Only F tree
  text_only F tree short t =
      let same : list ≡ t.is.front = one_list toks 0 list t.is.front tokens (record { front = t.is.front; last = t.is.last; is = t.is.is; «from» = refl }) in
      record {
        height = t.height;
        read = ap (text_items L F 199) same ∙ text_c L F 199 t.is.tree_of.items (omega (arith, t.low)) (omega (arith, short, ap length same));
        names = t.is.tree_of.names ∙ ap (names_from toks.text []) (sym same);
      }

memory_stops : (toks : TokenList) (e : ParseError) → e ≡ NoMemory → stop_of toks e ≡ stop.NoMemory
unfolding stop_of
memory_stops toks e h = ap (stop_of toks) h

-- where a parser refuses, there is no tree, unless memory ran out
pub text_none : (toks : TokenList) (list : List Token) → TokensFrom toks 0 list → (F : ℕ) → length list < F → (e : ParseError) → (e ≢ NoMemory → text_items (leaves_of toks.text) F 199 list ≡ Err e) → stop_of toks e ≢ stop.NoMemory → (tree : Tree) → IsText toks tree → ⊥
text_none toks list tokens F short e reads some tree t =
    let o = text_only toks list tokens F tree short t in
    never_ok e ((tree.items, o.height), []) (sym (reads (λ h. some (memory_stops toks e h))) ∙ o.read)

-- and where it reads one, that is the tree
pub text_same : (toks : TokenList) (list : List Token) → TokensFrom toks 0 list → (F : ℕ) → length list < F → (xs : List Item) (h : ℕ) (r : List Token) → text_items (leaves_of toks.text) F 199 list ≡ Ok ((xs, h), r) → (tree : Tree) → IsText toks tree → xs ≡ tree.items
text_same toks list tokens F short xs h r e tree t =
    let o = text_only toks list tokens F tree short t in
    let both : ◌≡◌ {A = Outcome (List Item × ℕ)} (Ok ((xs, h), r)) (Ok ((tree.items, o.height), [])) = sym e ∙ o.read in
    let pairs : ◌≡◌ {A = (List Item × ℕ) × List Token} ((xs, h), r) ((tree.items, o.height), []) = cc in
    ap (λ (p : (List Item × ℕ) × List Token). p.0.0) pairs

pub text_names : (toks : TokenList) (list : List Token) → TokensFrom toks 0 list → (F : ℕ) → length list < F → (names : List (List ℕ)) → names ≡ names_from toks.text [] list → (tree : Tree) → IsText toks tree → names ≡ tree.names
text_names toks list tokens F short names n tree t = let o = text_only toks list tokens F tree short t in n ∙ sym o.names
