-- What parsing the tokens of a text says of the text.
use Rattle.std.proofs.Common.{◌≡◌, ◌≢◌, ℕ, ◌≤◌, ◌^◌, List, length, Ok, Err, Result, refl, sym, ap, ◌∙◌, subst}
use Rattle.al_lex.specs.declared.token.Token.{Token}
use Rattle.al_lex.specs.Cut.{Piece, Cut}
use Rattle.al_lex.specs.TokenList.{TokenList}
use Rattle.al_lex.specs.Written.{IsCutInto, tokens_of}
use Rattle.al_tree.specs.declared.item.Tree.{Tree}
use Rattle.al_tree.specs.declared.fault.ParseFault.{ParseFault}
use Rattle.al_tree.specs.declared.fault.ParseStop.{ParseStop}
use Rattle.al_tree.specs.declared.fault.ParseStop.TheVariants as parse
use Rattle.al_tree.specs.Tree.{IsParseFault}
use Rattle.al_parse_stmt.specs.Calls.{IsText}
use Rattle.al_front.specs.Stops.{of_parse}
use Rattle.al_front.specs.Accepted.{IsRead, LacksTree, IsRefused}
use Rattle.al_front.specs.declared.refused.Refused.{Refused}
use Rattle.al_front.specs.declared.refused.Refused.TheVariants as refused
use Rattle.al_front.specs.declared.refused.FrontStop.{FrontStop}
use Rattle.al_front.specs.declared.refused.FrontStop.TheVariants as stop

module _ (text : List ℕ) (toks : TokenList) (told : toks.text ≡ text) where
  as_told : toks ≡ record { list = toks.list; text = text }
  as_told = let K : List ℕ → TokenList = λ t. record { list = toks.list; text = t } in ap K told

  -- the tree of a text is one of its tokens
  pub tree_of_tokens : (tree : Tree) → ((pieces : List Piece) → Cut text pieces → toks.list ≡ tokens_of pieces) → IsRead text tree → IsText toks tree
  tree_of_tokens tree only read =
      let list : read.tokens ≡ toks.list = read.cut.is ∙ sym (only read.cut.pieces read.cut.cut) in
      let L : List Token → Type 0 = λ l. IsText (record { list = l; text = text }) tree in
      let P : TokenList → Type 0 = λ k. IsText k tree in
      subst P (sym as_told) (subst L list read.is)

  lacks_tree : (f : ParseFault) → length text ≤ 2 ^ 20 → IsCutInto text toks.list → IsParseFault toks f → ((tree : Tree) → IsText toks tree → ⊥) → LacksTree text f
  lacks_tree f short cut named none =
      let N : TokenList → Type 0 = λ k. IsParseFault k f in
      record {
        short = short;
        tokens = toks.list;
        cut = cut;
        named = subst N as_told named;
        none = λ tree is. none tree (let P : TokenList → Type 0 = λ k. IsText k tree in subst P (sym as_told) is);
      }

  none_at : (f : ParseFault) → ((tree : Tree) → IsText toks tree → ◌≢◌ {A = Result Tree ParseStop} (Err (parse.Fault f)) (Err parse.NoMemory) → ◌≡◌ {A = Result Tree ParseStop} (Err (parse.Fault f)) (Ok tree))
      → (tree : Tree) → IsText toks tree → ⊥
  none_at f whole tree is = let e = whole tree is (λ e. cc) in cc

  module _ (result : Result Tree FrontStop) (y : FrontStop) (is : result ≡ Err y) where
    pub treeless_refuses : (s : ParseStop) → y ≡ of_parse s → length text ≤ 2 ^ 20 → IsCutInto text toks.list
        → ((f : ParseFault) → ◌≡◌ {A = Result Tree ParseStop} (Err s) (Err (parse.Fault f)) → IsParseFault toks f)
        → ((tree : Tree) → IsText toks tree → ◌≢◌ {A = Result Tree ParseStop} (Err s) (Err parse.NoMemory) → ◌≡◌ {A = Result Tree ParseStop} (Err s) (Ok tree))
        → (r : Refused) → result ≡ Err (stop.Refused r) → IsRefused text r
    treeless_refuses (parse.Fault f) of short cut named whole r e =
        let same : refused.Parse f ≡ r = cc in subst (IsRefused text) same (lacks_tree f short cut (named f refl) (none_at f whole))
    treeless_refuses parse.NoMemory of short cut named whole r e = absurd (cc)

    pub treeless_only : (s : ParseStop) → y ≡ of_parse s → ((pieces : List Piece) → Cut text pieces → toks.list ≡ tokens_of pieces)
        → ((tree : Tree) → IsText toks tree → ◌≢◌ {A = Result Tree ParseStop} (Err s) (Err parse.NoMemory) → ◌≡◌ {A = Result Tree ParseStop} (Err s) (Ok tree))
        → (tree : Tree) → IsRead text tree → result ≢ Err stop.NoMemory → result ≡ Ok tree
    treeless_only (parse.Fault f) of only whole tree read some = absurd (none_at f whole tree (tree_of_tokens tree only read))
    treeless_only parse.NoMemory of only whole tree read some = absurd (some (is ∙ ap Err of))
