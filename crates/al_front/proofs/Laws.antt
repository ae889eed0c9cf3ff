-- An accepted text has one program, and where that is within the limits the text is not refused.
use Rattle.std.proofs.Common.{◌≡◌, ℕ, suc, List, [], length, Ok, refl, sym, ap, ap₂, ◌∙◌, subst, arith, inl, inr}
use Rattle.al_lex.specs.declared.token.Token.{Token}
use Rattle.al_lex.specs.TokenList.{TokenList}
use Rattle.al_lex.specs.Written.{IsCutInto, tokens_of}
use Rattle.al_lex.proofs.Laws.{one_cutting, never_both as never_stuck}
use Rattle.al_tree.specs.declared.item.Item.{Item}
use Rattle.al_tree.specs.declared.item.Tree.{Tree}
use Rattle.al_tree.specs.Parts.{TokensFrom}
use Rattle.al_tree.specs.Reading.{Outcome}
use Rattle.al_parse_stmt.specs.Calls.{IsText}
use Rattle.al_parse_stmt.proofs.TextIs.{text_only}
use Rattle.al_typed.specs.declared.program.Program.{Program}
use Rattle.al_typed.specs.Measures.{IsWithin}
use Rattle.al_front.specs.Accepted.{IsRead, IsTyped, IsAccepted, IsTextRefused, IsTreeRefused, IsRefused}
use Rattle.al_front.specs.declared.refused.Refused.{Refused}
use Rattle.al_front.specs.declared.refused.Refused.TheVariants as refused
use Rattle.al_front.proofs.Typed.{one_typed, never_both_tree}

-- tokens are one tree at most
one_text : (toks : TokenList) (tree other : Tree) → IsText toks tree → IsText toks other → tree ≡ other
one_text toks tree other t u =
    let list : List Token = t.is.front in
    let tokens : TokensFrom toks 0 list = record { front = t.is.front; last = t.is.last; is = t.is.is; «from» = refl } in
    let a = text_only toks list tokens (suc (length list)) tree (omega arith) t in
    let b = text_only toks list tokens (suc (length list)) other (omega arith) u in
    let both : ◌≡◌ {A = Outcome (List Item × ℕ)} (Ok ((tree.items, a.height), [])) (Ok ((other.items, b.height), [])) = sym a.read ∙ b.read in
    let pairs : ◌≡◌ {A = (List Item × ℕ) × List Token} ((tree.items, a.height), []) ((other.items, b.height), []) = cc in
    let T : List Item → List (List ℕ) → Tree = λ xs ns. record { items = xs; names = ns } in
    ap₂ T (ap (λ (p : (List Item × ℕ) × List Token). p.0.0) pairs) (a.names ∙ sym b.names)

one_cut : (text : List ℕ) (ts us : List Token) → IsCutInto text ts → IsCutInto text us → ts ≡ us
one_cut text ts us a b = a.is ∙ ap tokens_of (one_cutting text a.pieces b.pieces a.cut b.cut) ∙ sym b.is

retold : (text : List ℕ) (ts us : List Token) (tree : Tree) → IsCutInto text ts → IsCutInto text us → IsText (record { list = ts; text = text }) tree → IsText (record { list = us; text = text }) tree
retold text ts us tree a b is =
    let P : List Token → Type 0 = λ l. IsText (record { list = l; text = text }) tree in subst P (one_cut text ts us a b) is

one_tree : (text : List ℕ) (tree other : Tree) → IsRead text tree → IsRead text other → tree ≡ other
one_tree text tree other a b = one_text (record { list = a.tokens; text = text }) tree other a.is (retold text b.tokens a.tokens other b.cut a.cut b.is)

no_tree_refused : (text : List ℕ) (p : Program) (r : Refused) → IsAccepted text p → IsWithin p → IsTextRefused text r → ⊥
no_tree_refused text p r a w is =
    let P : Tree → Type 0 = λ t. IsTreeRefused t r in
    never_both_tree a.tree p r a.typed w (subst P (one_tree text is.tree a.tree is.read a.read) is.refuses)

pub never_both : (text : List ℕ) (p : Program) (r : Refused) → IsAccepted text p → IsWithin p → IsRefused text r → ⊥
never_both text p (refused.Lex f) a w is = let c = a.read.cut in never_stuck text c.pieces f.reason f.byte c.cut is.1
never_both text p (refused.Parse f) a w is = is.none a.tree (retold text a.read.tokens is.tokens a.tree a.read.cut is.cut a.read.is)
never_both text p (refused.Types l) a w is = no_tree_refused text p (refused.Types l) a w is
never_both text p (refused.Typing f) a w is = no_tree_refused text p (refused.Typing f) a w is
never_both text p (refused.Limit l) a w (inl long) = let short = a.read.short in let more = long.0 in omega (arith, short, more)
never_both text p (refused.Limit l) a w (inr is) = no_tree_refused text p (refused.Limit l) a w is

pub one_program : (text : List ℕ) (p q : Program) → IsAccepted text p → IsAccepted text q → p ≡ q
one_program text p q a b =
    let P : Tree → Type 0 = λ t. IsTyped t p in
    one_typed b.tree p q (subst P (one_tree text a.tree b.tree a.read b.read) a.typed) b.typed
