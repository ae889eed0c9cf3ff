-- Whether a format fits arguments, from each piece on.
use Rattle.std.proofs.Common.{◌≡◌, ℕ, ◌+◌, ◌<◌, ◌≤◌, true, false, ◌&&◌, List, [], ◌∷◌, length, get_or, drop, ap, ◌∙◌, sym, drop-cons, add-one, suc}
use Rattle.std.proofs.lemmas.List.{drop_all}
use Rattle.al_typed.specs.declared.expression.TExpr.{TExpr}
use Rattle.al_typed.specs.declared.expression.PrintPiece.{PrintPiece}
use Rattle.al_typed.specs.Typed.{type_of}
use Rattle.al_operands.specs.Rules.{takes_none, is_printed, printed_by, rule_36_prints}

-- the pieces from a place on
pub pieces_here : (ps : List PrintPiece) (i : ℕ) (p : PrintPiece) → i < length ps → p ≡ get_or ps i p → drop i ps ≡ p ∷ drop (i + 1) ps
pieces_here ps i p h e = rw (add-one) (drop-cons ps i p h ∙ ap (λ q. q ∷ drop (suc i) ps) (sym e))

pub no_pieces : (ps : List PrintPiece) (i : ℕ) → length ps ≤ i → drop i ps ≡ []
no_pieces ps i h = drop_all i ps h

pub prints_free : (p : PrintPiece) (ps : List PrintPiece) (es : List TExpr) → takes_none p ≡ true → rule_36_prints (p ∷ ps) es ≡ rule_36_prints ps es
prints_free p ps [] h = ap (λ b. b && rule_36_prints ps []) h
prints_free p ps (e ∷ es) h = ap (λ b. printed_by b (is_printed p (type_of e)) (rule_36_prints ps (e ∷ es)) (rule_36_prints ps es)) h

pub prints_lack : (p : PrintPiece) (ps : List PrintPiece) → takes_none p ≡ false → rule_36_prints (p ∷ ps) [] ≡ false
prints_lack p ps h = ap (λ b. b && rule_36_prints ps []) h

pub prints_take : (p : PrintPiece) (ps : List PrintPiece) (e : TExpr) (es : List TExpr) → takes_none p ≡ false → rule_36_prints (p ∷ ps) (e ∷ es) ≡ (is_printed p (type_of e) && rule_36_prints ps es)
prints_take p ps e es h = ap (λ b. printed_by b (is_printed p (type_of e)) (rule_36_prints ps (e ∷ es)) (rule_36_prints ps es)) h

pub ruleset prints_are = (pieces_here, no_pieces, prints_free, prints_lack, prints_take)
