-- The tokens of a cutting lie in the text, in order, and the last of them alone is the End token.
use Rattle.std.proofs.Common.{◌≡◌, ◌≢◌, ℕ, zero, suc, ◌+◌, ◌≤◌, ◌<◌, ◌^◌, Bool, true, false, not, List, [], ◌∷◌, ◌++◌, length, refl, sym, ap, ◌∙◌, subst, arith, length-append, All}
use Rattle.al_lex.specs.declared.kind.TokenKind.{TokenKind}
use Rattle.al_lex.specs.declared.kind.TokenKind.TheVariants as k
use Rattle.al_lex.specs.declared.kind.PieceKind.{PieceKind}
use Rattle.al_lex.specs.declared.kind.PieceKind.TheVariants as p
use Rattle.al_lex.specs.declared.token.Token.{Token}
use Rattle.al_lex.specs.Spelling.{Spelled}
use Rattle.al_lex.specs.Pieces.{IsToken, name, reserved_word, operator, number, character, string, IsPiece, token}
use Rattle.al_lex.specs.Cut.{IsNext, Piece, Pieces, none, next, joined, is_fresh}
use Rattle.al_lex.specs.Written.{end_token, tokens_from, first_seen, names_of, IsCutInto}
use Rattle.al_lex.specs.TokenList.{IsTokenList}
use Rattle.al_lex.proofs.Tables.{all_in}
use Rattle.al_lex.proofs.Scanned.{some_byte}

-- ---- no piece is an End token

is_end : TokenKind → Bool
is_end k.End = true
is_end _ = false

end_true : (kind : TokenKind) → kind ≡ k.End → is_end kind ≡ true
unfolding is_end
end_true kind e = ap is_end e

not_end : (kind : TokenKind) → not (is_end kind) ≡ true → kind ≢ k.End
not_end kind h e = let q : not true ≡ true = sym (ap not (end_true kind e)) ∙ h in let f : ⊥ = cc in f

no_end : {kind : TokenKind} {u : List ℕ} → IsToken kind u → kind ≢ k.End
unfolding is_end
no_end (name w other) = not_end k.Name refl
no_end (reserved_word {kind = kind} i) = not_end kind (all_in (λ (row : Spelled). not (is_end row.1)) i refl)
no_end (operator {kind = kind} i) = not_end kind (all_in (λ (row : Spelled). not (is_end row.1)) i refl)
no_end (number n) = not_end k.Number refl
no_end (character i) = not_end k.Char refl
no_end (string b) = not_end k.Text refl

no_end_piece : {fresh : Bool} {kind : TokenKind} {u rest : List ℕ} → IsPiece fresh (p.Token kind) u rest → kind ≢ k.End
no_end_piece (token d) = no_end d

-- ---- each token is a good one

record Good (text : List ℕ) (t : Token) : Type 0 where
  kind : t.kind ≢ k.End
  ordered : t.from ≤ t.to
  within : t.to ≤ length text

abbrev pub Each : (Token → Type 0) → List Token → Type 0
Each P [] = Unit {0}
Each P (t ∷ ts) = P t × Each P ts

pub all_of : (P : Token → Type 0) (ts : List Token) → Each P ts → All P ts
all_of P [] e i d l = absurd (omega arith)
all_of P (t ∷ ts) e zero d l = e.0
all_of P (t ∷ ts) e (suc i) d l = all_of P ts e.1 i d (omega arith)

each_map : (P Q : Token → Type 0) → ((t : Token) → P t → Q t) → (ts : List Token) → Each P ts → Each Q ts
each_map P Q f [] e = tt
each_map P Q f (t ∷ ts) e = (f t e.0, each_map P Q f ts e.1)

pub each_last : (P : Token → Type 0) (ts : List Token) (t : Token) → Each P ts → P t → Each P (ts ++ t ∷ [])
each_last P [] t e h = (h, tt)
each_last P (x ∷ ts) t e h = (e.0, each_last P ts t e.1 h)

good_piece : (text : List ℕ) (names : List (List ℕ)) (before u rest : List ℕ) (kind : PieceKind) (more : List Piece) → IsNext (is_fresh before) kind u rest → length before + length u ≤ length text → Each (Good text) (tokens_from names (before ++ u) more) → Each (Good text) (tokens_from names before ((kind, u) ∷ more))
good_piece text names before u rest p.Blank more d l e = e
good_piece text names before u rest p.Comment more d l e = e
good_piece text names before u rest p.Skipped more d l e = e
good_piece text names before u rest (p.Token kind) more d l e = (record { kind = no_end_piece d.longest.is; ordered = omega arith; within = l }, e)

good : (text : List ℕ) (names : List (List ℕ)) {before : List ℕ} {ps : List Piece} {rest : List ℕ} → Pieces before ps rest → length before + length (joined ps) ≤ length text → Each (Good text) (tokens_from names before ps)
good text names none l = tt
good text names (next {before = before} {u = u} {rest = rest} {kind = kind} {more = more} d m) l =
    good_piece text names before u (joined more ++ rest) kind more d (omega (arith, l, length-append u (joined more))) (good text names m (omega (arith, l, length-append u (joined more), length-append before u)))

-- ---- there are no more tokens than bytes, and the End token

few_piece : (names : List (List ℕ)) (before u rest : List ℕ) (kind : PieceKind) (more : List Piece) → IsNext (is_fresh before) kind u rest → length (tokens_from names (before ++ u) more) ≤ length (joined more) → length (tokens_from names before ((kind, u) ∷ more)) ≤ length (u ++ joined more)
few_piece names before u rest p.Blank more d l = omega (arith, l, length-append u (joined more))
few_piece names before u rest p.Comment more d l = omega (arith, l, length-append u (joined more))
few_piece names before u rest p.Skipped more d l = omega (arith, l, length-append u (joined more))
few_piece names before u rest (p.Token kind) more d l = omega (arith, l, some_byte d.longest.is, length-append u (joined more))

few : (names : List (List ℕ)) {before : List ℕ} {ps : List Piece} {rest : List ℕ} → Pieces before ps rest → length (tokens_from names before ps) ≤ length (joined ps)
few names none = omega arith
few names (next {before = before} {u = u} {rest = rest} {kind = kind} {more = more} d m) = few_piece names before u (joined more ++ rest) kind more d (few names m)

pub token_list : (text : List ℕ) (tokens : List Token) → IsCutInto text tokens → length text ≤ 2 ^ 20 → IsTokenList (record { list = tokens; text = text })
token_list text tokens d short =
    let front = tokens_from (first_seen (names_of d.pieces)) [] d.pieces in
    let last = end_token (joined d.pieces) in
    let len = ap length d.cut.covers in
    let each = good text (first_seen (names_of d.pieces)) d.cut.each (omega (arith, len)) in
    let ordered = each_last (λ t. t.from ≤ t.to) front last (each_map (Good text) (λ t. t.from ≤ t.to) (λ t g. g.ordered) front each) (omega arith) in
    let within = each_last (λ t. t.to ≤ length text) front last (each_map (Good text) (λ t. t.to ≤ length text) (λ t g. g.within) front each) (omega (arith, len)) in
    let count : length tokens ≤ length text + 1 = omega (arith, len, ap length d.is, length-append front (last ∷ []), few (first_seen (names_of d.pieces)) d.cut.each) in
    record {
      few = omega (arith, count, short);
      ended = record { front = front; last = last; is = d.is; last_is_end = refl; no_other = all_of (λ t. t.kind ≢ k.End) front (each_map (Good text) (λ t. t.kind ≢ k.End) (λ t g. g.kind) front each) };
      ordered = subst (All (λ (t : Token). t.from ≤ t.to)) (sym d.is) (all_of (λ t. t.from ≤ t.to) (front ++ last ∷ []) ordered);
      within = subst (All (λ (t : Token). t.to ≤ length text)) (sym d.is) (all_of (λ t. t.to ≤ length text) (front ++ last ∷ []) within);
    }
