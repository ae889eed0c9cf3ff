-- From piece to piece: what stands before the next token.
use Rattle.std.proofs.Common.{◌≡◌, ℕ, ◌+◌, ◌-◌, ◌≤◌, true, false, not, ◌&&◌, List, [], ◌∷◌, ◌++◌, length, take, drop, slice_range, refl, sym, ap, ap₂, ◌∙◌, subst, arith, append_assoc, length-take-le, length-drop}
use Rattle.std.proofs.lemmas.List.{append-nil, take-append-drop, drop-drop, drop_all}
use Rattle.std.proofs.lemmas.List.Folds.{list_all-append}
use Rattle.al_base.specs.declared.place.Place.{Place}
use Rattle.al_lex.specs.declared.kind.TokenKind.{TokenKind}
use Rattle.al_lex.specs.declared.kind.TokenKind.TheVariants as k
use Rattle.al_lex.specs.declared.kind.PieceKind.{PieceKind}
use Rattle.al_lex.specs.declared.kind.PieceKind.TheVariants as p
use Rattle.al_lex.specs.declared.fault.LexFault.{LexFault}
use Rattle.al_lex.specs.declared.token.Token.{Token}
use Rattle.al_lex.specs.declared.position.Position.{Position}
use Rattle.al_lex.specs.Cut.{IsNext, IsFault, Piece, Pieces, none, next, joined, is_fresh}
use Rattle.al_lex.specs.Position.{IsAt, IsPieceTo, IsFaultFrom}
use Rattle.al_lex.specs.Written.{IsGapTo, IsTokenHere, ends, token, IsNextToken, IsNextFault, is_token, token_at, end_token}
use Rattle.al_lex.proofs.Positions.{take_more_bytes}

pub joined_more : (ps qs : List Piece) → joined (ps ++ qs) ≡ joined ps ++ joined qs
joined_more [] qs = refl
joined_more (x ∷ ps) qs = ap (λ l. x.1 ++ l) (joined_more ps qs) ∙ sym (append_assoc x.1 (joined ps) (joined qs))

-- a cutting goes on where another ends
pub pieces_more : {before : List ℕ} {ps qs : List Piece} {all rest : List ℕ} → Pieces before ps all → all ≡ joined qs ++ rest → Pieces (before ++ joined ps) qs rest → Pieces before (ps ++ qs) rest
pieces_more {qs = qs} {rest = rest} (none {before = before}) e m = subst (λ (l : List ℕ). Pieces l qs rest) (append-nil before) m
pieces_more {qs = qs} {rest = rest} (next {before = before} {u = u} {kind = kind} {more = more} d n) e m =
    let is = ap (λ l. joined more ++ l) e ∙ sym (append_assoc (joined more) (joined qs) rest) ∙ ap (λ l. l ++ rest) (sym (joined_more more qs)) in
    next (subst (IsNext (is_fresh before) kind u) is d) (pieces_more n e (subst (λ (l : List ℕ). Pieces l qs rest) (sym (append_assoc before u (joined more))) m))

-- with one piece more
pub one_piece_more : {before : List ℕ} {ps : List Piece} {kind : PieceKind} (u rest : List ℕ) → Pieces before ps (u ++ rest) → IsNext (is_fresh (before ++ joined ps)) kind u rest → Pieces before (ps ++ (kind, u) ∷ []) rest
one_piece_more {before} {ps} {kind} u rest m d = pieces_more m (ap (λ l. l ++ rest) (sym (append-nil u))) (next d none)

pub no_token_kind : (kind : PieceKind) → ((t : TokenKind) → kind ≡ p.Token t → ⊥) → is_token kind ≡ false
no_token_kind p.Blank h = refl
no_token_kind p.Comment h = refl
no_token_kind p.Skipped h = refl
no_token_kind (p.Token t) h = absurd (h t refl)

-- ---- the part of a text between two positions

pub range_cut : (text : List ℕ) (i j : ℕ) → i ≤ j → slice_range text i j ++ drop j text ≡ drop i text
range_cut text i j h =
    let e : drop j text ≡ drop (j - i) (drop i text) = ap (λ n. drop n text) (let s : j ≡ i + (j - i) = omega arith in s) ∙ sym (drop-drop (j - i) i text) in
    ap (λ l. slice_range text i j ++ l) e ∙ take-append-drop (j - i) (drop i text)

pub range_before : (text : List ℕ) (i j : ℕ) → i ≤ j → take i text ++ slice_range text i j ≡ take j text
range_before text i j h = take_more_bytes i (j - i) text ∙ ap (λ n. take n text) (let s : i + (j - i) ≡ j = omega arith in s)

pub range_len : (text : List ℕ) (i j : ℕ) → i ≤ j → j ≤ length text → i + length (slice_range text i j) ≡ j
range_len text i j h w = omega (arith, length-take-le (j - i) (drop i text) (omega (arith, length-drop i text)))

-- ---- up to here stand pieces that are no tokens

pub record Gone (text : List ℕ) (from : ℕ) (here : Position) : Type 0 where
  pub gap : List Piece
  pub reached : IsGapTo (take from text) (drop from text) gap (drop here.at text)
  pub before : take here.at text ≡ take from text ++ joined gap
  pub at : IsAt (take here.at text) here
  pub within : here.at ≤ length text

pub gone_none : (text : List ℕ) (here : Position) (from : ℕ) → here.at ≡ from → from ≤ length text → IsAt (take from text) here → Gone text from here
gone_none text here from e w h = record {
  gap = [];
  reached = record { covers = ap (λ n. drop n text) (sym e); each = none; no_token = refl };
  before = ap (λ n. take n text) e ∙ sym (append-nil (take from text));
  at = subst (λ (n : ℕ). IsAt (take n text) here) (sym e) h;
  within = omega (arith, e);
}

-- the piece, with what stands before it
next_here : (text : List ℕ) (from : ℕ) (here : Position) (kind : PieceKind) (to : ℕ) → (g : Gone text from here) → IsPieceTo text here.at kind to → IsNext (is_fresh (take from text ++ joined g.gap)) kind (slice_range text here.at to) (drop to text)
next_here text from here kind to g d = subst (λ (l : List ℕ). IsNext (is_fresh l) kind (slice_range text here.at to) (drop to text)) g.before d.is

pub gone_more : (text : List ℕ) (from : ℕ) (here there : Position) (kind : PieceKind) → Gone text from here → IsPieceTo text here.at kind there.at → IsAt (take there.at text) there → is_token kind ≡ false → Gone text from there
gone_more text from here there kind g d h f =
    let u = slice_range text here.at there.at in
    let le : here.at ≤ there.at = omega (arith, d.ordered) in
    let cut = range_cut text here.at there.at le in
    let end : joined (g.gap ++ (kind, u) ∷ []) ≡ joined g.gap ++ u = joined_more g.gap ((kind, u) ∷ []) ∙ ap (λ l. joined g.gap ++ l) (append-nil u) in
    record {
      gap = g.gap ++ (kind, u) ∷ [];
      reached = record {
        covers = g.reached.covers ∙ ap (λ l. joined g.gap ++ l) (sym cut) ∙ sym (append_assoc (joined g.gap) u (drop there.at text)) ∙ ap (λ l. l ++ drop there.at text) (sym end);
        each = one_piece_more u (drop there.at text) (subst (Pieces (take from text) g.gap) (sym cut) g.reached.each) (next_here text from here kind there.at g d);
        no_token = list_all-append (λ (x : Piece). not (is_token x.0)) g.gap ((kind, u) ∷ []) ∙ ap₂ (λ a b. a && (not b && true)) g.reached.no_token f;
      };
      before = sym (range_before text here.at there.at le) ∙ ap (λ l. l ++ u) g.before ∙ append_assoc (take from text) (joined g.gap) u ∙ ap (λ l. take from text ++ l) (sym end);
      at = h;
      within = d.within;
    }

-- the token of these bytes, as it is made
pub made_token : (text : List ℕ) (here : Position) (kind : TokenKind) (name to : ℕ) → here.at ≤ to → to ≤ length text → IsAt (take here.at text) here
    → ◌≡◌ {A = Token} (record { kind = kind; name = name; from = here.at; to = to; place = here.place }) (token_at (take here.at text) kind (slice_range text here.at to) name)
made_token text here kind name to le w h =
    let make : ℕ → ℕ → Place → Token = λ a b pl. record { kind = kind; name = name; from = a; to = b; place = pl } in
    let end : to ≡ length (take here.at text) + length (slice_range text here.at to) = sym (range_len text here.at to le w) ∙ ap (λ n. n + length (slice_range text here.at to)) h.at in
    ap₂ (λ a b. make a b here.place) h.at end ∙ ap (λ pl. make (length (take here.at text)) (length (take here.at text) + length (slice_range text here.at to)) pl) h.place

pub gone_token : (text : List ℕ) (from : ℕ) (here : Position) (kind : TokenKind) (to : ℕ) → Gone text from here → IsPieceTo text here.at (p.Token kind) to → IsNextToken (take from text) (drop from text) (record { kind = kind; name = 0; from = here.at; to = to; place = here.place })
gone_token text from here kind to g d =
    let u = slice_range text here.at to in
    let le : here.at ≤ to = omega (arith, d.ordered) in
    let before = take from text ++ joined g.gap in
    let made = made_token text here kind 0 to le d.within g.at ∙ ap (λ l. token_at l kind u 0) g.before in
    record {
      gap = g.gap;
      after = drop here.at text;
      reached = g.reached;
      is = subst (IsTokenHere before (drop here.at text)) (sym made) (subst (λ (l : List ℕ). IsTokenHere before l (token_at before kind u 0)) (range_cut text here.at to le) (token (next_here text from here (p.Token kind) to g d)));
    }

pub gone_end : (text : List ℕ) (from : ℕ) (here : Position) → Gone text from here → length text ≤ here.at → IsNextToken (take from text) (drop from text) (record { kind = k.End; name = 0; from = here.at; to = here.at; place = here.place })
gone_end text from here g past =
    let before = take from text ++ joined g.gap in
    let nothing : slice_range text here.at here.at ≡ [] = ap (λ n. take n (drop here.at text)) (let e : here.at - here.at ≡ 0 = omega arith in e) in
    let made = made_token text here k.End 0 here.at (omega arith) g.within g.at ∙ ap₂ (λ l u. token_at l k.End u 0) g.before nothing in
    record {
      gap = g.gap;
      after = drop here.at text;
      reached = g.reached;
      is = subst (IsTokenHere before (drop here.at text)) (sym made) (subst (λ (l : List ℕ). IsTokenHere before l (end_token before)) (sym (drop_all here.at text past)) ends);
    }

pub gone_fault : (text : List ℕ) (from : ℕ) (here : Position) (f : LexFault) → Gone text from here → IsFaultFrom text here.at f → IsNextFault (take from text) (drop from text) f
gone_fault text from here f g d = record {
  gap = g.gap;
  after = drop here.at text;
  offset = d.offset;
  reached = g.reached;
  is = subst (λ (l : List ℕ). IsFault (is_fresh l) (drop here.at text) f.reason d.offset) g.before d.is;
  byte_is = d.byte_is ∙ ap (λ n. n + d.offset) (g.at.at ∙ ap length g.before);
}
