-- What has been read of a text: its pieces up to here, their tokens and their names.
use Rattle.std.proofs.Common.{◌≡◌, ℕ, ◌+◌, ◌-◌, ◌≤◌, Bool, true, false, if◌then◌else◌, List, [], ◌∷◌, ◌++◌, length, take, drop, slice_range, refl, sym, ap, ap₂, ◌∙◌, subst, arith, append_assoc}
use Rattle.std.proofs.lemmas.List.{append-nil, drop_all, take_all, take-append-drop}
use Rattle.std.specs.List.{list_all, list_any}
use Rattle.al_lex.specs.declared.kind.TokenKind.{TokenKind}
use Rattle.al_lex.specs.declared.kind.TokenKind.TheVariants as k
use Rattle.al_lex.specs.declared.kind.PieceKind.{PieceKind}
use Rattle.al_lex.specs.declared.kind.PieceKind.TheVariants as p
use Rattle.al_lex.specs.declared.token.Token.{Token}
use Rattle.al_lex.specs.declared.fault.LexFault.{LexFault}
use Rattle.al_lex.specs.declared.position.Position.{Position}
use Rattle.al_lex.specs.Cut.{IsNext, IsFault, Piece, Pieces, none, joined, is_fresh, Cut, Stuck}
use Rattle.al_lex.specs.Position.{IsAt, IsPieceTo, IsFaultFrom}
use Rattle.al_lex.specs.Written.{same_bytes, noted, first_seen, is_name, is_name_piece, names_of, name_number, token_at, tokens_from, tokens_of, IsCutInto}
use Rattle.al_lex.proofs.Runs.{both, and_true, by_bool, choose_by, if_true, if_false}
use Rattle.al_lex.proofs.NameLemmas.{known_noted, noted_known, noted_len, first_seen_more}
use Rattle.al_lex.proofs.Gone.{joined_more, one_piece_more, range_cut, range_before, made_token}
use Rattle.al_lex.proofs.Laws.{one_cutting, never_both, one_fault}

-- the names, with those of one piece more
abbrev pub names_with : List (List ℕ) → PieceKind → List ℕ → List (List ℕ)
names_with names kind u = if is_name_piece kind then noted names u else names

-- each name of the pieces is among these
abbrev pub Known : List (List ℕ) → List Piece → Type 0
Known names ps = list_all (λ v. list_any (same_bytes v) names) (names_of ps) ≡ true

names_more : (ps : List Piece) (kind : PieceKind) (u : List ℕ) → names_of (ps ++ (kind, u) ∷ []) ≡ (if is_name_piece kind then names_of ps ++ u ∷ [] else names_of ps)
names_more [] kind u = refl
names_more (x ∷ ps) kind u =
    by_bool (is_name_piece x.0)
    (λ t. if_true (is_name_piece x.0) _ _ t ∙ ap (λ l. x.1 ∷ l) (names_more ps kind u) ∙ push (is_name_piece kind) (names_of ps) ∙ sym (ap (λ l. if is_name_piece kind then l ++ u ∷ [] else l) (if_true (is_name_piece x.0) (x.1 ∷ names_of ps) (names_of ps) t)))
    (λ f. if_false (is_name_piece x.0) _ _ f ∙ names_more ps kind u ∙ sym (ap (λ l. if is_name_piece kind then l ++ u ∷ [] else l) (if_false (is_name_piece x.0) (x.1 ∷ names_of ps) (names_of ps) f)))
  where
    push : (b : Bool) (l : List (List ℕ)) → x.1 ∷ (if b then l ++ u ∷ [] else l) ≡ (if b then (x.1 ∷ l) ++ u ∷ [] else x.1 ∷ l)
    push true l = refl
    push false l = refl

first_seen_with : (ps : List Piece) (kind : PieceKind) (u : List ℕ) → names_with (first_seen (names_of ps)) kind u ≡ first_seen (names_of (ps ++ (kind, u) ∷ []))
first_seen_with ps kind u =
    by_bool (is_name_piece kind)
    (λ t. if_true (is_name_piece kind) _ _ t ∙ sym (first_seen_more (names_of ps) u) ∙ sym (ap first_seen (names_more ps kind u ∙ if_true (is_name_piece kind) _ _ t)))
    (λ f. if_false (is_name_piece kind) _ _ f ∙ sym (ap first_seen (names_more ps kind u ∙ if_false (is_name_piece kind) _ _ f)))

all_known : (names : List (List ℕ)) (w : List ℕ) (vs : List (List ℕ)) → list_all (λ v. list_any (same_bytes v) names) vs ≡ true → list_all (λ v. list_any (same_bytes v) (noted names w)) vs ≡ true
all_known names w [] h = refl
all_known names w (v ∷ vs) h =
    let s = both (list_any (same_bytes v) names) (list_all (λ x. list_any (same_bytes x) names) vs) h in
    and_true (list_any (same_bytes v) (noted names w)) (list_all (λ x. list_any (same_bytes x) (noted names w)) vs) (known_noted names w v s.0).0 (all_known names w vs s.1)

all_last : (test : List ℕ → Bool) (vs : List (List ℕ)) (w : List ℕ) → list_all test vs ≡ true → test w ≡ true → list_all test (vs ++ w ∷ []) ≡ true
all_last test [] w h t = and_true (test w) true t refl
all_last test (v ∷ vs) w h t = let s = both (test v) (list_all test vs) h in and_true (test v) (list_all test (vs ++ w ∷ [])) s.0 (all_last test vs w s.1 t)

known_with : (names : List (List ℕ)) (ps : List Piece) (kind : PieceKind) (u : List ℕ) → Known names ps → Known (names_with names kind u) (ps ++ (kind, u) ∷ [])
known_with names ps kind u h =
    by_bool (is_name_piece kind)
    (λ t. ap₂ (λ (l vs : List (List ℕ)). list_all (λ v. list_any (same_bytes v) l) vs) (if_true (is_name_piece kind) _ _ t) (names_more ps kind u ∙ if_true (is_name_piece kind) _ _ t)
    ∙ all_last (λ v. list_any (same_bytes v) (noted names u)) (names_of ps) u (all_known names u (names_of ps) h) (noted_known names u))
    (λ f. ap₂ (λ (l vs : List (List ℕ)). list_all (λ v. list_any (same_bytes v) l) vs) (if_false (is_name_piece kind) _ _ f) (names_more ps kind u ∙ if_false (is_name_piece kind) _ _ f) ∙ h)

-- ---- the tokens of pieces keep their numbers

number_same : (names : List (List ℕ)) (w : List ℕ) (kind : TokenKind) (u : List ℕ) (ps : List Piece) → Known names ((p.Token kind, u) ∷ ps) → (name_number (noted names w) kind u ≡ name_number names kind u) × Known names ps
number_same names w kind u ps h =
    by_bool (is_name kind)
    (λ t.
    let all = sym (ap (list_all (λ v. list_any (same_bytes v) names)) (if_true (is_name kind) (u ∷ names_of ps) (names_of ps) t)) ∙ h in
    let s = both (list_any (same_bytes u) names) (list_all (λ v. list_any (same_bytes v) names) (names_of ps)) all in
    (if_true (is_name kind) _ _ t ∙ (known_noted names w u s.0).1 ∙ sym (if_true (is_name kind) _ _ t), s.1))
    (λ f. (if_false (is_name kind) _ _ f ∙ sym (if_false (is_name kind) _ _ f), sym (ap (list_all (λ v. list_any (same_bytes v) names)) (if_false (is_name kind) (u ∷ names_of ps) (names_of ps) f)) ∙ h))

tokens_noted : (names : List (List ℕ)) (w before : List ℕ) (ps : List Piece) → Known names ps → tokens_from (noted names w) before ps ≡ tokens_from names before ps
tokens_noted names w before [] h = refl
tokens_noted names w before ((p.Token kind, u) ∷ ps) h =
    let s = number_same names w kind u ps h in
    ap₂ (λ n l. token_at before kind u n ∷ l) s.0 (tokens_noted names w (before ++ u) ps s.1)
tokens_noted names w before ((p.Blank, u) ∷ ps) h = tokens_noted names w (before ++ u) ps h
tokens_noted names w before ((p.Comment, u) ∷ ps) h = tokens_noted names w (before ++ u) ps h
tokens_noted names w before ((p.Skipped, u) ∷ ps) h = tokens_noted names w (before ++ u) ps h

tokens_with : (names : List (List ℕ)) (kind : PieceKind) (u before : List ℕ) (ps : List Piece) → Known names ps → tokens_from (names_with names kind u) before ps ≡ tokens_from names before ps
tokens_with names kind u before ps h = choose_by (λ (l : List (List ℕ)). tokens_from l before ps ≡ tokens_from names before ps) (is_name_piece kind) (noted names u) names (λ _. tokens_noted names u before ps h) (λ _. refl)

tokens_more : (names : List (List ℕ)) (before : List ℕ) (ps qs : List Piece) → tokens_from names before (ps ++ qs) ≡ tokens_from names before ps ++ tokens_from names (before ++ joined ps) qs
tokens_more names before [] qs = ap (λ l. tokens_from names l qs) (sym (append-nil before))
tokens_more names before ((p.Token kind, u) ∷ ps) qs = ap (λ l. token_at before kind u (name_number names kind u) ∷ l) (tokens_more names (before ++ u) ps qs ∙ ap (λ l. tokens_from names (before ++ u) ps ++ tokens_from names l qs) (append_assoc before u (joined ps)))
tokens_more names before ((p.Blank, u) ∷ ps) qs = tokens_more names (before ++ u) ps qs ∙ ap (λ l. tokens_from names (before ++ u) ps ++ tokens_from names l qs) (append_assoc before u (joined ps))
tokens_more names before ((p.Comment, u) ∷ ps) qs = tokens_more names (before ++ u) ps qs ∙ ap (λ l. tokens_from names (before ++ u) ps ++ tokens_from names l qs) (append_assoc before u (joined ps))
tokens_more names before ((p.Skipped, u) ∷ ps) qs = tokens_more names (before ++ u) ps qs ∙ ap (λ l. tokens_from names (before ++ u) ps ++ tokens_from names l qs) (append_assoc before u (joined ps))

-- ---- the loop

pub record Read (text : List ℕ) (names : List (List ℕ)) (list : List Token) (here : Position) : Type 0 where
  pub pieces : List Piece
  pub each : Pieces [] pieces (drop here.at text)
  pub before : take here.at text ≡ joined pieces
  pub names_are : names ≡ first_seen (names_of pieces)
  pub known : Known names pieces
  pub list_is : list ≡ tokens_from names [] pieces
  pub few : length names ≤ here.at
  pub at : IsAt (take here.at text) here
  pub within : here.at ≤ length text

pub read_none : (text : List ℕ) (here : Position) → IsAt [] here → Read text [] [] here
read_none text here h =
    let none_before : take here.at text ≡ [] = ap (λ n. take n text) h.at in
    record {
      pieces = [];
      each = none;
      before = none_before;
      names_are = refl;
      known = refl;
      list_is = refl;
      few = omega arith;
      at = subst (λ (l : List ℕ). IsAt l here) (sym none_before) h;
      within = omega (arith, h.at);
    }

names_len : (names : List (List ℕ)) (kind : PieceKind) (u : List ℕ) → length (names_with names kind u) ≤ length names + 1
names_len names kind u = choose_by (λ (l : List (List ℕ)). length l ≤ length names + 1) (is_name_piece kind) (noted names u) names (λ _. noted_len names u) (λ _. omega arith)

pub read_more : (text : List ℕ) (names new : List (List ℕ)) (list longer : List Token) (here there : Position) (kind : PieceKind) → Read text names list here → IsPieceTo text here.at kind there.at → IsAt (take there.at text) there
    → new ≡ names_with names kind (slice_range text here.at there.at) → longer ≡ list ++ tokens_from new (take here.at text) ((kind, slice_range text here.at there.at) ∷ []) → Read text new longer there
read_more text names new list longer here there kind r d h is_new is_longer =
    let u = slice_range text here.at there.at in
    let ps = r.pieces in
    let le : here.at ≤ there.at = omega (arith, d.ordered) in
    let piece = subst (λ (l : List ℕ). IsNext (is_fresh l) kind u (drop there.at text)) r.before d.is in
    let start = ap (λ l. l ++ tokens_from new (take here.at text) ((kind, u) ∷ [])) (r.list_is ∙ sym (tokens_with names kind u [] ps r.known) ∙ ap (λ l. tokens_from l [] ps) (sym is_new)) in
    record {
      pieces = ps ++ (kind, u) ∷ [];
      each = one_piece_more u (drop there.at text) (subst (Pieces [] ps) (sym (range_cut text here.at there.at le)) r.each) piece;
      before = sym (range_before text here.at there.at le) ∙ ap (λ l. l ++ u) r.before ∙ ap (λ l. joined ps ++ l) (sym (append-nil u)) ∙ sym (joined_more ps ((kind, u) ∷ []));
      names_are = is_new ∙ ap (λ l. names_with l kind u) r.names_are ∙ first_seen_with ps kind u;
      known = subst (λ (l : List (List ℕ)). Known l (ps ++ (kind, u) ∷ [])) (sym is_new) (known_with names ps kind u r.known);
      list_is = is_longer ∙ start ∙ ap (λ l. tokens_from new [] ps ++ tokens_from new l ((kind, u) ∷ [])) r.before ∙ sym (tokens_more new [] ps ((kind, u) ∷ []));
      few = omega (arith, ap length is_new, names_len names kind u, r.few, d.ordered);
      at = h;
      within = d.within;
    }

-- the whole text is read
pub read_all : (text : List ℕ) (names : List (List ℕ)) (list : List Token) (here : Position) → Read text names list here → length text ≤ here.at → IsCutInto text (list ++ (record { kind = k.End; name = 0; from = here.at; to = here.at; place = here.place }) ∷ [])
read_all text names list here r past =
    let whole : text ≡ joined r.pieces = sym (take_all here.at text past) ∙ r.before in
    let nothing : slice_range text here.at here.at ≡ [] = ap (λ n. take n (drop here.at text)) (let e : here.at - here.at ≡ 0 = omega arith in e) in
    let made = made_token text here k.End 0 here.at (omega arith) r.within r.at ∙ ap₂ (λ l u. token_at l k.End u 0) r.before nothing in
    record {
      pieces = r.pieces;
      cut = record { covers = whole; each = subst (Pieces [] r.pieces) (drop_all here.at text past) r.each };
      is = ap₂ (λ l t. l ++ t ∷ []) (r.list_is ∙ ap (λ l. tokens_from l [] r.pieces) r.names_are) made;
    }

-- a fault here is that at which the text is stuck
pub read_fault : (text : List ℕ) (names : List (List ℕ)) (list : List Token) (here : Position) (f : LexFault) → Read text names list here → IsFaultFrom text here.at f → Stuck text f.reason f.byte
read_fault text names list here f r d = record {
  pieces = r.pieces;
  rest = drop here.at text;
  offset = d.offset;
  covers = sym (ap (λ l. l ++ drop here.at text) (sym r.before) ∙ take-append-drop here.at text);
  each = r.each;
  fault = subst (λ (l : List ℕ). IsFault (is_fresh l) (drop here.at text) f.reason d.offset) r.before d.is;
  byte_is = d.byte_is ∙ ap (λ n. n + d.offset) (r.at.at ∙ ap length r.before);
}

pub same_tokens : (text : List ℕ) (tokens : List Token) (pieces : List Piece) → IsCutInto text tokens → Cut text pieces → tokens ≡ tokens_of pieces
same_tokens text tokens pieces d c = d.is ∙ ap tokens_of (one_cutting text d.pieces pieces d.cut c)

pub cut_not_stuck : (text : List ℕ) (tokens : List Token) (f : LexFault) → IsCutInto text tokens → Stuck text f.reason f.byte → ⊥
cut_not_stuck text tokens f d s = never_both text d.pieces f.reason f.byte d.cut s

pub same_fault : (text : List ℕ) (f g : LexFault) → Stuck text f.reason f.byte → Stuck text g.reason g.byte → f ≡ g
same_fault text f g s t =
    let q = one_fault text f.reason g.reason f.byte g.byte s t in
    ap₂ (λ a b. let x : LexFault = record { reason = a; byte = b } in x) q.reasons q.bytes

pub stuck_not_cut : (text : List ℕ) (pieces : List Piece) (f : LexFault) → Cut text pieces → Stuck text f.reason f.byte → ⊥
stuck_not_cut text pieces f c s = never_both text pieces f.reason f.byte c s
