-- A text is cut in one way or stuck in one way, and never both.
use Rattle.std.proofs.Common.{◌≡◌, ℕ, zero, suc, ◌+◌, ◌≤◌, Bool, List, [], ◌∷◌, ◌++◌, length, refl, sym, ap, ap₂, ◌∙◌, subst, arith, append_assoc, length-append}
use Rattle.std.proofs.lemmas.List.{append-nil}
use Rattle.al_lex.specs.declared.kind.PieceKind.{PieceKind}
use Rattle.al_lex.specs.declared.fault.LexReason.{LexReason}
use Rattle.al_lex.specs.Cut.{IsFault, IsNext, Piece, joined, Pieces, none, next, Cut, Stuck, is_fresh}
use Rattle.al_lex.specs.Scan.{Answer, scan}
use Rattle.al_lex.proofs.Tables.{split_same}
use Rattle.al_lex.proofs.Scanned.{IsRight, right_piece, right_fault, right, next_found, fault_is, same_found, same_flaw, some_byte, no_fault_of_nothing}

pub record SamePiece (kind other : PieceKind) (u v rest left : List ℕ) : Type 0 where
  pub kinds : kind ≡ other
  pub bytes : u ≡ v
  pub rests : rest ≡ left

pub one_next : {fresh : Bool} {kind other : PieceKind} (u v rest left : List ℕ) → IsNext fresh kind u rest → IsNext fresh other v left → u ++ rest ≡ v ++ left → SamePiece kind other u v rest left
one_next {fresh} {kind} {other} u v rest left d e cut =
    let q = same_found kind (length u) other (length v) (sym (next_found u rest d) ∙ ap (scan fresh) cut ∙ next_found v left e) in
    let w = split_same u v rest left q.1 cut in
    record { kinds = q.0; bytes = w.0; rests = w.1 }

-- nothing is the same text as a piece and more
pub some_left : {fresh : Bool} {kind : PieceKind} (u rest : List ℕ) → IsNext fresh kind u rest → [] ≡ u ++ rest → ⊥
some_left u rest d e = omega (arith, some_byte d.longest.is, ap length e, length-append u rest)

piece_bytes : (u : List ℕ) (more : List Piece) (rest : List ℕ) → (u ++ joined more) ++ rest ≡ u ++ (joined more ++ rest)
piece_bytes u more rest = append_assoc u (joined more) rest

same_pieces : {before : List ℕ} {ps qs : List Piece} → Pieces before ps [] → Pieces before qs [] → joined ps ++ [] ≡ joined qs ++ [] → ps ≡ qs
same_pieces none none e = refl
same_pieces none (next {u = u} {more = more} d m) e = absurd (some_left u (joined more ++ []) d (e ∙ piece_bytes u more []))
same_pieces (next {u = u} {more = more} d m) none e = absurd (some_left u (joined more ++ []) d (sym e ∙ piece_bytes u more []))
same_pieces {before} (next {u = u} {kind = kind} {more = ps} d m) (next {u = v} {kind = other} {more = qs} d2 m2) e =
    let s = one_next u v (joined ps ++ []) (joined qs ++ []) d d2 (sym (piece_bytes u ps []) ∙ e ∙ piece_bytes v qs []) in
    let m3 = subst (λ (w : List ℕ). Pieces (before ++ w) qs []) (sym s.bytes) m2 in
    ap₂ (λ x l. x ∷ l) (ap₂ (λ a b. (a, b)) s.kinds s.bytes) (same_pieces m m3 s.rests)

pub one_cutting : (text : List ℕ) (ps qs : List Piece) → Cut text ps → Cut text qs → ps ≡ qs
one_cutting text ps qs c d = same_pieces c.each d.each (append-nil (joined ps) ∙ sym c.covers ∙ d.covers ∙ sym (append-nil (joined qs)))

-- a cutting to the end meets no fault
no_fault : {before : List ℕ} {ps qs : List Piece} {rest : List ℕ} {reason : LexReason} {offset : ℕ} → Pieces before ps [] → Pieces before qs rest → joined ps ++ [] ≡ joined qs ++ rest → IsFault (is_fresh (before ++ joined qs)) rest reason offset → ⊥
no_fault {reason = reason} {offset = offset} none (none {before = before} {rest = rest}) e f = no_fault_of_nothing (subst (λ (l : List ℕ). IsFault (is_fresh (before ++ [])) l reason offset) (sym e) f)
no_fault {reason = reason} {offset = offset} none (next {u = u} {rest = rest} {more = more} d m) e f = some_left u (joined more ++ rest) d (e ∙ piece_bytes u more rest)
no_fault {reason = reason} {offset = offset} (next {before = before} {u = u} {more = more} d m) (none {rest = rest}) e f =
    d.faultless reason offset (subst (λ (l : List ℕ). IsFault (is_fresh before) l reason offset) (sym e ∙ piece_bytes u more []) (subst (λ (l : List ℕ). IsFault (is_fresh l) rest reason offset) (append-nil before) f))
no_fault {before} {reason = reason} {offset = offset} (next {u = u} {more = ps} d m) (next {u = v} {rest = rest} {more = qs} d2 m2) e f =
    let s = one_next u v (joined ps ++ []) (joined qs ++ rest) d d2 (sym (piece_bytes u ps []) ∙ e ∙ piece_bytes v qs rest) in
    let m3 = subst (λ (w : List ℕ). Pieces (before ++ w) qs rest) (sym s.bytes) m2 in
    no_fault m m3 s.rests (subst (λ (l : List ℕ). IsFault (is_fresh l) rest reason offset) (sym (append_assoc before v (joined qs)) ∙ ap (λ w. (before ++ w) ++ joined qs) (sym s.bytes)) f)

pub never_both : (text : List ℕ) (pieces : List Piece) (reason : LexReason) (byte : ℕ) → Cut text pieces → Stuck text reason byte → ⊥
never_both text pieces reason byte c s = no_fault c.each s.each (append-nil (joined pieces) ∙ sym c.covers ∙ s.covers) s.fault

pub record SameFault (reason other : LexReason) (i j : ℕ) : Type 0 where
  pub reasons : reason ≡ other
  pub bytes : i ≡ j

-- two ways to the first fault are one
same_fault : {before : List ℕ} {ps qs : List Piece} {rest left : List ℕ} {reason other : LexReason} {i j : ℕ} → Pieces before ps rest → Pieces before qs left → joined ps ++ rest ≡ joined qs ++ left
    → IsFault (is_fresh (before ++ joined ps)) rest reason i → IsFault (is_fresh (before ++ joined qs)) left other j → SameFault reason other (length (joined ps) + i) (length (joined qs) + j)
same_fault {reason = reason} {other = other} {i = i} {j = j} (none {before = before} {rest = rest}) (none {rest = left}) e f g =
    let h = sym (fault_is rest f) ∙ ap (scan (is_fresh (before ++ []))) e ∙ fault_is left g in
    let q = same_flaw reason i other j h in
    record { reasons = q.0; bytes = ap (λ n. 0 + n) q.1 }
same_fault {reason = reason} {i = i} (none {before = before} {rest = rest}) (next {u = u} {rest = left} {more = more} d m) e f g =
    absurd (d.faultless reason i (subst (λ (l : List ℕ). IsFault (is_fresh before) l reason i) (e ∙ piece_bytes u more left) (subst (λ (l : List ℕ). IsFault (is_fresh l) rest reason i) (append-nil before) f)))
same_fault {other = other} {j = j} (next {before = before} {u = u} {rest = rest} {more = more} d m) (none {rest = left}) e f g =
    absurd (d.faultless other j (subst (λ (l : List ℕ). IsFault (is_fresh before) l other j) (sym e ∙ piece_bytes u more rest) (subst (λ (l : List ℕ). IsFault (is_fresh l) left other j) (append-nil before) g)))
same_fault {before} {reason = reason} {other = other} {i = i} {j = j} (next {u = u} {rest = rest} {more = ps} d m) (next {u = v} {rest = left} {more = qs} d2 m2) e f g =
    let s = one_next u v (joined ps ++ rest) (joined qs ++ left) d d2 (sym (piece_bytes u ps rest) ∙ e ∙ piece_bytes v qs left) in
    let m3 = subst (λ (w : List ℕ). Pieces (before ++ w) qs left) (sym s.bytes) m2 in
    let f2 = subst (λ (l : List ℕ). IsFault (is_fresh l) rest reason i) (sym (append_assoc before u (joined ps))) f in
    let g2 = subst (λ (l : List ℕ). IsFault (is_fresh l) left other j) (sym (append_assoc before v (joined qs)) ∙ ap (λ w. (before ++ w) ++ joined qs) (sym s.bytes)) g in
    let t = same_fault m m3 s.rests f2 g2 in
    record { reasons = t.reasons; bytes = omega (arith, t.bytes, length-append u (joined ps), length-append v (joined qs), ap length s.bytes) }

pub one_fault : (text : List ℕ) (reason other : LexReason) (i j : ℕ) → Stuck text reason i → Stuck text other j → SameFault reason other i j
one_fault text reason other i j s t =
    let q = same_fault s.each t.each (sym s.covers ∙ t.covers) s.fault t.fault in
    record { reasons = q.reasons; bytes = s.byte_is ∙ q.bytes ∙ sym t.byte_is }

-- ---- each text is cut or stuck

-- from here on
pub data Ends (before text : List ℕ) : Type 0 where
  cut : (ps : List Piece) → text ≡ joined ps → Pieces before ps [] → Ends before text
  stuck : (ps : List Piece) (rest : List ℕ) (reason : LexReason) (offset : ℕ) → text ≡ joined ps ++ rest → Pieces before ps rest → IsFault (is_fresh (before ++ joined ps)) rest reason offset → Ends before text

one_more : (before u : List ℕ) (kind : PieceKind) (rest : List ℕ) → IsNext (is_fresh before) kind u rest → Ends (before ++ u) rest → Ends before (u ++ rest)
one_more before u kind rest d (cut ps e m) = cut ((kind, u) ∷ ps) (ap (λ l. u ++ l) e) (next (subst (IsNext (is_fresh before) kind u) (e ∙ sym (append-nil (joined ps))) d) m)
one_more before u kind rest d (stuck ps left reason offset e m f) =
    stuck ((kind, u) ∷ ps) left reason offset (ap (λ l. u ++ l) e ∙ sym (append_assoc u (joined ps) left)) (next (subst (IsNext (is_fresh before) kind u) e d) m)
    (subst (λ (l : List ℕ). IsFault (is_fresh l) left reason offset) (append_assoc before u (joined ps)) f)

ends : (fuel : ℕ) (before text : List ℕ) → length text ≤ fuel → Ends before text
ends fuel before [] l = cut [] refl none
ends zero before (b ∷ bs) l = absurd (omega arith)
ends (suc n) before (b ∷ bs) l = go (scan (is_fresh before) (b ∷ bs)) (right (is_fresh before) b bs) (ends n)
  where
    go : (a : Answer) → IsRight (is_fresh before) (b ∷ bs) a → ((before text : List ℕ) → length text ≤ n → Ends before text) → Ends before (b ∷ bs)
    go a (right_fault reason offset f) rec = stuck [] (b ∷ bs) reason offset refl none (subst (λ (l : List ℕ). IsFault (is_fresh l) (b ∷ bs) reason offset) (sym (append-nil before)) f)
    go a (right_piece kind m u rest e len d) rec =
        subst (Ends before) (sym e) (one_more before u kind rest d (rec (before ++ u) rest (omega (arith, some_byte d.longest.is, ap length e, length-append u rest))))

-- the whole text is cut into some pieces, or it is stuck somewhere
pub data CutOrStuck (text : List ℕ) : Type 0 where
  is_cut : (pieces : List Piece) → Cut text pieces → CutOrStuck text
  is_stuck : (reason : LexReason) (byte : ℕ) → Stuck text reason byte → CutOrStuck text

pub cut_or_stuck : (text : List ℕ) → CutOrStuck text
cut_or_stuck text = go (ends (length text) [] text (omega arith))
  where
    go : Ends [] text → CutOrStuck text
    go (cut ps e m) = is_cut ps (record { covers = e; each = m })
    go (stuck ps rest reason offset e m f) = is_stuck reason (length (joined ps) + offset) (record { pieces = ps; rest = rest; offset = offset; covers = e; each = m; fault = f; byte_is = refl })
