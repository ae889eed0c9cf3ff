-- The next token, or the fault before it, is one.
use Rattle.std.proofs.Common.{◌≡◌, ℕ, ◌+◌, Bool, true, not, List, [], ◌∷◌, ◌++◌, length, Result, Ok, Err, IfOk, IfErr, refl, sym, ap, ap₂, ◌∙◌, subst, arith, append_assoc}
use Rattle.std.proofs.lemmas.List.{append-nil}
use Rattle.std.specs.List.{list_all}
use Rattle.al_lex.specs.declared.kind.TokenKind.{TokenKind}
use Rattle.al_lex.specs.declared.kind.PieceKind.{PieceKind}
use Rattle.al_lex.specs.declared.kind.PieceKind.TheVariants as p
use Rattle.al_lex.specs.declared.fault.LexReason.{LexReason}
use Rattle.al_lex.specs.declared.fault.LexFault.{LexFault}
use Rattle.al_lex.specs.declared.token.Token.{Token}
use Rattle.al_lex.specs.Cut.{IsNext, IsFault, Piece, Pieces, none, next, joined, is_fresh, Stuck}
use Rattle.al_lex.specs.Written.{IsTokenHere, ends, token, IsNextToken, IsNextFault, is_token, token_at, end_token}
use Rattle.al_lex.proofs.Runs.{both}
use Rattle.al_lex.proofs.Tables.{not_both}
use Rattle.al_lex.proofs.Scanned.{fault_is, same_flaw, no_fault_of_nothing}
use Rattle.al_lex.proofs.Laws.{one_next, some_left}
use Rattle.al_lex.proofs.Gone.{joined_more, pieces_more}

-- at the end of a text, at a token and at a fault a gap goes no further
data Stops (before after : List ℕ) : Type 0 where
  at_end : after ≡ [] → Stops before after
  at_token : (kind : TokenKind) (u rest : List ℕ) → after ≡ u ++ rest → IsNext (is_fresh before) (p.Token kind) u rest → Stops before after
  at_fault : (reason : LexReason) (offset : ℕ) → IsFault (is_fresh before) after reason offset → Stops before after

stops_no_piece : (before after u rest : List ℕ) (kind : PieceKind) → Stops before after → after ≡ u ++ rest → IsNext (is_fresh before) kind u rest → not (is_token kind) ≡ true → ⊥
stops_no_piece before after u rest kind (at_end e) cut d f = some_left u rest d (sym e ∙ cut)
stops_no_piece before after u rest kind (at_token k v left e n) cut d f =
    let s = one_next v u left rest n d (sym e ∙ cut) in
    not_both (not (is_token kind)) f (ap (λ x. not (is_token x)) (sym s.kinds))
stops_no_piece before after u rest kind (at_fault reason offset x) cut d f = d.faultless reason offset (subst (λ (l : List ℕ). IsFault (is_fresh before) l reason offset) cut x)

record SameGap (gap other : List Piece) (after left : List ℕ) : Type 0 where
  gaps : gap ≡ other
  lefts : after ≡ left

abbrev no_token : Piece → Bool
no_token x = not (is_token x.0)

same_gap : {before : List ℕ} {gap other : List Piece} {after left : List ℕ} → Pieces before gap after → Pieces before other left → joined gap ++ after ≡ joined other ++ left → list_all no_token gap ≡ true → list_all no_token other ≡ true
    → Stops (before ++ joined gap) after → Stops (before ++ joined other) left → SameGap gap other after left
same_gap none none e f g s t = record { gaps = refl; lefts = e }
same_gap (none {before = before} {rest = after}) (next {u = u} {rest = left} {kind = kind} {more = more} d m) e f g s t =
    absurd (stops_no_piece before after u (joined more ++ left) kind (subst (λ (l : List ℕ). Stops l after) (append-nil before) s) (e ∙ append_assoc u (joined more) left) d (both (not (is_token kind)) (list_all no_token more) g).0)
same_gap (next {before = before} {u = u} {rest = after} {kind = kind} {more = more} d m) (none {rest = left}) e f g s t =
    absurd (stops_no_piece before left u (joined more ++ after) kind (subst (λ (l : List ℕ). Stops l left) (append-nil before) t) (sym e ∙ append_assoc u (joined more) after) d (both (not (is_token kind)) (list_all no_token more) f).0)
same_gap {before} (next {u = u} {rest = after} {kind = kind} {more = ps} d m) (next {u = v} {rest = left} {kind = other} {more = qs} d2 m2) e f g s t =
    let same = one_next u v (joined ps ++ after) (joined qs ++ left) d d2 (sym (append_assoc u (joined ps) after) ∙ e ∙ append_assoc v (joined qs) left) in
    let m3 = subst (λ (w : List ℕ). Pieces (before ++ w) qs left) (sym same.bytes) m2 in
    let s2 = subst (λ (l : List ℕ). Stops l after) (sym (append_assoc before u (joined ps))) s in
    let t2 = subst (λ (l : List ℕ). Stops l left) (sym (append_assoc before v (joined qs)) ∙ ap (λ w. (before ++ w) ++ joined qs) (sym same.bytes)) t in
    let r = same_gap m m3 same.rests (both (not (is_token kind)) (list_all no_token ps) f).1 (both (not (is_token other)) (list_all no_token qs) g).1 s2 t2 in
    record { gaps = ap₂ (λ x l. x ∷ l) (ap₂ (λ a b. (a, b)) same.kinds same.bytes) r.gaps; lefts = r.lefts }

-- ---- the token, or the fault

token_stops : {before after : List ℕ} {t : Token} → IsTokenHere before after t → Stops before after
token_stops ends = at_end refl
token_stops (token {kind = kind} {u = u} {rest = rest} d) = at_token kind u rest refl d

-- what a token at the front is
data HereIs (before after : List ℕ) (t : Token) : Type 0 where
  end_here : after ≡ [] → t ≡ end_token before → HereIs before after t
  token_here : (kind : TokenKind) (u rest : List ℕ) → after ≡ u ++ rest → IsNext (is_fresh before) (p.Token kind) u rest → t ≡ token_at before kind u 0 → HereIs before after t

here_is : {before after : List ℕ} {t : Token} → IsTokenHere before after t → HereIs before after t
here_is ends = end_here refl refl
here_is (token {kind = kind} {u = u} {rest = rest} d) = token_here kind u rest refl d refl

one_here : (before after : List ℕ) (t x : Token) → HereIs before after t → HereIs before after x → t ≡ x
one_here before after t x (end_here e f) (end_here g h) = f ∙ sym h
one_here before after t x (end_here e f) (token_here kind u rest cut d h) = absurd (some_left u rest d (sym e ∙ cut))
one_here before after t x (token_here kind u rest cut d h) (end_here e f) = absurd (some_left u rest d (sym e ∙ cut))
one_here before after t x (token_here kind u rest cut d h) (token_here other v left cut2 d2 h2) =
    let s = one_next u v rest left d d2 (sym cut ∙ cut2) in
    let k : kind ≡ other = same_token kind other s.kinds in
    h ∙ ap₂ (λ a b. token_at before a b 0) k s.bytes ∙ sym h2
  where
    same_token : (a b : TokenKind) → p.Token a ≡ p.Token b → a ≡ b
    same_token a b e = cc

pub one_token : {before rest : List ℕ} (t x : Token) → IsNextToken before rest t → IsNextToken before rest x → t ≡ x
one_token {before} t x a b =
    let s = same_gap a.reached.each b.reached.each (sym a.reached.covers ∙ b.reached.covers) a.reached.no_token b.reached.no_token (token_stops a.is) (token_stops b.is) in
    let there = subst (λ (l : List ℕ). IsTokenHere (before ++ joined a.gap) l x) (sym s.lefts) (subst (λ (g : List Piece). IsTokenHere (before ++ joined g) b.after x) (sym s.gaps) b.is) in
    one_here (before ++ joined a.gap) a.after t x (here_is a.is) (here_is there)

pub token_no_fault : {before rest : List ℕ} (t : Token) (f : LexFault) → IsNextToken before rest t → IsNextFault before rest f → ⊥
token_no_fault {before} t f a b =
    let s = same_gap a.reached.each b.reached.each (sym a.reached.covers ∙ b.reached.covers) a.reached.no_token b.reached.no_token (token_stops a.is) (at_fault f.reason b.offset b.is) in
    let there = subst (λ (l : List ℕ). IsFault (is_fresh (before ++ joined a.gap)) l f.reason b.offset) (sym s.lefts) (subst (λ (g : List Piece). IsFault (is_fresh (before ++ joined g)) b.after f.reason b.offset) (sym s.gaps) b.is) in
    apart (before ++ joined a.gap) a.after (here_is a.is) there
  where
    apart : (before after : List ℕ) → HereIs before after t → IsFault (is_fresh before) after f.reason b.offset → ⊥
    apart before after (end_here e h) x = no_fault_of_nothing (subst (λ (l : List ℕ). IsFault (is_fresh before) l f.reason b.offset) e x)
    apart before after (token_here kind u rest cut d h) x = d.faultless f.reason b.offset (subst (λ (l : List ℕ). IsFault (is_fresh before) l f.reason b.offset) cut x)

pub one_next_fault : {before rest : List ℕ} (f g : LexFault) → IsNextFault before rest f → IsNextFault before rest g → f ≡ g
one_next_fault {before} f g a b =
    let s = same_gap a.reached.each b.reached.each (sym a.reached.covers ∙ b.reached.covers) a.reached.no_token b.reached.no_token (at_fault f.reason a.offset a.is) (at_fault g.reason b.offset b.is) in
    let there = subst (λ (l : List ℕ). IsFault (is_fresh (before ++ joined a.gap)) l g.reason b.offset) (sym s.lefts) (subst (λ (x : List Piece). IsFault (is_fresh (before ++ joined x)) b.after g.reason b.offset) (sym s.gaps) b.is) in
    let q = same_flaw f.reason a.offset g.reason b.offset (sym (fault_is a.after a.is) ∙ fault_is a.after there) in
    let bytes : f.byte ≡ g.byte = omega (arith, a.byte_is, b.byte_is, q.1, ap (λ (x : List Piece). length (before ++ joined x)) s.gaps) in
    ap₂ (λ r n. let x : LexFault = record { reason = r; byte = n } in x) q.0 bytes

-- ---- the answers of `next`

pub only_token : {before rest : List ℕ} (r : Result Token LexFault) → IfOk r (λ t. IsNextToken before rest t) → IfErr r (λ f. IsNextFault before rest f) → (t : Token) → IsNextToken before rest t → r ≡ Ok t
only_token (Ok x) a b t n = ap Ok (one_token x t a n)
only_token (Err f) a b t n = absurd (token_no_fault t f n b)

pub only_fault : {before rest : List ℕ} (r : Result Token LexFault) → IfOk r (λ t. IsNextToken before rest t) → IfErr r (λ f. IsNextFault before rest f) → (f : LexFault) → IsNextFault before rest f → r ≡ Err f
only_fault (Ok x) a b f n = absurd (token_no_fault x f a n)
only_fault (Err g) a b f n = ap Err (one_next_fault g f b n)

-- where the text is cut so far, the text is stuck at the fault
pub fault_stuck : (text before rest : List ℕ) (pieces : List Piece) (f : LexFault) → text ≡ before ++ rest → before ≡ joined pieces → Pieces [] pieces rest → IsNextFault before rest f → Stuck text f.reason f.byte
fault_stuck text before rest pieces f whole cut m n =
    let all : before ++ joined n.gap ≡ joined (pieces ++ n.gap) = ap (λ l. l ++ joined n.gap) cut ∙ sym (joined_more pieces n.gap) in
    record {
      pieces = pieces ++ n.gap;
      rest = n.after;
      offset = n.offset;
      covers = whole ∙ ap (λ l. before ++ l) n.reached.covers ∙ sym (append_assoc before (joined n.gap) n.after) ∙ ap (λ l. l ++ n.after) all;
      each = pieces_more m n.reached.covers (subst (λ (l : List ℕ). Pieces l n.gap n.after) cut n.reached.each);
      fault = subst (λ (l : List ℕ). IsFault (is_fresh l) n.after f.reason n.offset) all n.is;
      byte_is = n.byte_is ∙ ap (λ l. length l + n.offset) all;
    }

pub answers_stuck : (text before rest : List ℕ) (r : Result Token LexFault) → text ≡ before ++ rest → IfErr r (λ f. IsNextFault before rest f) → (pieces : List Piece) → before ≡ joined pieces → Pieces [] pieces rest → IfErr r (λ f. Stuck text f.reason f.byte)
answers_stuck text before rest (Ok t) whole b pieces cut m = tt
answers_stuck text before rest (Err f) whole b pieces cut m = fault_stuck text before rest pieces f whole cut m b

pub ok_is : {before rest : List ℕ} (r : Result Token LexFault) → IfOk r (λ t. IsNextToken before rest t) → (t : Token) → r ≡ Ok t → IsNextToken before rest t
ok_is {before} {rest} r h t e = subst (λ (x : Result Token LexFault). IfOk x (λ t. IsNextToken before rest t)) e h

pub err_is : {before rest : List ℕ} (r : Result Token LexFault) → IfErr r (λ f. IsNextFault before rest f) → (f : LexFault) → r ≡ Err f → IsNextFault before rest f
err_is {before} {rest} r h f e = subst (λ (x : Result Token LexFault). IfErr x (λ f. IsNextFault before rest f)) e h
