-- The tokens of a text stand for what is computed of their bytes.
use Rattle.std.proofs.Common.{◌≡◌, ◌≢◌, ℕ, zero, suc, ◌+◌, ◌-◌, ◌^◌, ◌<◌, ◌≤◌, nat_lt, Bool, true, false, not, List, [], ◌∷◌, ◌++◌, length, take, drop, slice_range, Some, refl, sym, ap, ap₂, ◌∙◌, subst, arith, append_assoc, length-append, All}
use Rattle.std.proofs.lemmas.Grind.{common_steps}
use Rattle.al_lex.specs.declared.kind.TokenKind.{TokenKind}
use Rattle.al_lex.specs.declared.kind.TokenKind.TheVariants as k
use Rattle.al_lex.specs.declared.kind.PieceKind.{PieceKind}
use Rattle.al_lex.specs.declared.kind.PieceKind.TheVariants as p
use Rattle.al_lex.specs.declared.fault.LexReason.TheVariants as r
use Rattle.al_lex.specs.declared.token.Token.{Token}
use Rattle.al_lex.specs.Bytes.{apostrophe}
use Rattle.al_lex.specs.Spelling.{Spelled}
use Rattle.al_lex.specs.Pieces.{IsNumber, IsToken, name, reserved_word, operator, number, character, string, IsPiece, token}
use Rattle.al_lex.specs.Cut.{IsNext, IsLongestNumber, of_piece, number_too_big, Piece, Pieces, none, next, joined, is_fresh}
use Rattle.al_lex.specs.Scan.{fitting}
use Rattle.al_lex.specs.TokenList.{bytes_of}
use Rattle.al_lex.specs.Values.{byte_of, text_of, IsNumberToken, IsConstant, IsString, HasValue}
use Rattle.al_lex.specs.Written.{token_at, end_token, tokens_from, first_seen, names_of, IsCutInto}
use Rattle.al_lex.proofs.Tables.{all_in}
use Rattle.al_lex.proofs.Numbers.{whole_value}
use Rattle.al_lex.proofs.Constants.{constant_is}
use Rattle.al_lex.proofs.Texts.{body_string}
use Rattle.al_lex.proofs.Whole.{Each, all_of, each_last}

-- ---- bytes of each kind

spelled : TokenKind → Bool
spelled k.Number = false
spelled k.Char = false
spelled k.Text = false
spelled _ = true

-- what the bytes of a token of that kind stand for
record Stands (kind : TokenKind) (u : List ℕ) : Type 0 where
  number_is : kind ≡ k.Number → IsNumberToken u
  constant_is : kind ≡ k.Char → IsConstant u (byte_of u)
  string_is : kind ≡ k.Text → IsString u (text_of u)

spelled_stands : (kind : TokenKind) (u : List ℕ) → spelled kind ≡ true → Stands kind u
unfolding spelled
spelled_stands kind u h = record {
  number_is = λ e. absurd (let f : true ≡ false = sym h ∙ ap spelled e in let x : ⊥ = cc in x);
  constant_is = λ e. absurd (let f : true ≡ false = sym h ∙ ap spelled e in let x : ⊥ = cc in x);
  string_is = λ e. absurd (let f : true ≡ false = sym h ∙ ap spelled e in let x : ⊥ = cc in x);
}

fits : (v : ℕ) → v < 2 ^ 64 → fitting v ≡ Some v
fits v h = grind (arith, common_steps)

token_stands : {kind : TokenKind} {u : List ℕ} → IsToken kind u → ((v : ℕ) → IsNumber u v → v < 2 ^ 64) → Stands kind u
unfolding spelled
token_stands {u = u} (name w other) small = spelled_stands k.Name u refl
token_stands (reserved_word {u = u} {kind = kind} i) small = spelled_stands kind u (all_in (λ (row : Spelled). spelled row.1) i refl)
token_stands (operator {u = u} {kind = kind} i) small = spelled_stands kind u (all_in (λ (row : Spelled). spelled row.1) i refl)
token_stands (number {u = u} {v = v} n) small = record {
  number_is = λ e. record { value = v; is = n; computed = ap fitting (whole_value u v n) ∙ fits v (small v n) };
  constant_is = λ e. absurd (let x : ⊥ = cc in x);
  string_is = λ e. absurd (let x : ⊥ = cc in x);
}
token_stands (character {u = u} {v = v} i) small =
    let c : IsConstant (apostrophe ∷ (u ++ apostrophe ∷ [])) v = record { inside = u; is = refl; item = i } in
    record {
      number_is = λ e. absurd (let x : ⊥ = cc in x);
      constant_is = λ e. subst (IsConstant (apostrophe ∷ (u ++ apostrophe ∷ []))) (sym (constant_is (apostrophe ∷ (u ++ apostrophe ∷ [])) v c)) c;
      string_is = λ e. absurd (let x : ⊥ = cc in x);
    }
token_stands (string {u = u} b) small = record {
  number_is = λ e. absurd (let x : ⊥ = cc in x);
  constant_is = λ e. absurd (let x : ⊥ = cc in x);
  string_is = λ e. body_string b;
}

-- a number that is the next piece is below 2^64
small_number : (fresh : Bool) (u rest : List ℕ) {kind : PieceKind} (v : ℕ) → IsNext fresh kind u rest → IsNumber u v → v < 2 ^ 64
small_number fresh u rest v d n = Rattle.std.proofs.Common.lt_of_not-le (λ (big : 2 ^ 64 ≤ v). d.faultless r.NumberTooBig 0 (of_piece (number_too_big longest big)))
  where
    longest : IsLongestNumber (u ++ rest) u v
    longest = record { rest = rest; cut = refl; is = n; longest = λ w s x e m. d.longest.longest (p.Token k.Number) w s e (token (number m)) }

piece_stands : (fresh : Bool) (u rest : List ℕ) {kind : TokenKind} → IsNext fresh (p.Token kind) u rest → Stands kind u
piece_stands fresh u rest {kind} d = go d.longest.is
  where
    go : IsPiece fresh (p.Token kind) u rest → Stands kind u
    go (token i) = token_stands i (λ v n. small_number fresh u rest v d n)

-- ---- the bytes of a token in the text

middle : (before u rest : List ℕ) → slice_range (before ++ (u ++ rest)) (length before) (length before + length u) ≡ u
middle before u rest =
    let n : (length before + length u) - length before ≡ length u = omega arith in
    ap (λ m. take m (drop (length before) (before ++ (u ++ rest)))) n ∙ ap (take (length u)) (back before (u ++ rest)) ∙ front u rest
  where
    front : (w rest : List ℕ) → take (length w) (w ++ rest) ≡ w
    front [] rest = refl
    front (b ∷ w) rest = ap (λ l. b ∷ l) (front w rest)

    back : (w rest : List ℕ) → drop (length w) (w ++ rest) ≡ rest
    back [] rest = refl
    back (b ∷ w) rest = back w rest

value_here : (text before u rest : List ℕ) (kind : TokenKind) (n : ℕ) → text ≡ before ++ (u ++ rest) → Stands kind u → HasValue text (token_at before kind u n)
value_here text before u rest kind n e s =
    let is : u ≡ bytes_of text (token_at before kind u n) = sym (ap (λ l. slice_range l (length before) (length before + length u)) e ∙ middle before u rest) in
    record {
      number = λ h. subst IsNumberToken is (s.number_is h);
      constant = λ h. subst (λ (l : List ℕ). IsConstant l (byte_of l)) is (s.constant_is h);
      string = λ h. subst (λ (l : List ℕ). IsString l (text_of l)) is (s.string_is h);
    }

value_piece : (text : List ℕ) (names : List (List ℕ)) (before u rest : List ℕ) (kind : PieceKind) (more : List Piece) → IsNext (is_fresh before) kind u rest → text ≡ before ++ (u ++ rest) → Each (HasValue text) (tokens_from names (before ++ u) more) → Each (HasValue text) (tokens_from names before ((kind, u) ∷ more))
value_piece text names before u rest p.Blank more d e m = m
value_piece text names before u rest p.Comment more d e m = m
value_piece text names before u rest p.Skipped more d e m = m
value_piece text names before u rest (p.Token kind) more d e m = (value_here text before u rest kind (Rattle.al_lex.specs.Written.name_number names kind u) e (piece_stands (is_fresh before) u rest d), m)

values : (text : List ℕ) (names : List (List ℕ)) {before : List ℕ} {ps : List Piece} {rest : List ℕ} → Pieces before ps rest → text ≡ before ++ (joined ps ++ rest) → Each (HasValue text) (tokens_from names before ps)
values text names none e = tt
values text names (next {before = before} {u = u} {rest = rest} {kind = kind} {more = more} d m) e =
    let cut : text ≡ before ++ (u ++ (joined more ++ rest)) = e ∙ ap (λ l. before ++ l) (append_assoc u (joined more) rest) in
    value_piece text names before u (joined more ++ rest) kind more d cut (values text names m (cut ∙ sym (append_assoc before u (joined more ++ rest))))

value_end : (text before : List ℕ) → HasValue text (end_token before)
value_end text before = record {
  number = λ e. absurd (let x : ⊥ = cc in x);
  constant = λ e. absurd (let x : ⊥ = cc in x);
  string = λ e. absurd (let x : ⊥ = cc in x);
}

pub token_values : (text : List ℕ) (tokens : List Token) → IsCutInto text tokens → All (HasValue text) tokens
token_values text tokens d =
    let front = tokens_from (first_seen (names_of d.pieces)) [] d.pieces in
    let each = values text (first_seen (names_of d.pieces)) d.cut.each (d.cut.covers ∙ sym (Rattle.std.proofs.lemmas.List.append-nil (joined d.pieces))) in
    subst (All (HasValue text)) (sym d.is) (all_of (HasValue text) (front ++ end_token (joined d.pieces) ∷ []) (each_last (HasValue text) front (end_token (joined d.pieces)) each (value_end text (joined d.pieces))))
