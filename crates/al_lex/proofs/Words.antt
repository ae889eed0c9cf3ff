-- Words, operators and numbers.
use Rattle.std.proofs.Common.{◌≡◌, ℕ, suc, Bool, true, List, ◌∷◌, ◌++◌, length, take, drop, Option, Some, None, unwrap_or, refl, sym, ap, ◌∙◌, subst, arith}
use Rattle.std.proofs.lemmas.List.{take_at}
use Rattle.std.specs.List.{list_all, prefix_len, take_while}
use Rattle.al_lex.specs.declared.kind.TokenKind.{TokenKind}
use Rattle.al_lex.specs.declared.kind.TokenKind.TheVariants as k
use Rattle.al_lex.specs.declared.kind.PieceKind.TheVariants as p
use Rattle.al_lex.specs.Bytes.{is_name_byte, is_letter}
use Rattle.al_lex.specs.Spelling.{Spelled, reserved, operators}
use Rattle.al_lex.specs.Pieces.{In, IsWord, word, IsToken, name, reserved_word, operator, token}
use Rattle.al_lex.specs.Scan.{Answer, look_up, scan_word, first_of, operator_found, scan_operator}
use Rattle.al_lex.proofs.Answers.{IsSound, piece, nothing, Covers, longer}
use Rattle.al_lex.proofs.Runs.{and_true, run_all, run_longer, run_within, cut_run}
use Rattle.al_lex.proofs.Tables.{look_up_in, look_up_is, first_longer, first_is_in, all_in}

-- ---- words

-- the bytes of a word all go on with a name
word_bytes : {u : List ℕ} → IsWord u → list_all is_name_byte u ≡ true
word_bytes (word b bs h e) = and_true (is_name_byte b) (list_all is_name_byte bs) (rw h refl) e

-- each reserved word is letters alone
letters_alone : {u : List ℕ} {kind : TokenKind} → In (u, kind) reserved → list_all is_name_byte u ≡ true
letters_alone i = all_in (λ (row : Spelled). list_all is_name_byte row.0) i refl

word_covers : (kind : TokenKind) (u r : List ℕ) → list_all is_name_byte u ≡ true → unwrap_or (look_up reserved u) k.Name ≡ kind → Covers (p.Token kind) u (scan_word (u ++ r))
word_covers kind u r h e =
    longer (p.Token (unwrap_or (look_up reserved (take (prefix_len is_name_byte (u ++ r)) (u ++ r))) k.Name)) (prefix_len is_name_byte (u ++ r)) (run_longer is_name_byte u r h)
    (λ l. ap p.Token (sym e ∙ ap (λ x. unwrap_or (look_up reserved x) k.Name) (sym (take_at u r (prefix_len is_name_byte (u ++ r)) l))))

pub reserved_covers : {u : List ℕ} {kind : TokenKind} → In (u, kind) reserved → (r : List ℕ) → Covers (p.Token kind) u (scan_word (u ++ r))
reserved_covers {u} {kind} i r = word_covers kind u r (letters_alone i) (ap (λ o. unwrap_or o k.Name) (look_up_in i refl))

no_row : (u : List ℕ) (o : Option TokenKind) → look_up reserved u ≡ o → ((kind : TokenKind) → ¬ In (u, kind) reserved) → unwrap_or o k.Name ≡ k.Name
no_row u None e h = refl
no_row u (Some kind) e h = absurd (h kind (look_up_is reserved u kind e))

pub name_covers : {u : List ℕ} → IsWord u → ((kind : TokenKind) → ¬ In (u, kind) reserved) → (r : List ℕ) → Covers (p.Token k.Name) u (scan_word (u ++ r))
name_covers {u} w h r = word_covers k.Name u r (word_bytes w) (no_row u (look_up reserved u) refl h)

word_token : (u : List ℕ) (o : Option TokenKind) → look_up reserved u ≡ o → IsWord u → IsToken (unwrap_or o k.Name) u
word_token u None e w = name w (λ kind i. let x : ◌≡◌ {A = Option TokenKind} (Some kind) None = sym (look_up_in i refl) ∙ e in let f : ⊥ = cc in f)
word_token u (Some kind) e w = reserved_word (look_up_is reserved u kind e)

first_word : (b : ℕ) (bs : List ℕ) → is_letter b ≡ true → IsWord (take_while is_name_byte (b ∷ bs))
first_word b bs h =
    let e : prefix_len is_name_byte (b ∷ bs) ≡ suc (prefix_len is_name_byte bs) = rw h (omega arith) in
    rw e (word b (take_while is_name_byte bs) h (run_all is_name_byte bs))

pub word_sound : (fresh : Bool) (b : ℕ) (bs : List ℕ) → is_letter b ≡ true → IsSound fresh (b ∷ bs) (scan_word (b ∷ bs))
word_sound fresh b bs h =
    let n = prefix_len is_name_byte (b ∷ bs) in
    let u = take_while is_name_byte (b ∷ bs) in
    piece (p.Token (unwrap_or (look_up reserved u) k.Name)) n u (drop n (b ∷ bs)) (cut_run is_name_byte (b ∷ bs)) (run_within is_name_byte (b ∷ bs)) (token (word_token u (look_up reserved u) refl (first_word b bs h)))

-- ---- operators

pub operator_covers : {u : List ℕ} {kind : TokenKind} → In (u, kind) operators → (r : List ℕ) → Covers (p.Token kind) u (scan_operator (u ++ r))
unfolding scan_operator
operator_covers {u} {kind} i r =
    let f = first_longer i refl refl r in
    subst (λ (a : Answer). Covers (p.Token kind) u a) (sym (ap operator_found f.is)) (longer (p.Token f.row.1) (length f.row.0) f.long (λ l. ap p.Token (f.same l)))

operator_step : (fresh : Bool) (ts : List ℕ) (o : Option Spelled) → first_of operators ts ≡ o → IsSound fresh ts (operator_found o)
operator_step fresh ts None e = nothing
operator_step fresh ts (Some row) e =
    let f = first_is_in operators ts row e in
    piece (p.Token row.1) (length row.0) row.0 (drop (length row.0) ts) f.1 refl (token (operator f.0))

pub operator_sound : (fresh : Bool) (ts : List ℕ) → IsSound fresh ts (scan_operator ts)
unfolding scan_operator
operator_sound fresh ts = operator_step fresh ts (first_of operators ts) refl
