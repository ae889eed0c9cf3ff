-- What is computed is the piece of the cutting, or the fault.
use Rattle.std.proofs.Common.{◌≡◌, ◌≢◌, ℕ, ◌+◌, ◌^◌, ◌≤◌, ◌==◌, nat_eq, Bool, true, false, ◌||◌, List, [], ◌∷◌, ◌++◌, length, drop, Option, Some, None, codes, refl, sym, ap, ap₂, ◌∙◌, subst, arith, length-append}
use Rattle.std.proofs.lemmas.Grind.{common_steps}
use Rattle.std.specs.List.{list_all, prefix_len}
use lib.Pointwise.{pointwise}
use Rattle.al_lex.specs.declared.kind.TokenKind.{TokenKind}
use Rattle.al_lex.specs.declared.kind.TokenKind.TheVariants as k
use Rattle.al_lex.specs.declared.kind.PieceKind.{PieceKind}
use Rattle.al_lex.specs.declared.kind.PieceKind.TheVariants as p
use Rattle.al_lex.specs.declared.fault.LexReason.{LexReason}
use Rattle.al_lex.specs.declared.fault.LexReason.TheVariants as why
use Rattle.al_lex.specs.declared.scan.Found.{Found}
use Rattle.al_lex.specs.declared.scan.Flaw.{Flaw}
use Rattle.al_lex.specs.declared.class.ByteClass.{ByteClass}
use Rattle.al_lex.specs.declared.class.ByteClass.TheVariants as c
use Rattle.al_lex.specs.Bytes.{quote, apostrophe, is_blank, is_letter, is_digit, is_in_line}
use Rattle.al_lex.specs.Spelling.{Spelled, reserved, operators}
use Rattle.al_lex.specs.Pieces.{In, word, IsNumber, hexadecimal, octal, decimal, IsToken, name, reserved_word, operator, number, character, string, IsComment, block, line, IsDirective, include, line_of, origin_of, EndsLine, IsPiece, blank, comment, skipped, token}
use Rattle.al_lex.specs.Cut.{IsLongestNumber, IsPieceFault, open_comment, open_string, bad_escape_in_string, bad_escape_in_character, number_too_big, IsFault, of_piece, bad_char, IsNext}
use Rattle.al_lex.specs.Scan.{Answer, found, flaw, class, scan_class, scan, scan_slash, block_found, comment_end, first_is}
use Rattle.al_lex.proofs.Answers.{IsSound, piece, fault, nothing, Covers, longer, faulty, IsFound}
use Rattle.al_lex.proofs.Runs.{both, run_longer, choose_by, by_bool, if_true, if_false, equal}
use Rattle.al_lex.proofs.Tables.{all_in, same_is, first_cons}
use Rattle.al_lex.proofs.Words.{reserved_covers, name_covers, word_sound, operator_covers, operator_sound}
use Rattle.al_lex.proofs.Numbers.{some_number, number_covers, number_sound, number_fault, number_begins}
use Rattle.al_lex.proofs.Strings.{string_covers, string_open, string_wrong, string_sound}
use Rattle.al_lex.proofs.Chars.{char_covers, char_wrong, char_sound}
use Rattle.al_lex.proofs.Comments.{comment_covers, comment_open, slash_sound}
use Rattle.al_lex.proofs.Lines.{directive_covers, directive_sound}

-- ---- the class of a first byte

class_blank : (b : ℕ) → is_blank b ≡ true → class b ≡ c.Blank
class_blank b h = if_true (is_blank b) _ _ h

letter_no_blank : (b : ℕ) → is_letter b ≡ true → is_blank b ≡ false
letter_no_blank b h = grind (arith, common_steps)

digit_no_blank : (b : ℕ) → is_digit b ≡ true → is_blank b ≡ false
digit_no_blank b h = grind (arith, common_steps)

digit_no_letter : (b : ℕ) → is_digit b ≡ true → is_letter b ≡ false
digit_no_letter b h = grind (arith, common_steps)

class_letter : (b : ℕ) → is_letter b ≡ true → class b ≡ c.Letter
class_letter b h = if_false (is_blank b) _ _ (letter_no_blank b h) ∙ if_true (is_letter b) _ _ h

class_digit : (b : ℕ) → is_digit b ≡ true → class b ≡ c.Digit
class_digit b h = if_false (is_blank b) _ _ (digit_no_blank b h) ∙ if_false (is_letter b) _ _ (digit_no_letter b h) ∙ if_true (is_digit b) _ _ h

-- ---- what is found stands there

pub sound : (fresh : Bool) (b : ℕ) (bs : List ℕ) → IsSound fresh (b ∷ bs) (scan fresh (b ∷ bs))
sound fresh b bs =
    let ts = b ∷ bs in
    let P : ByteClass → Type 0 = λ x. IsSound fresh ts (scan_class fresh x ts) in
    choose_by P (is_blank b) _ _ (λ t. piece p.Blank 1 (b ∷ []) bs refl refl (blank b t)) (λ _.
    choose_by P (is_letter b) _ _ (λ t. word_sound fresh b bs t) (λ _.
    choose_by P (is_digit b) _ _ (λ t. number_sound fresh b bs t) (λ _.
    choose_by P (b == quote) _ _ (λ t. subst (λ (x : ℕ). IsSound fresh (x ∷ bs) (scan_class fresh c.Quote (x ∷ bs))) (sym (equal b quote t)) (string_sound fresh bs)) (λ _.
    choose_by P (b == apostrophe) _ _ (λ t. subst (λ (x : ℕ). IsSound fresh (x ∷ bs) (scan_class fresh c.Apostrophe (x ∷ bs))) (sym (equal b apostrophe t)) (char_sound fresh bs)) (λ _.
    choose_by P (b == 35) _ _ (λ _. directive_sound fresh ts) (λ _.
    choose_by P (b == 47) _ _ (λ t. subst (λ (x : ℕ). IsSound fresh (x ∷ bs) (scan_class fresh c.Slash (x ∷ bs))) (sym (equal b 47 t)) (slash_sound fresh bs)) (λ _.
    operator_sound fresh ts)))))))

-- ---- a piece that stands there is covered

-- a text of this class is scanned so
as_class : (fresh : Bool) (b : ℕ) (bs : List ℕ) (x : ByteClass) (kind : PieceKind) (u : List ℕ) → class b ≡ x → Covers kind u (scan_class fresh x (b ∷ bs)) → Covers kind u (scan fresh (b ∷ bs))
as_class fresh b bs x kind u e h = subst (λ (y : ByteClass). Covers kind u (scan_class fresh y (b ∷ bs))) (sym e) h

starts_word : List ℕ → Bool
starts_word [] = false
starts_word (b ∷ bs) = is_letter b

is_other : ByteClass → Bool
is_other c.Other = true
is_other _ = false

other_is : (x : ByteClass) → is_other x ≡ true → x ≡ c.Other
unfolding is_other
other_is c.Other h = refl
other_is c.Blank h = absurd (let f : ⊥ = cc in f)
other_is c.Letter h = absurd (let f : ⊥ = cc in f)
other_is c.Digit h = absurd (let f : ⊥ = cc in f)
other_is c.Quote h = absurd (let f : ⊥ = cc in f)
other_is c.Apostrophe h = absurd (let f : ⊥ = cc in f)
other_is c.Hash h = absurd (let f : ⊥ = cc in f)
other_is c.Slash h = absurd (let f : ⊥ = cc in f)

-- what an operator begins with: nothing else begins so, or a slash
starts_operator : List ℕ → Bool
starts_operator [] = false
starts_operator (b ∷ bs) = is_other (class b) || (pointwise nat_eq (codes "/") (b ∷ bs) || pointwise nat_eq (codes "/=") (b ∷ bs))

reserved_start : {u : List ℕ} {kind : TokenKind} → In (u, kind) reserved → starts_word u ≡ true
unfolding starts_word
reserved_start i = all_in (λ (row : Spelled). starts_word row.0) i refl

operator_start : {u : List ℕ} {kind : TokenKind} → In (u, kind) operators → starts_operator u ≡ true
unfolding starts_operator is_other
operator_start i = all_in (λ (row : Spelled). starts_operator row.0) i refl

slash_run : (rest : List ℕ) → first_is 47 rest ≡ true → 2 ≤ prefix_len is_in_line (47 ∷ rest)
slash_run rest t =
    let e = first_cons 47 rest t in
    subst (λ (l : List ℕ). 2 ≤ prefix_len is_in_line (47 ∷ l)) (sym e) (run_longer is_in_line (codes "//") (drop 1 rest) refl)

or_rest : (a b : Bool) → (a || b) ≡ true → a ≡ false → b ≡ true
or_rest true b h f = absurd (let e : true ≡ false = f in let x : ⊥ = cc in x)
or_rest false b h f = h

-- the slash alone, which may begin a comment
slash_covers : (kind : TokenKind) → In (codes "/", kind) operators → (rest : List ℕ) → Covers (p.Token kind) (codes "/") (scan_slash (47 ∷ rest))
slash_covers kind i rest =
    let P : Answer → Type 0 = Covers (p.Token kind) (codes "/") in
    choose_by P (first_is 47 rest) _ _
    (λ t. let two = slash_run rest t in longer p.Comment (prefix_len is_in_line (47 ∷ rest)) (omega (arith, two)) (λ e. absurd (omega (arith, two, e))))
    (λ _. choose_by P (first_is 42 rest) _ _ (λ _. block_covers (comment_end (drop 1 rest))) (λ _. operator_covers i rest))
  where
    block_covers : (o : Option ℕ) → Covers (p.Token kind) (codes "/") (block_found o)
    block_covers None = faulty why.OpenComment 0 (λ e. let f : ⊥ = cc in f)
    block_covers (Some n) = longer p.Comment (n + 2) (omega arith) (λ e. absurd (omega (arith, e)))

operator_by : (fresh : Bool) (kind : TokenKind) (b : ℕ) (bs rest : List ℕ) → In (b ∷ bs, kind) operators → starts_operator (b ∷ bs) ≡ true → Covers (p.Token kind) (b ∷ bs) (scan fresh (b ∷ (bs ++ rest)))
unfolding starts_operator
operator_by fresh kind b bs rest i h =
    by_bool (is_other (class b))
    (λ t. as_class fresh b (bs ++ rest) c.Other (p.Token kind) (b ∷ bs) (other_is (class b) t) (operator_covers i rest))
    (λ f. by_bool (pointwise nat_eq (codes "/") (b ∷ bs))
    (λ t. subst (λ (u : List ℕ). Covers (p.Token kind) u (scan fresh (u ++ rest))) (same_is (codes "/") (b ∷ bs) t) (slash_covers kind (subst (λ (u : List ℕ). In (u, kind) operators) (sym (same_is (codes "/") (b ∷ bs) t)) i) rest))
    (λ g.
    let t = or_rest (pointwise nat_eq (codes "/") (b ∷ bs)) _ (or_rest (is_other (class b)) _ h f) g in
    let same = same_is (codes "/=") (b ∷ bs) t in
    subst (λ (u : List ℕ). Covers (p.Token kind) u (scan fresh (u ++ rest))) same (operator_covers (subst (λ (u : List ℕ). In (u, kind) operators) (sym same) i) rest)))

comment_by : {u : List ℕ} → IsComment u → (fresh : Bool) (rest : List ℕ) → Covers p.Comment u (scan fresh (u ++ rest))
comment_by (block body h) fresh rest = comment_covers (block body h) rest
comment_by (line body h) fresh rest = comment_covers (line body h) rest

directive_by : {u : List ℕ} → IsDirective u → (rest : List ℕ) → EndsLine rest → Covers p.Skipped u (scan true (u ++ rest))
directive_by (include s end g h) rest e = directive_covers (include s end g h) rest e
directive_by (line_of s end g d h) rest e = directive_covers (line_of s end g d h) rest e
directive_by (origin_of s end g d h) rest e = directive_covers (origin_of s end g d h) rest e

number_by : {u : List ℕ} {v : ℕ} → IsNumber u v → (fresh : Bool) (rest : List ℕ) → Covers (p.Token k.Number) u (scan fresh (u ++ rest))
number_by (hexadecimal d ds h) fresh rest = number_covers (hexadecimal d ds h) rest
number_by (octal ds h) fresh rest = number_covers (octal ds h) rest
number_by (decimal d ds h o) fresh rest = as_class fresh d (ds ++ rest) c.Digit (p.Token k.Number) (d ∷ ds) (class_digit d (both (is_digit d) (list_all is_digit ds) h).0) (number_covers (decimal d ds h o) rest)

reserved_by : (fresh : Bool) (kind : TokenKind) (u rest : List ℕ) → In (u, kind) reserved → starts_word u ≡ true → Covers (p.Token kind) u (scan fresh (u ++ rest))
unfolding starts_word
reserved_by fresh kind [] rest i h = absurd (let f : ⊥ = cc in f)
reserved_by fresh kind (b ∷ bs) rest i h = as_class fresh b (bs ++ rest) c.Letter (p.Token kind) (b ∷ bs) (class_letter b h) (reserved_covers i rest)

operator_all : (fresh : Bool) (kind : TokenKind) (u rest : List ℕ) → In (u, kind) operators → starts_operator u ≡ true → Covers (p.Token kind) u (scan fresh (u ++ rest))
unfolding starts_operator
operator_all fresh kind [] rest i h = absurd (let f : ⊥ = cc in f)
operator_all fresh kind (b ∷ bs) rest i h = operator_by fresh kind b bs rest i h

token_by : {kind : TokenKind} {u : List ℕ} → IsToken kind u → (fresh : Bool) (rest : List ℕ) → Covers (p.Token kind) u (scan fresh (u ++ rest))
token_by (name (word b bs h e) other) fresh rest = as_class fresh b (bs ++ rest) c.Letter (p.Token k.Name) (b ∷ bs) (class_letter b h) (name_covers (word b bs h e) other rest)
token_by (reserved_word {u = u} {kind = kind} i) fresh rest = reserved_by fresh kind u rest i (reserved_start i)
token_by (operator {u = u} {kind = kind} i) fresh rest = operator_all fresh kind u rest i (operator_start i)
token_by (number n) fresh rest = number_by n fresh rest
token_by (character i) fresh rest = char_covers i rest
token_by (string b) fresh rest = string_covers b rest

pub covers : {fresh : Bool} {kind : PieceKind} {u rest : List ℕ} → IsPiece fresh kind u rest → Covers kind u (scan fresh (u ++ rest))
covers {fresh} (blank b {rest = rest} h) = as_class fresh b rest c.Blank p.Blank (b ∷ []) (class_blank b h) (longer p.Blank 1 (omega arith) (λ _. refl))
covers {fresh} (comment {rest = rest} d) = comment_by d fresh rest
covers {fresh} (skipped {u = u} {rest = rest} f d e) = subst (λ (x : Bool). Covers p.Skipped u (scan x (u ++ rest))) (sym f) (directive_by d rest e)
covers {fresh} (token {rest = rest} d) = token_by d fresh rest

-- ---- a piece has at least one byte

some_word : (u : List ℕ) → starts_word u ≡ true → 1 ≤ length u
unfolding starts_word
some_word [] h = absurd (let f : ⊥ = cc in f)
some_word (b ∷ bs) h = omega arith

some_operator : (u : List ℕ) → starts_operator u ≡ true → 1 ≤ length u
unfolding starts_operator
some_operator [] h = absurd (let f : ⊥ = cc in f)
some_operator (b ∷ bs) h = omega arith

some_token : {kind : TokenKind} {u : List ℕ} → IsToken kind u → 1 ≤ length u
some_token (name (word b bs h e) other) = omega arith
some_token (reserved_word {u = u} i) = some_word u (reserved_start i)
some_token (operator {u = u} i) = some_operator u (operator_start i)
some_token (number n) = some_number n
some_token (character i) = omega arith
some_token (string b) = omega arith

some_comment : {u : List ℕ} → IsComment u → 1 ≤ length u
some_comment (block body h) = omega arith
some_comment (line body h) = omega arith

some_directive : {u : List ℕ} → IsDirective u → 1 ≤ length u
some_directive (include s end g h) = omega arith
some_directive (line_of s end g d h) = omega arith
some_directive (origin_of s end g d h) = omega arith

pub some_byte : {fresh : Bool} {kind : PieceKind} {u rest : List ℕ} → IsPiece fresh kind u rest → 1 ≤ length u
some_byte (blank b h) = omega arith
some_byte (comment d) = some_comment d
some_byte (skipped f d e) = some_directive d
some_byte (token d) = some_token d

-- ---- the fault of a piece is found

number_found_fault : (fresh : Bool) (ts : List ℕ) {u : List ℕ} {v : ℕ} → IsLongestNumber ts u v → 2 ^ 64 ≤ v → scan fresh ts ≡ flaw why.NumberTooBig 0
number_found_fault fresh [] {u} l big = absurd (omega (arith, some_number l.is, ap length l.cut, length-append u l.rest))
number_found_fault fresh (b ∷ bs) {u} l big =
    let d = number_begins l.is b bs l.rest l.cut in
    ap (λ x. scan_class fresh x (b ∷ bs)) (class_digit b d) ∙ number_fault b bs d l big

pub fault_found : {fresh : Bool} {ts : List ℕ} {reason : LexReason} {offset : ℕ} → IsPieceFault fresh ts reason offset → IsFound reason offset (scan fresh ts)
fault_found (open_comment rest h) = record { is = comment_open rest h; of_piece = λ e. let f : ⊥ = cc in f }
fault_found (open_string b e) = record { is = string_open b e; of_piece = λ e. let f : ⊥ = cc in f }
fault_found (bad_escape_in_string b n) = record { is = string_wrong b n; of_piece = λ e. let f : ⊥ = cc in f }
fault_found (bad_escape_in_character n) = record { is = char_wrong n; of_piece = λ e. let f : ⊥ = cc in f }
fault_found {fresh} {ts} (number_too_big l big) = record { is = number_found_fault fresh ts l big; of_piece = λ e. let f : ⊥ = cc in f }

-- ---- the answer is the piece of the cutting, or the fault

pub data IsRight (fresh : Bool) (ts : List ℕ) : Answer → Type 0 where
  right_piece : (kind : PieceKind) (n : ℕ) (u rest : List ℕ) → ts ≡ u ++ rest → n ≡ length u → IsNext fresh kind u rest → IsRight fresh ts (found kind n)
  right_fault : (reason : LexReason) (offset : ℕ) → IsFault fresh ts reason offset → IsRight fresh ts (flaw reason offset)

pub same_found : (x : PieceKind) (m : ℕ) (y : PieceKind) (n : ℕ) → found x m ≡ found y n → (x ≡ y) × (m ≡ n)
same_found x m y n e =
    let r : ◌≡◌ {A = Found} (record { kind = x; len = m }) (record { kind = y; len = n }) = cc in
    (ap (λ (q : Found). q.kind) r, ap (λ (q : Found). q.len) r)

pub same_flaw : (x : LexReason) (m : ℕ) (y : LexReason) (n : ℕ) → flaw x m ≡ flaw y n → (x ≡ y) × (m ≡ n)
same_flaw x m y n e =
    let r : ◌≡◌ {A = Flaw} (record { reason = x; offset = m }) (record { reason = y; offset = n }) = cc in
    (ap (λ (q : Flaw). q.reason) r, ap (λ (q : Flaw). q.offset) r)

pub flaw_apart : (x : LexReason) (m : ℕ) (y : PieceKind) (n : ℕ) → flaw x m ≡ found y n → ⊥
flaw_apart x m y n e = let f : ⊥ = cc in f

covers_long : {kind other : PieceKind} {u : List ℕ} {a : Answer} {n : ℕ} → Covers kind u a → a ≡ found other n → (length u ≤ n) × (length u ≡ n → kind ≡ other)
covers_long {other = other} {u = u} {n = n} (longer x m l same) e =
    let q = same_found x m other n e in
    (subst (λ (y : ℕ). length u ≤ y) q.1 l, λ h. same (h ∙ sym q.1) ∙ q.0)
covers_long (faulty reason offset h) e = absurd (let f : ⊥ = cc in f)

covers_fault : {kind : PieceKind} {u : List ℕ} {a : Answer} {reason : LexReason} {offset : ℕ} → Covers kind u a → a ≡ flaw reason offset → reason ≢ why.BadChar
covers_fault (longer x m l same) e = absurd (let f : ⊥ = cc in f)
covers_fault {reason = reason} {offset = offset} (faulty x o h) e = λ g. h ((same_flaw x o reason offset e).0 ∙ g)

cons_some : (b : ℕ) (bs : List ℕ) → b ∷ bs ≢ []
cons_some b bs e = let f : ⊥ = cc in f

right_by : (fresh : Bool) (b : ℕ) (bs : List ℕ) (a : Answer) → scan fresh (b ∷ bs) ≡ a → IsSound fresh (b ∷ bs) a → IsRight fresh (b ∷ bs) a
right_by fresh b bs a e (fault reason offset d) = right_fault reason offset (of_piece d)
right_by fresh b bs a e nothing =
    right_fault why.BadChar 0 (bad_char (cons_some b bs)
    (λ kind u v cut d. covers_fault (covers d) (ap (scan fresh) (sym cut) ∙ e) refl)
    (λ reason offset d. let g = fault_found d in g.of_piece (same_flaw reason offset why.BadChar 0 (sym g.is ∙ e)).0))
right_by fresh b bs a e (piece kind n u rest cut len d) =
    let here : scan fresh (u ++ rest) ≡ found kind n = ap (scan fresh) (sym cut) ∙ e in
    right_piece kind n u rest cut len (record {
      longest = record { cut = refl; is = d; longest = λ other w v split x. omega (arith, len, (covers_long (covers x) (ap (scan fresh) (sym split) ∙ here)).0) };
      faultless = λ reason offset x. no_fault here x;
    })
  where
    no_fault : scan fresh (u ++ rest) ≡ found kind n → {reason : LexReason} {offset : ℕ} → IsFault fresh (u ++ rest) reason offset → ⊥
    no_fault here {reason} {offset} (of_piece x) = flaw_apart reason offset kind n (sym (fault_found x).is ∙ here)
    no_fault here (bad_char some none other) = none kind u rest refl d

pub right : (fresh : Bool) (b : ℕ) (bs : List ℕ) → IsRight fresh (b ∷ bs) (scan fresh (b ∷ bs))
right fresh b bs = right_by fresh b bs (scan fresh (b ∷ bs)) refl (sound fresh b bs)

-- ---- and the piece of the cutting, or the fault, is the answer

next_by : {fresh : Bool} {kind : PieceKind} (u rest : List ℕ) → IsNext fresh kind u rest → (a : Answer) → scan fresh (u ++ rest) ≡ a → IsRight fresh (u ++ rest) a → a ≡ found kind (length u)
next_by u rest d a e (right_fault reason offset x) = absurd (d.faultless reason offset x)
next_by {kind = kind} u rest d a e (right_piece other n w v cut len x) =
    let c1 = covers_long (covers d.longest.is) e in
    let short = d.longest.longest other w v cut x.longest.is in
    let same : length u ≡ n = omega (arith, c1.0, short, len) in
    ap₂ found (sym (c1.1 same)) (sym same)

pub next_found : {fresh : Bool} {kind : PieceKind} (u rest : List ℕ) → IsNext fresh kind u rest → scan fresh (u ++ rest) ≡ found kind (length u)
next_found [] rest d = absurd (omega (arith, some_byte d.longest.is))
next_found {fresh} (b ∷ bs) rest d = next_by (b ∷ bs) rest d (scan fresh (b ∷ (bs ++ rest))) refl (right fresh b (bs ++ rest))

bad_by : {fresh : Bool} {ts : List ℕ} (a : Answer) → ((kind : PieceKind) (u v : List ℕ) → ts ≡ u ++ v → ¬ IsPiece fresh kind u v) → ((reason : LexReason) (offset : ℕ) → ¬ IsPieceFault fresh ts reason offset) → IsRight fresh ts a → a ≡ flaw why.BadChar 0
bad_by a none other (right_piece kind n u rest cut len x) = absurd (none kind u rest cut x.longest.is)
bad_by a none other (right_fault reason offset (of_piece x)) = absurd (other reason offset x)
bad_by a none other (right_fault reason offset (bad_char some x y)) = refl

pub fault_is : {fresh : Bool} {reason : LexReason} {offset : ℕ} (ts : List ℕ) → IsFault fresh ts reason offset → scan fresh ts ≡ flaw reason offset
fault_is ts (of_piece x) = (fault_found x).is
fault_is [] (bad_char some none other) = absurd (some refl)
fault_is {fresh} (b ∷ bs) (bad_char some none other) = bad_by (scan fresh (b ∷ bs)) none other (right fresh b bs)

-- an empty text has no fault
pub no_fault_of_nothing : {fresh : Bool} {reason : LexReason} {offset : ℕ} → ¬ IsFault fresh [] reason offset
no_fault_of_nothing (bad_char some none other) = some refl
no_fault_of_nothing (of_piece (number_too_big {u = u} l big)) = omega (arith, some_number l.is, ap length l.cut, length-append u l.rest)
