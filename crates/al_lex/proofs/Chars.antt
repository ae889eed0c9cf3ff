-- Character constants.
use Rattle.std.proofs.Common.{◌≡◌, ℕ, ◌+◌, ◌≤◌, ◌==◌, nat_le, min, Bool, true, ◌&&◌, if◌then◌else◌, List, [], ◌∷◌, ◌++◌, length, drop, slice_index, refl, sym, ap, ap₂, ◌∙◌, subst, arith, append_assoc, length-append}
use Rattle.std.proofs.lemmas.Grind.{common_steps}
use Rattle.std.proofs.lemmas.List.{drop_at}
use Rattle.std.specs.List.{list_all, prefix_len}
use Rattle.al_lex.specs.declared.kind.TokenKind.TheVariants as k
use Rattle.al_lex.specs.declared.kind.PieceKind.TheVariants as p
use Rattle.al_lex.specs.declared.fault.LexReason.TheVariants as why
use Rattle.al_lex.specs.Bytes.{apostrophe, backslash, is_octal, is_hex, is_plain, digit_value, value_of}
use Rattle.al_lex.specs.Pieces.{IsEscape, letter, octal_byte, hex_byte, IsItem, plain, escape, character, token}
use Rattle.al_lex.specs.Cut.{BeginsNoEscape, bad_escape_in_character}
use Rattle.al_lex.specs.Scan.{Answer, found, flaw, is_escape_letter, escape_len, begins_escape, closed, char_from, scan_char, first_is}
use Rattle.al_lex.proofs.Answers.{IsSound, piece, fault, nothing, Covers, longer}
use Rattle.al_lex.proofs.Runs.{both, run_exact, choose_by, by_bool, if_true, if_false, equal, equal_false, some_true}
use Rattle.al_lex.proofs.Strings.{escape_begins, letter_true, escape_octal, escape_hex, plain_item, no_escape, escape_none, escape_found}
use Rattle.al_lex.proofs.Tables.{first_cons}

large_digit : (b : ℕ) → is_octal b ≡ true → nat_le 52 b ≡ true → 4 ≤ digit_value b
large_digit b h f = grind (arith, common_steps)

-- three octal digits of which the first is above 3 have a value above 255
large_octal : (ds : List ℕ) → length ds ≡ 3 → list_all is_octal ds ≡ true → nat_le 52 (slice_index ds 0) ≡ true → value_of 8 ds ≤ 255 → ⊥
large_octal [] l o f v = omega arith
large_octal (a ∷ []) l o f v = omega arith
large_octal (a ∷ (b ∷ [])) l o f v = omega arith
large_octal (a ∷ (b ∷ (c ∷ []))) l o f v =
    let x = both (is_octal a) (is_octal b && (is_octal c && true)) o in
    omega (arith, large_digit a x.0 f, v)
large_octal (a ∷ (b ∷ (c ∷ (d ∷ ds)))) l o f v = omega arith

-- before a quote the escape that is found is the whole one
exact_escape : {u : List ℕ} {v : ℕ} → IsEscape u v → (rest : List ℕ) → escape_len (u ++ apostrophe ∷ rest) ≡ length u
exact_escape (letter {b = b} i) rest = if_true (is_escape_letter b) _ _ (letter_true i)
exact_escape (octal_byte [] some most o value) rest = absurd (omega arith)
exact_escape (octal_byte (d ∷ ds) some most o value) rest =
    let ts = (d ∷ ds) ++ apostrophe ∷ rest in
    let run = run_exact is_octal (d ∷ ds) apostrophe rest o refl in
    let m = min 3 (prefix_len is_octal ts) in
    let n : m ≡ length (d ∷ ds) = omega (arith, run) in
    let plain_len = by_bool (m == 3 && nat_le 52 d) (λ t. let q = both (m == 3) (nat_le 52 d) t in absurd (large_octal (d ∷ ds) (sym n ∙ equal m 3 q.0) o q.1 value)) (λ f. f) in
    escape_octal d (ds ++ apostrophe ∷ rest) (both (is_octal d) (list_all is_octal ds) o).0 ∙ if_false (m == 3 && nat_le 52 d) _ _ plain_len ∙ n
exact_escape (hex_byte ds some most h) rest =
    let run = run_exact is_hex ds apostrophe rest h refl in
    escape_hex (ds ++ apostrophe ∷ rest) (omega (arith, run)) ∙ omega (arith, run)

char_item : {u : List ℕ} {v : ℕ} → IsItem apostrophe u v → (rest : List ℕ) → char_from (u ++ apostrophe ∷ rest) ≡ found (p.Token k.Char) (length u + 2)
char_item (plain b h) rest =
    let q = plain_item apostrophe b h in
    if_false (b == backslash) _ _ (equal_false b backslash q.1) ∙ if_true (is_plain apostrophe b) _ _ h
char_item (escape {u = u} e) rest =
    let ts = u ++ apostrophe ∷ rest in
    let n = exact_escape e rest in
    if_true (begins_escape ts) _ _ (some_true (escape_len ts) (escape_begins e (apostrophe ∷ rest)))
    ∙ ap (λ l. closed (l + 1) (drop l ts)) n
    ∙ ap (closed (length u + 1)) (drop_at u (apostrophe ∷ rest) (length u) refl)
    ∙ ap (found (p.Token k.Char)) (omega arith)

pub char_covers : {u : List ℕ} {v : ℕ} → IsItem apostrophe u v → (rest : List ℕ) → Covers (p.Token k.Char) (apostrophe ∷ (u ++ apostrophe ∷ [])) (scan_char ((apostrophe ∷ (u ++ apostrophe ∷ [])) ++ rest))
char_covers {u} i rest =
    let e = ap char_from (append_assoc u (apostrophe ∷ []) rest) ∙ char_item i rest in
    subst (λ (a : Answer). Covers (p.Token k.Char) (apostrophe ∷ (u ++ apostrophe ∷ [])) a) (sym e)
    (longer (p.Token k.Char) (length u + 2) (omega (arith, length-append u (apostrophe ∷ []))) (λ _. refl))

pub char_wrong : {rest : List ℕ} → BeginsNoEscape rest → scan_char (apostrophe ∷ (backslash ∷ rest)) ≡ flaw why.BadEscape 1
char_wrong {rest} none = if_false (begins_escape rest) _ _ (escape_none rest none)

-- a byte and the quote behind it
closed_sound : (fresh : Bool) (ts u rest : List ℕ) (v n : ℕ) → ts ≡ apostrophe ∷ (u ++ rest) → n ≡ length u → IsItem apostrophe u v → IsSound fresh ts (closed n rest)
closed_sound fresh ts u rest v n cut len i =
    choose_by (IsSound fresh ts) (first_is apostrophe rest) _ _
    (λ t. piece (p.Token k.Char) (n + 2) (apostrophe ∷ (u ++ apostrophe ∷ [])) (drop 1 rest)
    (cut ∙ ap (λ l. apostrophe ∷ (u ++ l)) (first_cons apostrophe rest t) ∙ ap (λ l. apostrophe ∷ l) (sym (append_assoc u (apostrophe ∷ []) (drop 1 rest))))
    (omega (arith, len, length-append u (apostrophe ∷ []))) (token (character i)))
    (λ _. nothing)

escaped_sound : (fresh : Bool) (bs : List ℕ) → begins_escape bs ≡ true → IsSound fresh (apostrophe ∷ (backslash ∷ bs)) (closed (escape_len bs + 1) (drop (escape_len bs) bs))
escaped_sound fresh bs h =
    let e = escape_found bs h in
    let left : drop (escape_len bs) bs ≡ e.rest = ap₂ drop e.len e.cut ∙ drop_at e.front e.rest (length e.front) refl in
    subst (λ (l : List ℕ). IsSound fresh (apostrophe ∷ (backslash ∷ bs)) (closed (escape_len bs + 1) l)) (sym left)
    (closed_sound fresh _ (backslash ∷ e.front) e.rest e.value (escape_len bs + 1) (ap (λ l. apostrophe ∷ (backslash ∷ l)) e.cut) (omega (arith, e.len)) (escape e.is))

pub char_sound : (fresh : Bool) (bs : List ℕ) → IsSound fresh (apostrophe ∷ bs) (scan_char (apostrophe ∷ bs))
char_sound fresh [] = nothing
char_sound fresh (b ∷ bs) =
    choose_by (IsSound fresh (apostrophe ∷ (b ∷ bs))) (b == backslash) _ _
    (λ t. subst (λ (x : ℕ). IsSound fresh (apostrophe ∷ (x ∷ bs)) (if begins_escape bs then closed (escape_len bs + 1) (drop (escape_len bs) bs) else flaw why.BadEscape 1)) (sym (equal b backslash t))
    (choose_by (IsSound fresh (apostrophe ∷ (backslash ∷ bs))) (begins_escape bs) _ _
    (escaped_sound fresh bs)
    (λ f. fault why.BadEscape 1 (bad_escape_in_character (no_escape bs f)))))
    (λ _. choose_by (IsSound fresh (apostrophe ∷ (b ∷ bs))) (is_plain apostrophe b) _ _
    (λ t. closed_sound fresh _ (b ∷ []) bs b 1 refl refl (plain b t))
    (λ _. nothing))
