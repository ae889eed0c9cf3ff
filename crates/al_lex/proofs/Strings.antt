-- Character constants and strings.
use Rattle.std.proofs.Common.{◌≡◌, ◌≢◌, ℕ, zero, suc, ◌+◌, ◌≤◌, ◌==◌, nat_lt, nat_le, min, Bool, true, false, ◌&&◌, ◌||◌, if◌then◌else◌, List, [], ◌∷◌, ◌++◌, length, take, drop, slice_index, refl, sym, ap, ◌∙◌, subst, arith, append_assoc, length-append}
use Rattle.std.proofs.lemmas.Grind.{common_steps}
use Rattle.std.proofs.lemmas.List.{take-append-drop}
use Rattle.std.specs.List.{list_all, list_any, prefix_len}
use Rattle.al_lex.specs.declared.kind.TokenKind.TheVariants as k
use Rattle.al_lex.specs.declared.kind.PieceKind.TheVariants as p
use Rattle.al_lex.specs.declared.fault.LexReason.TheVariants as why
use Rattle.al_lex.specs.declared.string.StringEnd.{StringEnd}
use Rattle.al_lex.specs.declared.string.StringEnd.TheVariants as s
use Rattle.al_lex.specs.Bytes.{line_feed, quote, backslash, is_octal, is_hex, is_plain, digit_value, value_of}
use Rattle.al_lex.specs.Pieces.{In, here, there, escapes, IsEscape, letter, octal_byte, hex_byte, IsItem, plain, escape, IsBody, empty, item, string, token, EndsLine, text_ends, line_ends}
use Rattle.al_lex.specs.Cut.{BeginsNoEscape, IsPieceFault, open_string, bad_escape_in_string}
use Rattle.al_lex.specs.Scan.{flaw, is_escape_letter, octal_len, escape_len, begins_escape, onward, string_from, string_found, scan_string}
use Rattle.al_lex.proofs.Answers.{IsSound, piece, fault, Covers, longer}
use Rattle.al_lex.proofs.Runs.{both, and_true, run_longer, run_part, choose_by, by_bool, chosen, widen, if_true, if_false, equal, equal_true, equal_false, some_true, some_is, none_is}
use Rattle.al_lex.proofs.Tables.{not_both}
use Rattle.al_lex.proofs.Steps.{farther, octal_hex}

-- ---- escapes

-- the letters of the escapes
pub letter_true : {b v : ℕ} {rows : List (ℕ × ℕ)} → In (b, v) rows → list_any (λ (e : ℕ × ℕ). e.0 == b) rows ≡ true
letter_true {b} {v} (here {xs = more}) = rw (equal_true b b refl) refl
letter_true {b} {v} (there {y = y} {xs = more} i) = go (y.0 == b) (letter_true i)
  where
    go : (x : Bool) → list_any (λ (e : ℕ × ℕ). e.0 == b) more ≡ true → (x || list_any (λ (e : ℕ × ℕ). e.0 == b) more) ≡ true
    go true h = refl
    go false h = h

record Letter (b : ℕ) (rows : List (ℕ × ℕ)) : Type 0 where
  value : ℕ
  is : In (b, value) rows

letter_is : (b : ℕ) (rows : List (ℕ × ℕ)) → list_any (λ (e : ℕ × ℕ). e.0 == b) rows ≡ true → Letter b rows
letter_is b [] h = absurd (let f : ⊥ = cc in f)
letter_is b (y ∷ rows) h = go (y.0 == b) refl h (letter_is b rows)
  where
    go : (x : Bool) → (y.0 == b) ≡ x → (x || list_any (λ (e : ℕ × ℕ). e.0 == b) rows) ≡ true → (list_any (λ (e : ℕ × ℕ). e.0 == b) rows ≡ true → Letter b rows) → Letter b (y ∷ rows)
    go true e h more = record { value = y.1; is = subst (λ (x : ℕ). In (x, y.1) (y ∷ rows)) (equal y.0 b e) here }
    go false e h more = let m = more h in record { value = m.value; is = there m.is }

pub octal_first : (b : ℕ) → is_octal b ≡ true → is_escape_letter b ≡ false
octal_first b h = grind (arith, common_steps)

pub octal_not_x : (b : ℕ) → is_octal b ≡ true → (b == 120) ≡ false
octal_not_x b h = grind (arith, common_steps)

pub escape_octal : (b : ℕ) (bs : List ℕ) → is_octal b ≡ true → escape_len (b ∷ bs) ≡ octal_len (b ∷ bs)
escape_octal b bs h = if_false (is_escape_letter b) _ _ (octal_first b h) ∙ if_false (b == 120) _ _ (octal_not_x b h)

pub escape_hex : (bs : List ℕ) → 1 ≤ prefix_len is_hex bs → escape_len (120 ∷ bs) ≡ 1 + min 2 (prefix_len is_hex bs)
escape_hex bs h = if_true (nat_lt 0 (prefix_len is_hex bs)) _ _ (some_true (prefix_len is_hex bs) h)

octal_some : (ts : List ℕ) → 1 ≤ prefix_len is_octal ts → 1 ≤ octal_len ts
octal_some ts h = chosen (λ n. 1 ≤ n) (min 3 (prefix_len is_octal ts) == 3 && nat_le 52 (slice_index ts 0)) 2 (min 3 (prefix_len is_octal ts)) (omega arith) (omega arith)

-- an escape begins here, whatever follows
pub escape_begins : {u : List ℕ} {v : ℕ} → IsEscape u v → (r : List ℕ) → 1 ≤ escape_len (u ++ r)
escape_begins (letter {b = b} i) r = rw (if_true (is_escape_letter b) _ _ (letter_true i)) (omega arith)
escape_begins (octal_byte [] some most o value) r = absurd (omega arith)
escape_begins (octal_byte (d ∷ ds) some most o value) r =
    rw (escape_octal d (ds ++ r) (both (is_octal d) (list_all is_octal ds) o).0) (octal_some (d ∷ (ds ++ r)) (omega (arith, run_longer is_octal (d ∷ ds) r o)))
escape_begins (hex_byte ds some most h) r =
    let run = run_longer is_hex ds r h in
    rw (escape_hex (ds ++ r) (omega (arith, run))) (omega arith)

pub no_escape : (rest : List ℕ) → begins_escape rest ≡ false → BeginsNoEscape rest
no_escape rest f u v b cut is =
    let one = subst (λ (x : List ℕ). 1 ≤ escape_len x) (sym cut) (escape_begins is v) in
    omega (arith, one, none_is (escape_len rest) f)

pub octal_digit : (b : ℕ) → is_octal b ≡ true → digit_value b ≤ 7
octal_digit b h = grind (arith, common_steps)

small_digit : (b : ℕ) → is_octal b ≡ true → nat_le 52 b ≡ false → digit_value b ≤ 3
small_digit b h f = grind (arith, common_steps)

-- three octal digits of which the first is at most 3, or fewer of any kind, have a value of at most 255
octal_value : (ds : List ℕ) → length ds ≤ 3 → list_all is_octal ds ≡ true → (length ds ≡ 3 → nat_le 52 (slice_index ds 0) ≡ false) → value_of 8 ds ≤ 255
octal_value [] l o f = omega arith
octal_value (a ∷ []) l o f = let x = both (is_octal a) true o in omega (arith, octal_digit a x.0)
octal_value (a ∷ (b ∷ [])) l o f =
    let x = both (is_octal a) (is_octal b && true) o in let y = both (is_octal b) true x.1 in
    omega (arith, octal_digit a x.0, octal_digit b y.0)
octal_value (a ∷ (b ∷ (c ∷ []))) l o f =
    let x = both (is_octal a) (is_octal b && (is_octal c && true)) o in let y = both (is_octal b) (is_octal c && true) x.1 in let z = both (is_octal c) true y.1 in
    omega (arith, small_digit a x.0 (f refl), octal_digit b y.0, octal_digit c z.0)
octal_value (a ∷ (b ∷ (c ∷ (d ∷ ds)))) l o f = absurd (omega arith)

-- the escape that is found
pub record FoundEscape (ts : List ℕ) : Type 0 where
  pub front : List ℕ
  pub rest : List ℕ
  pub value : ℕ
  pub cut : ts ≡ front ++ rest
  pub len : escape_len ts ≡ length front
  pub is : IsEscape front value

found_letter : (b : ℕ) (bs : List ℕ) → is_escape_letter b ≡ true → FoundEscape (b ∷ bs)
found_letter b bs t =
    let l = letter_is b escapes t in
    record { front = b ∷ []; rest = bs; value = l.value; cut = refl; len = if_true (is_escape_letter b) _ _ t; is = letter l.is }

found_hex : (bs : List ℕ) → begins_escape (120 ∷ bs) ≡ true → FoundEscape (120 ∷ bs)
found_hex bs h =
    let n = prefix_len is_hex bs in
    let some : 1 ≤ n = by_bool (nat_lt 0 n) (some_is n) (λ f. absurd (not_both (begins_escape (120 ∷ bs)) h (ap (λ m. nat_lt 0 m) (if_false (nat_lt 0 n) (1 + min 2 n) 0 f)))) in
    let part = run_part is_hex (min 2 n) bs (omega arith) in
    record {
      front = 120 ∷ take (min 2 n) bs;
      rest = drop (min 2 n) bs;
      value = value_of 16 (take (min 2 n) bs);
      cut = ap (λ l. 120 ∷ l) (sym (take-append-drop (min 2 n) bs));
      len = escape_hex bs some ∙ omega (arith, part.1);
      is = hex_byte (take (min 2 n) bs) (omega (arith, part.1)) (omega (arith, part.1)) part.0;
    }

-- how many digits an octal escape takes, and why
record OctalLen (ts : List ℕ) (n : ℕ) : Type 0 where
  most : n ≤ 3
  within : n ≤ prefix_len is_octal ts
  small : n ≡ 3 → nat_le 52 (slice_index ts 0) ≡ false

octal_len_is : (ts : List ℕ) → OctalLen ts (octal_len ts)
octal_len_is ts =
    let m = min 3 (prefix_len is_octal ts) in
    choose_by (OctalLen ts) (m == 3 && nat_le 52 (slice_index ts 0)) 2 m
    (λ t. let three = equal m 3 (both (m == 3) (nat_le 52 (slice_index ts 0)) t).0 in record { most = omega arith; within = omega (arith, three); small = λ e. absurd (omega arith) })
    (λ f. record { most = omega arith; within = omega arith; small = λ e. by_bool (nat_le 52 (slice_index ts 0)) (λ t. absurd (not_both (m == 3 && nat_le 52 (slice_index ts 0)) (and_true (m == 3) (nat_le 52 (slice_index ts 0)) (equal_true m 3 e) t) f)) (λ g. g) })

first_taken : (n b : ℕ) (bs : List ℕ) → 1 ≤ n → slice_index (take n (b ∷ bs)) 0 ≡ b
first_taken zero b bs h = absurd (omega arith)
first_taken (suc n) b bs h = refl

found_octal : (b : ℕ) (bs : List ℕ) → is_escape_letter b ≡ false → (b == 120) ≡ false → begins_escape (b ∷ bs) ≡ true → FoundEscape (b ∷ bs)
found_octal b bs f x h =
    let ts = b ∷ bs in
    let n = octal_len ts in
    let is : escape_len ts ≡ n = if_false (is_escape_letter b) _ _ f ∙ if_false (b == 120) _ _ x in
    let some = some_is (escape_len ts) h in
    let l = octal_len_is ts in
    let part = run_part is_octal n ts l.within in
    record {
      front = take n ts;
      rest = drop n ts;
      value = value_of 8 (take n ts);
      cut = sym (take-append-drop n ts);
      len = is ∙ sym part.1;
      is = octal_byte (take n ts) (omega (arith, part.1, some, is)) (omega (arith, part.1, l.most)) part.0
          (octal_value (take n ts) (omega (arith, part.1, l.most)) part.0 (λ e. rw (first_taken n b bs (omega (arith, some, is))) (l.small (sym part.1 ∙ e))));
    }

pub escape_found : (ts : List ℕ) → begins_escape ts ≡ true → FoundEscape ts
escape_found [] h = absurd (let f : ⊥ = cc in f)
escape_found (b ∷ bs) h =
    by_bool (is_escape_letter b) (found_letter b bs)
    (λ f. by_bool (b == 120) (λ t. subst (λ (x : ℕ). FoundEscape (x ∷ bs)) (sym (equal b 120 t)) (found_hex bs (subst (λ (x : ℕ). begins_escape (x ∷ bs) ≡ true) (equal b 120 t) h))) (λ g. found_octal b bs f g h))

-- where no escape begins none is found
pub escape_none : (rest : List ℕ) → BeginsNoEscape rest → begins_escape rest ≡ false
escape_none rest none = by_bool (begins_escape rest) (λ t. let e = escape_found rest t in absurd (none e.front e.rest e.value e.cut e.is)) (λ f. f)

-- ---- the bytes of a string

hex_plain : (b : ℕ) → is_hex b ≡ true → (b ≢ quote) × (b ≢ line_feed) × (b ≢ backslash)
hex_plain b h = (λ e. not_both (is_hex quote) (subst (λ (x : ℕ). is_hex x ≡ true) e h) refl, λ e. not_both (is_hex line_feed) (subst (λ (x : ℕ). is_hex x ≡ true) e h) refl, λ e. not_both (is_hex backslash) (subst (λ (x : ℕ). is_hex x ≡ true) e h) refl)

string_plain : (b : ℕ) (bs : List ℕ) → b ≢ quote → b ≢ line_feed → b ≢ backslash → string_from false (b ∷ bs) ≡ onward 1 (string_from false bs)
string_plain b bs q l k = if_false (b == quote) _ _ (equal_false b quote q) ∙ if_false (b == line_feed) _ _ (equal_false b line_feed l) ∙ if_false (b == backslash) _ _ (equal_false b backslash k)

none : (e : StringEnd) → e ≡ onward 0 e
none (s.Closed n) = ap s.Closed (omega arith)
none s.Open = refl
none (s.WrongEscape n) = ap s.WrongEscape (omega arith)

-- digits are passed over one by one
string_digits : (ds r : List ℕ) → list_all is_hex ds ≡ true → string_from false (ds ++ r) ≡ onward (length ds) (string_from false r)
string_digits [] r h = none (string_from false r)
string_digits (d ∷ ds) r h =
    let s = both (is_hex d) (list_all is_hex ds) h in
    let q = hex_plain d s.0 in
    string_plain d (ds ++ r) q.0 q.1 q.2 ∙ ap (onward 1) (string_digits ds r s.1) ∙ farther 1 (length ds) (string_from false r) ∙ ap (λ n. onward n (string_from false r)) (omega arith)

string_escape : (bs : List ℕ) → begins_escape bs ≡ true → string_from false (backslash ∷ bs) ≡ onward 1 (string_from true bs)
string_escape bs h = if_true (begins_escape bs) _ _ h

-- an escape of one byte and digits is passed over
string_escaped : (b : ℕ) (ds r : List ℕ) → begins_escape (b ∷ (ds ++ r)) ≡ true → list_all is_hex ds ≡ true → string_from false (backslash ∷ (b ∷ (ds ++ r))) ≡ onward (length (backslash ∷ (b ∷ ds))) (string_from false r)
string_escaped b ds r h d =
    string_escape (b ∷ (ds ++ r)) h ∙ ap (λ e. onward 1 (onward 1 e)) (string_digits ds r d) ∙ ap (onward 1) (farther 1 (length ds) (string_from false r)) ∙ farther 1 (1 + length ds) (string_from false r) ∙ ap (λ n. onward n (string_from false r)) (omega arith)

pub plain_item : (end b : ℕ) → is_plain end b ≡ true → (b ≢ end) × (b ≢ backslash) × (b ≢ line_feed)
plain_item end b h = (grind (arith, common_steps), grind (arith, common_steps), grind (arith, common_steps))

string_item : {u : List ℕ} {v : ℕ} → IsItem quote u v → (r : List ℕ) → string_from false (u ++ r) ≡ onward (length u) (string_from false r)
string_item (plain b h) r = let q = plain_item quote b h in string_plain b r q.0 q.2 q.1
string_item (escape {u = u} d) r = go d (some_true (escape_len (u ++ r)) (escape_begins d r))
  where
    go : {u : List ℕ} {v : ℕ} → IsEscape u v → begins_escape (u ++ r) ≡ true → string_from false (backslash ∷ (u ++ r)) ≡ onward (length (backslash ∷ u)) (string_from false r)
    go (letter {b = b} i) h = string_escaped b [] r h refl
    go (octal_byte [] some most o value) h = absurd (omega arith)
    go (octal_byte (d ∷ ds) some most o value) h = string_escaped d ds r h (widen is_octal is_hex octal_hex ds (both (is_octal d) (list_all is_octal ds) o).1)
    go (hex_byte ds some most x) h = string_escaped 120 ds r h x

string_body : {u : List ℕ} → IsBody u → (r : List ℕ) → string_from false (u ++ r) ≡ onward (length u) (string_from false r)
string_body empty r = none (string_from false r)
string_body (item {u = u} {more = more} i m) r =
    ap (string_from false) (append_assoc u more r) ∙ string_item i (more ++ r) ∙ ap (onward (length u)) (string_body m r) ∙ farther (length u) (length more) (string_from false r) ∙ ap (λ n. onward n (string_from false r)) (sym (length-append u more))

-- ---- where a string ends

data StringIs (ts : List ℕ) : StringEnd → Type 0 where
  closed_is : (u rest : List ℕ) (n : ℕ) → ts ≡ u ++ quote ∷ rest → n ≡ length u + 1 → IsBody u → StringIs ts (s.Closed n)
  open_is : (u rest : List ℕ) → ts ≡ u ++ rest → IsBody u → EndsLine rest → StringIs ts s.Open
  wrong_is : (u rest : List ℕ) (n : ℕ) → ts ≡ u ++ backslash ∷ rest → n ≡ length u → IsBody u → BeginsNoEscape rest → StringIs ts (s.WrongEscape n)

before : {i : List ℕ} {v : ℕ} → IsItem quote i v → (ts : List ℕ) (e : StringEnd) → StringIs ts e → StringIs (i ++ ts) (onward (length i) e)
before {i} it ts e (closed_is u rest n cut len b) = closed_is (i ++ u) rest (length i + n) (ap (λ l. i ++ l) cut ∙ sym (append_assoc i u (quote ∷ rest))) (omega (arith, len, length-append i u)) (item it b)
before {i} it ts e (open_is u rest cut b end) = open_is (i ++ u) rest (ap (λ l. i ++ l) cut ∙ sym (append_assoc i u rest)) (item it b) end
before {i} it ts e (wrong_is u rest n cut len b wrong) = wrong_is (i ++ u) rest (length i + n) (ap (λ l. i ++ l) cut ∙ sym (append_assoc i u (backslash ∷ rest))) (omega (arith, len, length-append i u)) (item it b) wrong

-- an escape that is neither a letter nor hexadecimal begins with an octal digit
octal_head : (b : ℕ) (bs : List ℕ) → is_escape_letter b ≡ false → (b == 120) ≡ false → begins_escape (b ∷ bs) ≡ true → is_octal b ≡ true
octal_head b bs f x h =
    by_bool (is_octal b) (λ t. t)
    (λ o.
    let is : escape_len (b ∷ bs) ≡ octal_len (b ∷ bs) = if_false (is_escape_letter b) _ _ f ∙ if_false (b == 120) _ _ x in
    let none : prefix_len is_octal (b ∷ bs) ≡ 0 = if_false (is_octal b) _ _ o in
    absurd (omega (arith, some_is (escape_len (b ∷ bs)) h, is, (octal_len_is (b ∷ bs)).within, none)))

one_octal : (b : ℕ) → is_octal b ≡ true → IsEscape (b ∷ []) (value_of 8 (b ∷ []))
one_octal b h =
    let all : list_all is_octal (b ∷ []) ≡ true = and_true (is_octal b) true h refl in
    octal_byte (b ∷ []) (omega arith) (omega arith) all (octal_value (b ∷ []) (omega arith) all (λ e. absurd (omega arith)))

escaped_one : (b v : ℕ) (cs : List ℕ) → IsEscape (b ∷ []) v → StringIs cs (string_from false cs) → StringIs (backslash ∷ (b ∷ cs)) (onward 1 (onward 1 (string_from false cs)))
escaped_one b v cs e more = subst (StringIs (backslash ∷ (b ∷ cs))) (sym (farther 1 1 (string_from false cs))) (before (escape e) cs (string_from false cs) more)

escaped_hex : (n : ℕ) (cs : List ℕ) → length cs ≤ n → begins_escape (120 ∷ cs) ≡ true → ((ts : List ℕ) → length ts ≤ n → StringIs ts (string_from false ts)) → StringIs (backslash ∷ (120 ∷ cs)) (onward 1 (onward 1 (string_from false cs)))
escaped_hex n [] l h rec = absurd (let f : ⊥ = cc in f)
escaped_hex n (d ∷ ds) l h rec =
    by_bool (is_hex d)
    (λ t.
    let q = hex_plain d t in
    let all : list_all is_hex (d ∷ []) ≡ true = and_true (is_hex d) true t refl in
    let next = string_plain d ds q.0 q.1 q.2 in
    let steps = ap (λ e. onward 1 (onward 1 e)) next ∙ ap (onward 1) (farther 1 1 (string_from false ds)) ∙ farther 1 2 (string_from false ds) in
    subst (StringIs (backslash ∷ (120 ∷ (d ∷ ds)))) (sym steps) (before (escape (hex_byte (d ∷ []) (omega arith) (omega arith) all)) ds (string_from false ds) (rec ds (omega arith))))
    (λ f.
    let zero_len : prefix_len is_hex (d ∷ ds) ≡ 0 = if_false (is_hex d) _ _ f in
    absurd (not_both (begins_escape (120 ∷ (d ∷ ds))) h (ap (λ m. nat_lt 0 (if nat_lt 0 m then 1 + min 2 m else 0)) zero_len)))

escaped_is : (n : ℕ) (bs : List ℕ) → length bs ≤ suc n → begins_escape bs ≡ true → ((ts : List ℕ) → length ts ≤ n → StringIs ts (string_from false ts)) → StringIs (backslash ∷ bs) (onward 1 (string_from true bs))
escaped_is n [] l h rec = absurd (let f : ⊥ = cc in f)
escaped_is n (b ∷ cs) l h rec =
    by_bool (is_escape_letter b)
    (λ t. let e = letter_is b escapes t in escaped_one b e.value cs (letter e.is) (rec cs (omega arith)))
    (λ f. by_bool (b == 120)
    (λ t. let is = equal b 120 t in subst (λ (x : ℕ). StringIs (backslash ∷ (x ∷ cs)) (onward 1 (onward 1 (string_from false cs)))) (sym is) (escaped_hex n cs (omega arith) (subst (λ (x : ℕ). begins_escape (x ∷ cs) ≡ true) is h) rec))
    (λ g. escaped_one b (value_of 8 (b ∷ [])) cs (one_octal b (octal_head b cs f g h)) (rec cs (omega arith))))

line_end : (b : ℕ) (bs : List ℕ) → b ≡ line_feed → EndsLine (b ∷ bs)
line_end b bs e = subst (λ (x : ℕ). EndsLine (x ∷ bs)) (sym e) line_ends

plain_byte : (b : ℕ) → (b == quote) ≡ false → (b == line_feed) ≡ false → (b == backslash) ≡ false → is_plain quote b ≡ true
plain_byte b q l k = rw (q, k, l) refl

string_is : (fuel : ℕ) (ts : List ℕ) → length ts ≤ fuel → StringIs ts (string_from false ts)
string_is fuel [] l = open_is [] [] refl empty text_ends
string_is zero (b ∷ bs) l = absurd (omega arith)
string_is (suc n) (b ∷ bs) l =
    choose_by (StringIs (b ∷ bs)) (b == quote) _ _
    (λ t. closed_is [] bs 1 (ap (λ x. x ∷ bs) (equal b quote t)) refl empty)
    (λ q. choose_by (StringIs (b ∷ bs)) (b == line_feed) _ _
    (λ t. open_is [] (b ∷ bs) refl empty (line_end b bs (equal b line_feed t)))
    (λ f. choose_by (StringIs (b ∷ bs)) (b == backslash) _ _
    (λ t. subst (λ (x : ℕ). StringIs (x ∷ bs) (if begins_escape bs then onward 1 (string_from true bs) else s.WrongEscape 0)) (sym (equal b backslash t))
    (choose_by (StringIs (backslash ∷ bs)) (begins_escape bs) _ _
    (λ h. escaped_is n bs (omega arith) h (string_is n))
    (λ h. wrong_is [] bs 0 refl refl empty (no_escape bs h))))
    (λ k. before (plain b (plain_byte b q f k)) bs (string_from false bs) (string_is n bs (omega arith)))))

-- ---- what the others need of strings

pub string_covers : {u : List ℕ} → IsBody u → (rest : List ℕ) → Covers (p.Token k.Text) (quote ∷ (u ++ quote ∷ [])) (scan_string ((quote ∷ (u ++ quote ∷ [])) ++ rest))
string_covers {u} b rest =
    let e : string_from false ((u ++ quote ∷ []) ++ rest) ≡ onward (length u) (s.Closed 1) = ap (string_from false) (append_assoc u (quote ∷ []) rest) ∙ string_body b (quote ∷ rest) in
    subst (λ (x : StringEnd). Covers (p.Token k.Text) (quote ∷ (u ++ quote ∷ [])) (string_found x)) (sym e)
    (longer (p.Token k.Text) (length u + 1 + 1) (omega (arith, length-append u (quote ∷ []))) (λ _. refl))

pub string_open : {u rest : List ℕ} → IsBody u → EndsLine rest → scan_string (quote ∷ (u ++ rest)) ≡ flaw why.OpenString 0
string_open {u} {rest} b end = ap string_found (string_body b rest ∙ ap (onward (length u)) (ends end))
  where
    ends : {rest : List ℕ} → EndsLine rest → string_from false rest ≡ s.Open
    ends text_ends = refl
    ends line_ends = refl

pub string_wrong : {u rest : List ℕ} → IsBody u → BeginsNoEscape rest → scan_string (quote ∷ (u ++ backslash ∷ rest)) ≡ flaw why.BadEscape (length u + 1)
string_wrong {u} {rest} b none =
    ap string_found (string_body b (backslash ∷ rest) ∙ ap (onward (length u)) (if_false (begins_escape rest) _ _ (escape_none rest none))) ∙ ap (λ n. flaw why.BadEscape (n + 1)) (omega arith)

pub string_sound : (fresh : Bool) (bs : List ℕ) → IsSound fresh (quote ∷ bs) (scan_string (quote ∷ bs))
string_sound fresh bs = go (string_from false bs) (string_is (length bs) bs (omega arith))
  where
    go : (e : StringEnd) → StringIs bs e → IsSound fresh (quote ∷ bs) (string_found e)
    go e (closed_is u rest n cut len b) =
        piece (p.Token k.Text) (n + 1) (quote ∷ (u ++ quote ∷ [])) rest (ap (λ l. quote ∷ l) (cut ∙ sym (append_assoc u (quote ∷ []) rest))) (omega (arith, len, length-append u (quote ∷ []))) (token (string b))
    go e (open_is u rest cut b end) = fault why.OpenString 0 (subst (λ (l : List ℕ). IsPieceFault fresh (quote ∷ l) why.OpenString 0) (sym cut) (open_string b end))
    go e (wrong_is u rest n cut len b none) = fault why.BadEscape (n + 1) (subst (λ (m : ℕ). IsPieceFault fresh (quote ∷ bs) why.BadEscape (m + 1)) (sym len) (subst (λ (l : List ℕ). IsPieceFault fresh (quote ∷ l) why.BadEscape (length u + 1)) (sym cut) (bad_escape_in_string b none)))
