-- The bytes that strings stand for.
use Rattle.std.proofs.Common.{◌≡◌, ◌≢◌, ℕ, zero, suc, ◌+◌, ◌≤◌, ◌==◌, nat_le, min, Bool, true, false, ◌&&◌, List, [], ◌∷◌, ◌++◌, length, take, drop, refl, sym, ap, ap₂, ◌∙◌, subst, arith, append_assoc, length-append}
use Rattle.std.proofs.lemmas.Grind.{common_steps}
use Rattle.std.proofs.lemmas.List.{append-nil, drop-drop, drop_all}
use Rattle.std.specs.List.{list_all, prefix_len, take_while}
use Rattle.al_lex.specs.Bytes.{quote, backslash, is_octal, is_hex, is_plain, digit_value, value_of}
use Rattle.al_lex.specs.Pieces.{IsEscape, letter, octal_byte, hex_byte, IsItem, plain, escape, IsBody, empty, item}
use Rattle.al_lex.specs.Scan.{is_escape_letter, octal_len, escape_len, escape_byte, small_byte}
use Rattle.al_lex.specs.Values.{IsLongestItem, StandsFor, closes, item as item_and_more, IsString, text_from, text_of}
use Rattle.al_lex.proofs.Runs.{both, and_true, run_longer, run_front, by_bool, chosen, widen, if_true, if_false, equal, equal_true, equal_false, some_true}
use Rattle.al_lex.proofs.Tables.{not_both}
use Rattle.al_lex.proofs.Steps.{octal_hex}
use Rattle.al_lex.proofs.Strings.{FoundEscape, escape_found, escape_begins, escape_octal, escape_hex, letter_true, octal_first, octal_not_x, plain_item}
use Rattle.al_lex.proofs.Constants.{letter_is_byte, small_is, hex_small}

-- ---- the computation, step by step

pub skip : (n : ℕ) (bs : List ℕ) → text_from n bs ≡ text_from 0 (drop n bs)
unfolding text_from
skip zero bs = refl
skip (suc n) [] = refl
skip (suc n) (b ∷ bs) = skip n bs

pub from_quote : (bs : List ℕ) → text_from 0 (quote ∷ bs) ≡ []
unfolding text_from
from_quote bs = refl

pub from_plain : (b : ℕ) (bs : List ℕ) → b ≢ quote → b ≢ backslash → text_from 0 (b ∷ bs) ≡ b ∷ text_from 0 bs
unfolding text_from
from_plain b bs q k = rw (equal_false b quote q, equal_false b backslash k) refl

pub from_escape : (bs : List ℕ) → text_from 0 (backslash ∷ bs) ≡ escape_byte (take (escape_len bs) bs) ∷ text_from 0 (drop (escape_len bs) bs)
unfolding text_from
from_escape bs = ap (λ l. escape_byte (take (escape_len bs) bs) ∷ l) (skip (escape_len bs) bs)

-- ---- escapes

octal_high : (d : ℕ) → is_octal d ≡ true → nat_le 52 d ≡ true → 4 ≤ digit_value d
octal_high d h f = grind (arith, common_steps)

three_small : (a b c : ℕ) → is_octal a ≡ true → value_of 8 (a ∷ (b ∷ (c ∷ []))) ≤ 255 → nat_le 52 a ≡ false
three_small a b c o h = by_bool (nat_le 52 a) (λ t. absurd (omega (arith, octal_high a o t, h))) (λ f. f)

-- an octal escape takes no more digits than are found
octal_longest : (ds r : List ℕ) → length ds ≤ 3 → list_all is_octal ds ≡ true → value_of 8 ds ≤ 255 → length ds ≤ octal_len (ds ++ r)
octal_longest [] r m o v = omega arith
octal_longest (a ∷ []) r m o v =
    let run = run_longer is_octal (a ∷ []) r o in
    chosen (λ n. 1 ≤ n) (min 3 (prefix_len is_octal (a ∷ r)) == 3 && nat_le 52 a) 2 (min 3 (prefix_len is_octal (a ∷ r))) (omega arith) (omega (arith, run))
octal_longest (a ∷ (b ∷ [])) r m o v =
    let run = run_longer is_octal (a ∷ (b ∷ [])) r o in
    chosen (λ n. 2 ≤ n) (min 3 (prefix_len is_octal (a ∷ (b ∷ r))) == 3 && nat_le 52 a) 2 (min 3 (prefix_len is_octal (a ∷ (b ∷ r)))) (omega arith) (omega (arith, run))
octal_longest (a ∷ (b ∷ (c ∷ []))) r m o v =
    let run = run_longer is_octal (a ∷ (b ∷ (c ∷ []))) r o in
    let n = min 3 (prefix_len is_octal (a ∷ (b ∷ (c ∷ r)))) in
    let low = three_small a b c (both (is_octal a) (is_octal b && (is_octal c && true)) o).0 v in
    let off : (n == 3 && nat_le 52 a) ≡ false = by_bool (n == 3) (λ t. rw (t, low) refl) (λ f. rw f refl) in
    rw (if_false (n == 3 && nat_le 52 a) 2 n off) (omega (arith, run))
octal_longest (a ∷ (b ∷ (c ∷ (d ∷ ds)))) r m o v = absurd (omega arith)

-- no escape is longer than the one that is found
pub escape_longest : {u : List ℕ} {v : ℕ} → IsEscape u v → (r : List ℕ) → length u ≤ escape_len (u ++ r)
escape_longest (letter {b = b} i) r = rw (if_true (is_escape_letter b) _ _ (letter_true i)) (omega arith)
escape_longest (octal_byte [] some most o value) r = absurd (omega arith)
escape_longest (octal_byte (d ∷ ds) some most o value) r =
    rw (escape_octal d (ds ++ r) (both (is_octal d) (list_all is_octal ds) o).0) (octal_longest (d ∷ ds) r most o value)
escape_longest (hex_byte ds some most h) r =
    let run = run_longer is_hex ds r h in
    rw (escape_hex (ds ++ r) (omega (arith, run))) (omega (arith, run))

whole_run : (p : ℕ → Bool) (u : List ℕ) → list_all p u ≡ true → take_while p u ≡ u
whole_run p u h =
    let run = run_longer p u [] h in
    let most = Rattle.al_lex.proofs.Runs.run_within p (u ++ []) in
    let cut = ap length (Rattle.al_lex.proofs.Runs.cut_run p (u ++ [])) in
    let e : length u ≡ prefix_len p (u ++ []) = omega (arith, run, most, cut, length-append (take_while p (u ++ [])) (drop (prefix_len p (u ++ [])) (u ++ [])), length-append u []) in
    ap (take_while p) (sym (append-nil u)) ∙ run_front p u [] e

-- the byte of an escape
pub escape_value : {u : List ℕ} {v : ℕ} → IsEscape u v → escape_byte u ≡ v
escape_value (letter {b = b} i) = if_true (is_escape_letter b) _ _ (letter_true i) ∙ letter_is_byte i
escape_value (octal_byte [] some most o value) = absurd (omega arith)
escape_value (octal_byte (d ∷ ds) some most o value) =
    let first = (both (is_octal d) (list_all is_octal ds) o).0 in
    if_false (is_escape_letter d) _ _ (octal_first d first) ∙ if_false (d == 120) _ _ (octal_not_x d first)
    ∙ ap (λ l. small_byte (value_of 8 l)) (whole_run is_octal (d ∷ ds) o) ∙ small_is (value_of 8 (d ∷ ds)) (omega (arith, value))
escape_value (hex_byte ds some most h) = ap (λ l. small_byte (value_of 16 l)) (whole_run is_hex ds h) ∙ small_is (value_of 16 ds) (hex_small ds most h)

-- ---- from the relation to the computation

item_value : (u rest : List ℕ) (v : ℕ) → IsItem quote u v → ((w r : List ℕ) (x : ℕ) → u ++ rest ≡ w ++ r → IsItem quote w x → length w ≤ length u) → text_from 0 (u ++ rest) ≡ v ∷ text_from 0 rest
item_value u rest v (plain b h) longest = let q = plain_item quote b h in from_plain b rest q.0 q.1
item_value u rest v (escape {u = w} d) longest =
    let f = escape_found (w ++ rest) (some_true (escape_len (w ++ rest)) (escape_begins d rest)) in
    let most = longest (backslash ∷ f.front) f.rest f.value (ap (λ l. backslash ∷ l) f.cut) (escape f.is) in
    let n : escape_len (w ++ rest) ≡ length w = omega (arith, most, f.len, escape_longest d rest) in
    from_escape (w ++ rest)
    ∙ ap₂ (λ a l. escape_byte a ∷ text_from 0 l) (ap (λ m. take m (w ++ rest)) n ∙ front w rest) (ap (λ m. drop m (w ++ rest)) n ∙ back w rest)
    ∙ ap (λ b. b ∷ text_from 0 rest) (escape_value d)
  where
    front : (w rest : List ℕ) → take (length w) (w ++ rest) ≡ w
    front [] rest = refl
    front (b ∷ w) rest = ap (λ l. b ∷ l) (front w rest)

    back : (w rest : List ℕ) → drop (length w) (w ++ rest) ≡ rest
    back [] rest = refl
    back (b ∷ w) rest = back w rest

stands_value : {inside vs : List ℕ} → StandsFor inside vs → text_from 0 inside ≡ vs
stands_value closes = from_quote []
stands_value (item_and_more {u = u} {rest = rest} {vs = vs} {v = v} i s) = item_value u rest v i.is i.longest ∙ ap (λ l. v ∷ l) (stands_value s)

pub string_value : (bytes vs : List ℕ) → IsString bytes vs → text_of bytes ≡ vs
string_value bytes vs s = ap (λ l. text_from 0 (drop 1 l)) s.is ∙ stands_value s.stands

-- ---- from the computation to the relation

-- the digits of an escape that is longer than another
tail_hex : {f : List ℕ} {v : ℕ} → IsEscape f v → (b : ℕ) (w ds : List ℕ) → f ≡ (b ∷ w) ++ ds → list_all is_hex ds ≡ true
tail_hex (letter {b = c} i) b w ds e =
    let none : w ++ ds ≡ [] = cc in
    let len = ap length none in
    nothing ds (omega (arith, len, length-append w ds))
  where
    nothing : (ds : List ℕ) → length ds ≡ 0 → list_all is_hex ds ≡ true
    nothing [] l = refl
    nothing (d ∷ ds) l = absurd (omega arith)
tail_hex (octal_byte us some most o value) b w ds e = back_all (b ∷ w) ds (ap (list_all is_hex) (sym e) ∙ widen is_octal is_hex octal_hex us o)
  where
    back_all : (w ds : List ℕ) → list_all is_hex (w ++ ds) ≡ true → list_all is_hex ds ≡ true
    back_all [] ds h = h
    back_all (c ∷ w) ds h = back_all w ds (both (is_hex c) (list_all is_hex (w ++ ds)) h).1
tail_hex (hex_byte us some most h) b w ds e = let rest : us ≡ w ++ ds = cc in back_all w ds (ap (list_all is_hex) (sym rest) ∙ h)
  where
    back_all : (w ds : List ℕ) → list_all is_hex (w ++ ds) ≡ true → list_all is_hex ds ≡ true
    back_all [] ds h = h
    back_all (c ∷ w) ds h = back_all w ds (both (is_hex c) (list_all is_hex (w ++ ds)) h).1

-- what is left of a string's inside
record Left (size : ℕ) (r : List ℕ) : Type 0 where
  body : List ℕ
  is : r ≡ body ++ quote ∷ []
  good : IsBody body
  small : length body ≤ size

hex_not : (b x : ℕ) → is_hex b ≡ true → is_hex x ≡ false → b ≢ x
hex_not b x h f e = not_both (is_hex x) (subst (λ (y : ℕ). is_hex y ≡ true) e h) f

without : (ds : List ℕ) {u : List ℕ} → IsBody u → (r : List ℕ) → list_all is_hex ds ≡ true → u ++ quote ∷ [] ≡ ds ++ r → Left (length u) r
without [] {u} b r h e = record { body = u; is = sym e; good = b; small = omega arith }
without (d ∷ ds) empty r h e = absurd (hex_not d quote (both (is_hex d) (list_all is_hex ds) h).0 refl (let q : d ≡ quote = cc in q))
without (d ∷ ds) (item {more = more} (plain b p) m) r h e =
    let t : more ++ quote ∷ [] ≡ ds ++ r = cc in
    let l = without ds m r (both (is_hex d) (list_all is_hex ds) h).1 t in
    record { body = l.body; is = l.is; good = l.good; small = omega (arith, l.small) }
without (d ∷ ds) (item (escape w) m) r h e = absurd (hex_not d backslash (both (is_hex d) (list_all is_hex ds) h).0 refl (let q : d ≡ backslash = cc in q))

-- the longest item at a byte that is plain, and at an escape
longest_plain : (b : ℕ) (rest : List ℕ) → is_plain quote b ≡ true → IsLongestItem quote ((b ∷ []) ++ rest) (b ∷ []) b
longest_plain b rest h = record { rest = rest; cut = refl; is = plain b h; longest = only }
  where
    only : (w r : List ℕ) (x : ℕ) → b ∷ rest ≡ w ++ r → IsItem quote w x → length w ≤ 1
    only w r x e (plain c p) = omega arith
    only w r x e (escape d) = absurd ((plain_item quote b h).1 (let q : b ≡ backslash = cc in q))

longest_escape : (ts : List ℕ) → (f : FoundEscape ts) → IsLongestItem quote ((backslash ∷ f.front) ++ f.rest) (backslash ∷ f.front) f.value
longest_escape ts f = record { rest = f.rest; cut = refl; is = escape f.is; longest = only }
  where
    only : (w r : List ℕ) (x : ℕ) → backslash ∷ (f.front ++ f.rest) ≡ w ++ r → IsItem quote w x → length w ≤ length (backslash ∷ f.front)
    only w r x e (plain c p) = omega arith
    only w r x e (escape {u = u} d) =
        let t : f.front ++ f.rest ≡ u ++ r = cc in
        let long = escape_longest d r in
        let same : escape_len (u ++ r) ≡ length f.front = ap escape_len (sym t ∙ sym f.cut) ∙ f.len in
        omega (arith, long, same)

escape_some : {u : List ℕ} {v : ℕ} → IsEscape u v → 1 ≤ length u
escape_some (letter i) = omega arith
escape_some (octal_byte ds some most o value) = some
escape_some (hex_byte ds some most h) = omega arith

-- two fronts of one text, of which the first is no longer
record Longer (w f rest r : List ℕ) : Type 0 where
  tail : List ℕ
  is : f ≡ w ++ tail
  rests : rest ≡ tail ++ r

longer_front : (w f rest r : List ℕ) → length w ≤ length f → w ++ rest ≡ f ++ r → Longer w f rest r
longer_front [] f rest r l e = record { tail = f; is = refl; rests = e }
longer_front (b ∷ w) [] rest r l e = absurd (omega arith)
longer_front (b ∷ w) (c ∷ f) rest r l e =
    let h : b ≡ c = cc in let t : w ++ rest ≡ f ++ r = cc in
    let m = longer_front w f rest r (omega arith) t in
    record { tail = m.tail; is = ap₂ (λ x y. x ∷ y) (sym h) m.is; rests = m.rests }

body_stands : (fuel : ℕ) {u : List ℕ} → IsBody u → length u ≤ fuel → StandsFor (u ++ quote ∷ []) (text_from 0 (u ++ quote ∷ []))
body_stands fuel empty l = subst (StandsFor (quote ∷ [])) (sym (from_quote [])) closes
body_stands zero (item (plain b h) m) l = absurd (omega arith)
body_stands zero (item (escape d) m) l = absurd (omega arith)
body_stands (suc n) (item {more = more} (plain b h) m) l =
    let q = plain_item quote b h in
    subst (StandsFor (b ∷ (more ++ quote ∷ []))) (sym (from_plain b (more ++ quote ∷ []) q.0 q.1)) (item_and_more {u = b ∷ []} (longest_plain b (more ++ quote ∷ []) h) (body_stands n m (omega arith)))
body_stands (suc n) (item {more = more} (escape {u = w} d) m) l = go w d (escape_some d) l (λ u b k. body_stands n {u = u} b k)
  where
    go : (w : List ℕ) {v : ℕ} → IsEscape w v → 1 ≤ length w → length ((backslash ∷ w) ++ more) ≤ suc n → ((u : List ℕ) → IsBody u → length u ≤ n → StandsFor (u ++ quote ∷ []) (text_from 0 (u ++ quote ∷ []))) → StandsFor (((backslash ∷ w) ++ more) ++ quote ∷ []) (text_from 0 (((backslash ∷ w) ++ more) ++ quote ∷ []))
    go [] d s l rec = absurd (omega arith)
    go (b ∷ w) d s l rec =
        let R = more ++ quote ∷ [] in
        let ts = (b ∷ w) ++ R in
        let f = escape_found ts (some_true (escape_len ts) (escape_begins d R)) in
        let t = longer_front (b ∷ w) f.front R f.rest (omega (arith, escape_longest d R, f.len)) f.cut in
        let left = without t.tail m f.rest (tail_hex f.is b w t.tail t.is) t.rests in
        let inner = rec left.body left.good (omega (arith, left.small, length-append w more)) in
        let whole = item_and_more {u = backslash ∷ f.front} (longest_escape ts f) (subst (λ (x : List ℕ). StandsFor x (text_from 0 x)) (sym left.is) inner) in
        let text : (backslash ∷ f.front) ++ f.rest ≡ ((backslash ∷ (b ∷ w)) ++ more) ++ quote ∷ [] = ap (λ x. backslash ∷ x) (sym f.cut ∙ sym (append_assoc (b ∷ w) more (quote ∷ []))) in
        let i = longest_escape ts f in
        let values : f.value ∷ text_from 0 f.rest ≡ text_from 0 ((backslash ∷ f.front) ++ f.rest) = sym (item_value (backslash ∷ f.front) f.rest f.value i.is i.longest) in
        subst (λ (x : List ℕ). StandsFor x (text_from 0 x)) text (subst (StandsFor ((backslash ∷ f.front) ++ f.rest)) values whole)

-- what stands between the quotes of a string stands for what is computed
pub body_string : {u : List ℕ} → IsBody u → IsString (quote ∷ (u ++ quote ∷ [])) (text_of (quote ∷ (u ++ quote ∷ [])))
body_string {u} b = record { inside = u ++ quote ∷ []; is = refl; stands = body_stands (length u) b (omega arith) }

-- ---- the loop over a string

pub at_end : (ts : List ℕ) (i : ℕ) (found : List ℕ) → length ts ≤ i → text_of ts ≡ found ++ text_from 0 (drop i ts) → found ≡ text_of ts
unfolding text_from
at_end ts i found h e = sym (e ∙ ap (λ l. found ++ text_from 0 l) (drop_all i ts h) ∙ append-nil found)

pub at_quote : (ts : List ℕ) (i b : ℕ) (found : List ℕ) → drop i ts ≡ b ∷ drop (i + 1) ts → b ≡ quote → text_of ts ≡ found ++ text_from 0 (drop i ts) → found ≡ text_of ts
at_quote ts i b found d q e =
    sym (e ∙ ap (λ l. found ++ text_from 0 l) (d ∙ ap (λ x. x ∷ drop (i + 1) ts) q) ∙ ap (λ l. found ++ l) (from_quote (drop (i + 1) ts)) ∙ append-nil found)

pub at_plain : (ts : List ℕ) (i b : ℕ) (found : List ℕ) → drop i ts ≡ b ∷ drop (i + 1) ts → b ≢ quote → b ≢ backslash → text_of ts ≡ found ++ text_from 0 (drop i ts) → text_of ts ≡ (found ++ b ∷ []) ++ text_from 0 (drop (i + 1) ts)
at_plain ts i b found d q k e =
    e ∙ ap (λ l. found ++ text_from 0 l) d ∙ ap (λ l. found ++ l) (from_plain b (drop (i + 1) ts) q k) ∙ sym (append_assoc found (b ∷ []) (text_from 0 (drop (i + 1) ts)))

pub at_escape : (ts : List ℕ) (i b n v : ℕ) (found : List ℕ) → drop i ts ≡ b ∷ drop (i + 1) ts → b ≡ backslash → n ≡ escape_len (drop (i + 1) ts) → v ≡ escape_byte (take n (drop (i + 1) ts)) → text_of ts ≡ found ++ text_from 0 (drop i ts)
    → text_of ts ≡ (found ++ v ∷ []) ++ text_from 0 (drop (i + 1 + n) ts)
at_escape ts i b n v found d k len value e =
    let bs = drop (i + 1) ts in
    let head = value ∙ ap (λ m. escape_byte (take m bs)) len in
    let tail : drop (escape_len bs) bs ≡ drop (i + 1 + n) ts = ap (λ m. drop m bs) (sym len) ∙ drop-drop n (i + 1) ts in
    e ∙ ap (λ l. found ++ text_from 0 l) (d ∙ ap (λ x. x ∷ bs) k)
    ∙ ap (λ l. found ++ l) (from_escape bs ∙ ap₂ (λ x l. x ∷ text_from 0 l) (sym head) tail)
    ∙ sym (append_assoc found (v ∷ []) (text_from 0 (drop (i + 1 + n) ts)))
