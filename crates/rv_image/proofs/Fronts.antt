-- Fronts of bytes that are read as all of them.
use Rattle.std.proofs.Common.{◌≡◌, ℕ, zero, suc, ◌+◌, ◌-◌, ◌*◌, ◌<◌, ◌≤◌, Bool, true, false, List, [], ◌∷◌, ◌++◌, length, take, drop, Result, Ok, Err, refl, sym, ap, ap₂, subst, ◌∙◌, arith, inl, inr}
use Rattle.std.specs.Prelude.{◌==◌, ◌||◌, cond, not, nat_lt}
use Rattle.std.specs.Int.{w32, from_le_bytes}
use Rattle.std.proofs.lemmas.Bool.{cases_lt, le-ltb, lt-ltb}
use Rattle.std.proofs.lemmas.List.{drop-take, take_all, length-take, length-take-le}
use Rattle.rv_isa.specs.declared.image.Contents.{Contents}
use Rattle.rv_isa.specs.declared.image.Row.{Row}
use Rattle.rv_isa.specs.declared.image.Item.{Item}
use Rattle.rv_isa.specs.declared.image.LineRow.{LineRow}
use Rattle.rv_isa.specs.Image.{are_rows}
use Rattle.rv_image.specs.declared.fault.ImageFault.{ImageFault}
use Rattle.rv_image.specs.declared.fault.ImageFault.TheVariants.{Short, Magic, Version, Count, Extra}
use Rattle.rv_image.specs.declared.header.Header.{Header}
use Rattle.rv_image.specs.Spelling.{magic, IsImage}
use Rattle.rv_image.specs.Reading.{number_at, listed, has_lines, header_len, header_from, header_of, has_counts, contents_from, contents_of, then_contents, reading, functions_begin, globals_begin, items_begin, code_begins, lines_begin, size_of, size_from, numbers_of, functions_of, items_of, lines_of}
use Rattle.rv_image.specs.Front.{enough_by, enough_of, Suffices}
use Rattle.rv_image.proofs.Again.{counts_hold, image_again}
use Rattle.rv_image.proofs.Found.{IsHeader, header_found, contents_found, then_found}

-- ---- numbers and lengths

take_take : {X : Type 0} (m n : ℕ) (xs : List X) → m ≤ n → take m (take n xs) ≡ take m xs
take_take zero n xs le = refl
take_take (suc m) zero xs le = absurd (omega (arith, le))
take_take (suc m) (suc n) [] le = refl
take_take {X = X} (suc m) (suc n) (x ∷ xs) le = ap (λ (l : List X). x ∷ l) (take_take m n xs (omega (arith, le)))

-- a number that stands in the front
number_front : (m k : ℕ) (bytes : List ℕ) → 4 * k + 4 ≤ m → number_at (take m bytes) k ≡ number_at bytes k
number_front m k bytes le =
    let e : m ≡ 4 * k + (m - 4 * k) = omega (arith, le) in
    let cut : drop (4 * k) (take m bytes) ≡ take (m - 4 * k) (drop (4 * k) bytes) = ap (λ (n : ℕ). drop (4 * k) (take n bytes)) e ∙ drop-take (4 * k) (m - 4 * k) bytes in
    ap (λ (v : List ℕ). from_le_bytes w32 (take 4 v)) cut ∙ ap (from_le_bytes w32) (take_take 4 (m - 4 * k) (drop (4 * k) bytes) (omega (arith, le)))

-- whether there are fewer bytes than some that the front has
short_front : (m b : ℕ) (bytes : List ℕ) → b ≤ m → nat_lt (length (take m bytes)) b ≡ nat_lt (length bytes) b
short_front m b bytes le =
    elim (cases_lt (length bytes) m) [
      | inl lt ↦ ap (λ (l : List ℕ). nat_lt (length l) b) (take_all m bytes (omega (arith, lt)))
      | inr ge ↦ le-ltb (length (take m bytes)) b (let l = length-take-le m bytes ge in omega (arith, l, le)) ∙ sym (le-ltb (length bytes) b (omega (arith, ge, le)))
    ]

-- whether there are more bytes than one fewer than the front has
long_front : (b : ℕ) (bytes : List ℕ) → nat_lt b (length (take (b + 1) bytes)) ≡ nat_lt b (length bytes)
long_front b bytes =
    elim (cases_lt (length bytes) (b + 1)) [
      | inl lt ↦ ap (λ (l : List ℕ). nat_lt b (length l)) (take_all (b + 1) bytes (omega (arith, lt)))
      | inr ge ↦ lt-ltb b (length (take (b + 1) bytes)) (let l = length-take-le (b + 1) bytes ge in omega (arith, l)) ∙ sym (lt-ltb b (length bytes) (omega (arith, ge)))
    ]

-- ---- the header

least_len : (v : ℕ) → 8 ≤ header_len v
least_len v = on (has_lines v)
  where
    on : (b : Bool) → 8 ≤ cond b 9 8
    on true = omega arith
    on false = omega arith

most_len : (v : ℕ) → header_len v ≤ 9
most_len v = on (has_lines v)
  where
    on : (b : Bool) → cond b 9 8 ≤ 9
    on true = omega arith
    on false = omega arith

-- a header by what is looked at
header_by : (few : Bool) (first version : ℕ) (short : Bool) → Header → Result Header ImageFault
header_by few first version short h =
    cond few (Err Short) (cond (not (first == magic)) (Err Magic) (cond (not ((version == 1) || (version == 2))) (Err Version) (cond short (Err Short) (cond (not (has_counts h)) (Err Count) (Ok h)))))

header_is : (bytes : List ℕ) → header_of bytes ≡ header_by (nat_lt (length bytes) 32) (number_at bytes 0) (number_at bytes 1) (nat_lt (length bytes) (4 * header_len (number_at bytes 1))) (header_from (number_at bytes))
unfolding header_of header_by
header_is bytes = refl

headers_same : (few few' : Bool) (first first' version version' : ℕ) (short short' : Bool) (h h' : Header) → few ≡ few' → first ≡ first' → version ≡ version' → short ≡ short' → h ≡ h' → header_by few first version short h ≡ header_by few' first' version' short' h'
headers_same few few' first first' version version' short short' h h' a b c d e = cc

from_same : (at to : ℕ → ℕ) → at 1 ≡ to 1 → at 2 ≡ to 2 → at 3 ≡ to 3 → at 4 ≡ to 4 → at 5 ≡ to 5 → at 6 ≡ to 6 → at 7 ≡ to 7 → at 8 ≡ to 8 → header_from at ≡ header_from to
from_same at to e1 e2 e3 e4 e5 e6 e7 e8 = rw (e1, e2, e3, e4, e5, e6, e7, e8) refl

module _ (m : ℕ) (bytes : List ℕ) (le : 36 ≤ m) where
  at_is : (k : ℕ) → k ≤ 8 → number_at (take m bytes) k ≡ number_at bytes k
  at_is k small = number_front m k bytes (omega (arith, le, small))

  short_same : nat_lt (length (take m bytes)) (4 * header_len (number_at (take m bytes) 1)) ≡ nat_lt (length bytes) (4 * header_len (number_at bytes 1))
  short_same =
      ap (λ (v : ℕ). nat_lt (length (take m bytes)) (4 * header_len v)) (at_is 1 (omega arith))
      ∙ short_front m (4 * header_len (number_at bytes 1)) bytes (let l = most_len (number_at bytes 1) in omega (arith, l, le))

  header_front : header_of (take m bytes) ≡ header_of bytes
  header_front =
      header_is (take m bytes)
      ∙ headers_same _ _ _ _ _ _ _ _ _ _ (short_front m 32 bytes (omega (arith, le))) (at_is 0 (omega arith)) (at_is 1 (omega arith)) short_same
      (from_same (number_at (take m bytes)) (number_at bytes) (at_is 1 (omega arith)) (at_is 2 (omega arith)) (at_is 3 (omega arith)) (at_is 4 (omega arith)) (at_is 5 (omega arith)) (at_is 6 (omega arith)) (at_is 7 (omega arith)) (at_is 8 (omega arith)))
      ∙ sym (header_is bytes)

-- ---- the rows

listed_same : {X : Type 0} (f g : ℕ → X) (n : ℕ) → ((k : ℕ) → k < n → f k ≡ g k) → listed f n ≡ listed g n
listed_same f g zero h = refl
listed_same {X = X} f g (suc n) h = ap₂ (λ (l : List X) (x : X). l ++ x ∷ []) (listed_same f g n (λ k lt. h k (omega (arith, lt)))) (h n (omega arith))

row_same : (a b c a' b' c' : ℕ) → a ≡ a' → b ≡ b' → c ≡ c' → (let r : Row = record { entry = a; slots = b; words = c } in r) ≡ record { entry = a'; slots = b'; words = c' }
row_same a b c a' b' c' e f g = rw (e, f, g) refl

item_same : (a b c d a' b' c' d' : ℕ) → a ≡ a' → b ≡ b' → c ≡ c' → d ≡ d' → (let i : Item = record { global = a; offset = b; size = size_from c; value = d } in i) ≡ record { global = a'; offset = b'; size = size_from c'; value = d' }
item_same a b c d a' b' c' d' e f g h = rw (e, f, g, h) refl

line_same : (a b a' b' : ℕ) → a ≡ a' → b ≡ b' → (let l : LineRow = record { word = a; line = b } in l) ≡ record { word = a'; line = b' }
line_same a b a' b' e f = rw (e, f) refl

made_same : (p m : ℕ) (c c' : List ℕ) (f f' : List Row) (g g' : List ℕ) (i i' : List Item) (l l' : List LineRow) → c ≡ c' → f ≡ f' → g ≡ g' → i ≡ i' → l ≡ l'
    → (let x : Contents = record { code = c; functions = f; globals = g; items = i; privates = p; main = m; lines = l } in x) ≡ record { code = c'; functions = f'; globals = g'; items = i'; privates = p; main = m; lines = l' }
made_same p m c c' f f' g g' i i' l l' a b d e h = rw (a, b, d, e, h) refl

contents_same : (at to : ℕ → ℕ) (h : Header) → ((k : ℕ) → k < size_of h → at k ≡ to k) → contents_from at h ≡ contents_from to h
contents_same at to h same =
    made_same h.privates h.main _ _ _ _ _ _ _ _ _ _
    (listed_same _ _ h.code (λ k lt. same (code_begins h + k) (omega (arith, lt))))
    (listed_same _ _ h.functions (λ k lt. row_same _ _ _ _ _ _ (same (functions_begin h + 3 * k) (omega (arith, lt))) (same (functions_begin h + 3 * k + 1) (omega (arith, lt))) (same (functions_begin h + 3 * k + 2) (omega (arith, lt)))))
    (listed_same _ _ h.globals (λ k lt. same (globals_begin h + k) (omega (arith, lt))))
    (listed_same _ _ h.items (λ k lt. item_same _ _ _ _ _ _ _ _ (same (items_begin h + 4 * k) (omega (arith, lt))) (same (items_begin h + 4 * k + 1) (omega (arith, lt))) (same (items_begin h + 4 * k + 2) (omega (arith, lt))) (same (items_begin h + 4 * k + 3) (omega (arith, lt)))))
    (listed_same _ _ h.lines (λ k lt. line_same _ _ _ _ (same (lines_begin h + 2 * k) (omega (arith, lt))) (same (lines_begin h + 2 * k + 1) (omega (arith, lt)))))

-- contents by what is looked at
contents_by : (short : Bool) → Contents → (long : Bool) → Result Contents ImageFault
contents_by short made long = cond short (Err Short) (cond (not (are_rows made)) (Err Count) (cond long (Err Extra) (Ok made)))

contents_is : (bytes : List ℕ) (h : Header) → contents_of bytes h ≡ contents_by (nat_lt (length bytes) (4 * size_of h)) (contents_from (number_at bytes) h) (nat_lt (4 * size_of h) (length bytes))
unfolding contents_of contents_by
contents_is bytes h = refl

both_same : (short short' : Bool) (made made' : Contents) (long long' : Bool) → short ≡ short' → made ≡ made' → long ≡ long' → contents_by short made long ≡ contents_by short' made' long'
both_same short short' made made' long long' a b c = cc

contents_front : (bytes : List ℕ) (h : Header) → contents_of (take (4 * size_of h + 1) bytes) h ≡ contents_of bytes h
contents_front bytes h =
    contents_is (take (4 * size_of h + 1) bytes) h
    ∙ both_same _ _ _ _ _ _ (short_front (4 * size_of h + 1) (4 * size_of h) bytes (omega arith))
    (contents_same (number_at (take (4 * size_of h + 1) bytes)) (number_at bytes) h (λ k lt. number_front (4 * size_of h + 1) k bytes (omega (arith, lt))))
    (long_front (4 * size_of h) bytes)
    ∙ sym (contents_is bytes h)

-- ---- all of it

least_by : (bytes : List ℕ) (r : Result Header ImageFault) → header_of bytes ≡ r → 36 ≤ enough_by r
least_by bytes (Err fault) e = omega arith
least_by bytes (Ok h) e =
    let c = counts_hold h.code h.functions h.globals h.items h.privates h.main h.lines (header_found bytes h e).counts in
    let main = c.main in
    let len = least_len h.version in
    omega (arith, main, len)

read_by : (bytes : List ℕ) (r : Result Header ImageFault) → header_of bytes ≡ r → 36 ≤ enough_by r → reading (take (enough_by r) bytes) ≡ reading bytes
read_by bytes (Err fault) e least = ap (then_contents (take 36 bytes)) (header_front 36 bytes least ∙ e) ∙ sym (ap (then_contents bytes) e)
read_by bytes (Ok h) e least =
    ap (then_contents (take (4 * size_of h + 1) bytes)) (header_front (4 * size_of h + 1) bytes least ∙ e) ∙ contents_front bytes h ∙ sym (ap (then_contents bytes) e)

whole_by : (bytes : List ℕ) (c : Contents) → reading bytes ≡ Ok c → take (enough_of bytes) bytes ≡ bytes
whole_by bytes c e =
    let t = then_found bytes (header_of bytes) c e in
    let size = (contents_found bytes t.0 c t.2).size in
    let n : enough_of bytes ≡ 4 * size_of t.0 + 1 = ap enough_by t.1 in
    take_all (enough_of bytes) bytes (omega (arith, size, n))

pub suffices : (text : List ℕ) → Suffices text
suffices text =
    let least = least_by text (header_of text) refl in
    let read = read_by text (header_of text) refl least in
    record {
      least = least;
      told = ap enough_by (header_front 36 text (omega arith));
      read = read;
      whole = λ c is. whole_by text c (sym read ∙ image_again (take (enough_of text) text) c is);
    }
