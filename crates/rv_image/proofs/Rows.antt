-- Rows as numbers one after the other, and the rows that stand at places.
use Rattle.std.proofs.Common.{◌≡◌, ℕ, zero, suc, ◌+◌, ◌*◌, ◌<◌, Bool, true, ◌||◌, List, [], ◌∷◌, ◌++◌, length, get_or, refl, sym, ap, ap₂, ◌∙◌, arith, inl, inr}
use Rattle.std.specs.Prelude.{◌==◌, nat_lt}
use Rattle.std.specs.List.{flat_map, list_all}
use Rattle.std.proofs.lemmas.Bool.{cases_Bool, cases_eq, and_parts, or_cases, eqb-true, cond-true, cond-false, lt-ltb}
use Rattle.std.proofs.lemmas.List.{append-nil, length-append, get_or_append_left, get_or-append-add}
use Rattle.std.proofs.lemmas.List.Concat.{flat_map-append}
use Rattle.std.proofs.lemmas.List.Folds.{list_all-append}
use Rattle.rv_isa.specs.declared.image.Row.{Row}
use Rattle.rv_isa.specs.declared.image.Item.{Item}
use Rattle.rv_isa.specs.declared.image.LineRow.{LineRow}
use Rattle.rv_image.specs.Spelling.{function_row, item_row, line_row}
use Rattle.rv_image.specs.Reading.{listed, functions_of, items_of, lines_of, size_from}
use Rattle.rv_image.proofs.Lists.{listed-add, listed_all}

-- ---- any rows of one width

-- rows made of what stands at their places are what stands there
chunks : {X : Type 0} (row : X → List ℕ) (w : ℕ) (g : ℕ → ℕ) (f : ℕ → X) (count : ℕ) → ((k : ℕ) → k < count → row (f k) ≡ listed (λ j. g (w * k + j)) w)
    → flat_map row (listed f count) ≡ listed g (w * count)
chunks row w g f zero h = let e : 0 ≡ w * 0 = omega arith in ap (listed g) e
chunks row w g f (suc n) h =
    let last : flat_map row (f n ∷ []) ≡ listed (λ j. g (w * n + j)) w = append-nil (row (f n)) ∙ h n (omega arith) in
    let e : w * n + w ≡ w * suc n = omega arith in
    flat_map-append row (listed f n) (f n ∷ [])
    ∙ ap₂ (λ (u v : List ℕ). u ++ v) (chunks row w g f n (λ k lt. h k (omega arith))) last
    ∙ sym (listed-add g (w * n) w) ∙ ap (listed g) e

pub length-rows : {X : Type 0} (row : X → List ℕ) (w : ℕ) → ((x : X) → length (row x) ≡ w) → (xs : List X) → length (flat_map row xs) ≡ w * length xs
length-rows row w h [] = omega arith
length-rows row w h (x ∷ xs) = omega (arith, length-append (row x) (flat_map row xs), h x, length-rows row w h xs)

-- number j of row k
row_at : {X : Type 0} (row : X → List ℕ) (w : ℕ) → ((x : X) → length (row x) ≡ w) → (xs : List X) (k j : ℕ) (d : X) → k < length xs → j < w
    → get_or (flat_map row xs) (w * k + j) 0 ≡ get_or (row (get_or xs k d)) j 0
row_at row w h [] k j d lt within = absurd (omega arith)
row_at row w h (x ∷ xs) zero j d lt within =
    let e : w * 0 + j ≡ j = omega arith in
    ap (λ (i : ℕ). get_or (row x ++ flat_map row xs) i 0) e ∙ get_or_append_left (row x) (flat_map row xs) 0 j (omega (arith, h x))
row_at row w h (x ∷ xs) (suc k) j d lt within =
    let e : w * suc k + j ≡ length (row x) + (w * k + j) = omega (arith, h x) in
    ap (λ (i : ℕ). get_or (row x ++ flat_map row xs) i 0) e ∙ get_or-append-add (row x) (flat_map row xs) (w * k + j) 0 ∙ row_at row w h xs k j d (omega arith) within

-- within its row a number stands at this place
within_rows : (w count k j : ℕ) → k < count → j < w → w * k + j < w * count
within_rows w zero k j lt within = absurd (omega arith)
within_rows w (suc n) k j lt within =
    elim (cases_eq k n) [
      | inl e ↦ rw e (omega arith)
      | inr ne ↦ omega (arith, within_rows w n k j (omega arith) within)
    ]

-- what stands at a place behind `begin` is number j of row k
placed : {X : Type 0} (row : X → List ℕ) (w : ℕ) → ((x : X) → length (row x) ≡ w) → (at : ℕ → ℕ) (begin : ℕ) (xs : List X)
    → ((i : ℕ) → i < w * length xs → at (begin + i) ≡ get_or (flat_map row xs) i 0)
    → (place k j : ℕ) (d : X) → k < length xs → j < w → place ≡ begin + (w * k + j) → at place ≡ get_or (row (get_or xs k d)) j 0
placed row w wide at begin xs h place k j d lt within e = ap at e ∙ h (w * k + j) (within_rows w (length xs) k j lt within) ∙ row_at row w wide xs k j d lt within

-- ---- what is read is spelled so

three : (at : ℕ → ℕ) (begin m : ℕ) → at (begin + m) ∷ at (begin + m + 1) ∷ at (begin + m + 2) ∷ [] ≡ at (begin + (m + 0)) ∷ at (begin + (m + 1)) ∷ at (begin + (m + 2)) ∷ []
three at begin m =
    let e0 : begin + m ≡ begin + (m + 0) = omega arith in
    let e1 : begin + m + 1 ≡ begin + (m + 1) = omega arith in
    let e2 : begin + m + 2 ≡ begin + (m + 2) = omega arith in
    cc

pub functions_back : (at : ℕ → ℕ) (begin count : ℕ) → flat_map function_row (functions_of at begin count) ≡ listed (λ j. at (begin + j)) (3 * count)
functions_back at begin count =
    chunks function_row 3 (λ j. at (begin + j)) (λ k. record { entry = at (begin + 3 * k); slots = at (begin + 3 * k + 1); words = at (begin + 3 * k + 2) }) count (λ k lt. three at begin (3 * k))

four : (at : ℕ → ℕ) (begin m size : ℕ) → size ≡ at (begin + m + 2)
    → at (begin + m) ∷ at (begin + m + 1) ∷ size ∷ at (begin + m + 3) ∷ [] ≡ at (begin + (m + 0)) ∷ at (begin + (m + 1)) ∷ at (begin + (m + 2)) ∷ at (begin + (m + 3)) ∷ []
four at begin m size e =
    let e0 : begin + m ≡ begin + (m + 0) = omega arith in
    let e1 : begin + m + 1 ≡ begin + (m + 1) = omega arith in
    let e2 : begin + m + 2 ≡ begin + (m + 2) = omega arith in
    let e3 : begin + m + 3 ≡ begin + (m + 3) = omega arith in
    cc

pub items_back : (at : ℕ → ℕ) (begin count : ℕ) → ((k : ℕ) → k < count → size_from (at (begin + 4 * k + 2)) ≡ at (begin + 4 * k + 2))
    → flat_map item_row (items_of at begin count) ≡ listed (λ j. at (begin + j)) (4 * count)
items_back at begin count h =
    chunks item_row 4 (λ j. at (begin + j)) (λ k. record { global = at (begin + 4 * k); offset = at (begin + 4 * k + 1); size = size_from (at (begin + 4 * k + 2)); value = at (begin + 4 * k + 3) }) count
    (λ k lt. four at begin (4 * k) (size_from (at (begin + 4 * k + 2))) (h k lt))

two : (at : ℕ → ℕ) (begin m : ℕ) → at (begin + m) ∷ at (begin + m + 1) ∷ [] ≡ at (begin + (m + 0)) ∷ at (begin + (m + 1)) ∷ []
two at begin m =
    let e0 : begin + m ≡ begin + (m + 0) = omega arith in
    let e1 : begin + m + 1 ≡ begin + (m + 1) = omega arith in
    cc

pub lines_back : (at : ℕ → ℕ) (begin count : ℕ) → flat_map line_row (lines_of at begin count) ≡ listed (λ j. at (begin + j)) (2 * count)
lines_back at begin count =
    chunks line_row 2 (λ j. at (begin + j)) (λ k. record { word = at (begin + 2 * k); line = at (begin + 2 * k + 1) }) count (λ k lt. two at begin (2 * k))

-- what holds of all that stands at places holds at each
pub listed_each : {X : Type 0} (p : X → Bool) (f : ℕ → X) (n k : ℕ) → list_all p (listed f n) ≡ true → k < n → p (f k) ≡ true
listed_each p f zero k h lt = absurd (omega arith)
listed_each p f (suc n) k h lt =
    let both = and_parts (list_all p (listed f n)) (list_all p (f n ∷ [])) (sym (list_all-append p (listed f n) (f n ∷ [])) ∙ h) in
    elim (cases_eq k n) [
      | inl e ↦ ap (λ (i : ℕ). p (f i)) e ∙ (and_parts (p (f n)) true both.1).0
      | inr ne ↦ listed_each p f n k both.0 (omega arith)
    ]

-- a size that an item may have
pub sizes : (n : ℕ) → ((n == 1) || (n == 2) || (n == 4)) ≡ true → (0 < n) × (n < 256)
sizes n h =
    elim (or_cases ((n == 1) || (n == 2)) (n == 4) h) [
      | inl small ↦ elim (or_cases (n == 1) (n == 2) small) [
        | inl one ↦ (omega (arith, eqb-true n 1 one), omega (arith, eqb-true n 1 one))
        | inr two ↦ (omega (arith, eqb-true n 2 two), omega (arith, eqb-true n 2 two))
      ]
      | inr four ↦ (omega (arith, eqb-true n 4 four), omega (arith, eqb-true n 4 four))
    ]

-- a size that an item may have was read as it stood
pub size_kept : (n : ℕ) → 0 < size_from n → size_from n ≡ n
size_kept n h =
    elim (cases_Bool (nat_lt n 256)) [
      | inl small ↦ cond-true (nat_lt n 256) n 0 small
      | inr big ↦ absurd (omega (arith, cond-false (nat_lt n 256) n 0 big))
    ]

-- ---- what is spelled so is read

made_row : (x : Row) (entry slots words : ℕ) → entry ≡ x.entry → slots ≡ x.slots → words ≡ x.words → record { entry = entry; slots = slots; words = words } ≡ x
made_row x entry slots words a b c = rw (a, b, c) refl

pub functions_again : (at : ℕ → ℕ) (begin : ℕ) (rows : List Row) → ((i : ℕ) → i < 3 * length rows → at (begin + i) ≡ get_or (flat_map function_row rows) i 0)
    → functions_of at begin (length rows) ≡ rows
functions_again at begin rows h =
    listed_all (λ k. record { entry = at (begin + 3 * k); slots = at (begin + 3 * k + 1); words = at (begin + 3 * k + 2) }) rows
    (λ k d lt. made_row (get_or rows k d) (at (begin + 3 * k)) (at (begin + 3 * k + 1)) (at (begin + 3 * k + 2))
    (placed function_row 3 (λ x. refl) at begin rows h (begin + 3 * k) k 0 d lt (omega arith) (omega arith))
    (placed function_row 3 (λ x. refl) at begin rows h (begin + 3 * k + 1) k 1 d lt (omega arith) (omega arith))
    (placed function_row 3 (λ x. refl) at begin rows h (begin + 3 * k + 2) k 2 d lt (omega arith) (omega arith)))

made_item : (x : Item) (global offset size value : ℕ) → global ≡ x.global → offset ≡ x.offset → size ≡ x.size → x.size < 256 → value ≡ x.value
    → record { global = global; offset = offset; size = size_from size; value = value } ≡ x
made_item x global offset size value a b c small d =
    let kept : size_from x.size ≡ x.size = cond-true (nat_lt x.size 256) x.size 0 (lt-ltb x.size 256 small) in
    rw (a, b, c, d) (rw kept refl)

pub items_again : (at : ℕ → ℕ) (begin : ℕ) (rows : List Item) → ((k : ℕ) (d : Item) → k < length rows → (get_or rows k d).size < 256)
    → ((i : ℕ) → i < 4 * length rows → at (begin + i) ≡ get_or (flat_map item_row rows) i 0) → items_of at begin (length rows) ≡ rows
items_again at begin rows small h =
    listed_all (λ k. record { global = at (begin + 4 * k); offset = at (begin + 4 * k + 1); size = size_from (at (begin + 4 * k + 2)); value = at (begin + 4 * k + 3) }) rows
    (λ k d lt. made_item (get_or rows k d) (at (begin + 4 * k)) (at (begin + 4 * k + 1)) (at (begin + 4 * k + 2)) (at (begin + 4 * k + 3))
    (placed item_row 4 (λ x. refl) at begin rows h (begin + 4 * k) k 0 d lt (omega arith) (omega arith))
    (placed item_row 4 (λ x. refl) at begin rows h (begin + 4 * k + 1) k 1 d lt (omega arith) (omega arith))
    (placed item_row 4 (λ x. refl) at begin rows h (begin + 4 * k + 2) k 2 d lt (omega arith) (omega arith))
    (small k d lt)
    (placed item_row 4 (λ x. refl) at begin rows h (begin + 4 * k + 3) k 3 d lt (omega arith) (omega arith)))

made_line : (x : LineRow) (word line : ℕ) → word ≡ x.word → line ≡ x.line → record { word = word; line = line } ≡ x
made_line x word line a b = rw (a, b) refl

pub lines_again : (at : ℕ → ℕ) (begin : ℕ) (rows : List LineRow) → ((i : ℕ) → i < 2 * length rows → at (begin + i) ≡ get_or (flat_map line_row rows) i 0)
    → lines_of at begin (length rows) ≡ rows
lines_again at begin rows h =
    listed_all (λ k. record { word = at (begin + 2 * k); line = at (begin + 2 * k + 1) }) rows
    (λ k d lt. made_line (get_or rows k d) (at (begin + 2 * k)) (at (begin + 2 * k + 1))
    (placed line_row 2 (λ x. refl) at begin rows h (begin + 2 * k) k 0 d lt (omega arith) (omega arith))
    (placed line_row 2 (λ x. refl) at begin rows h (begin + 2 * k + 1) k 1 d lt (omega arith) (omega arith)))
