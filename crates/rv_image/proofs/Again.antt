-- The bytes of an image are read as that image.
use Rattle.std.proofs.Common.{◌≡◌, ℕ, zero, suc, ◌+◌, ◌*◌, ◌^◌, ◌<◌, ◌≤◌, Bool, true, false, cond, ◌&&◌, ◌||◌, List, [], ◌∷◌, ◌++◌, length, get_or, All, Result, Ok, Err, refl, sym, ap, subst, ◌∙◌, append_assoc, arith, inl, inr}
use Rattle.std.specs.Prelude.{◌==◌, ◌%◌, nat_lt, nat_le, not, IfOk}
use Rattle.std.specs.Global.{Vec}
use Rattle.std.specs.List.{flat_map, list_all, AllByRecursion}
use Rattle.std.proofs.lemmas.Bool.{and_parts, or_cases, eq-eqb, eqb-true, le-ltb, ltb-true, leb-true, not_from_true, cond-false}
use Rattle.std.proofs.lemmas.List.{append-nil, length-append, get_or_append_left, get_or-append-add, get_or_default}
use Rattle.al_base.specs.declared.failure.NoMemory.{NoMemory}
use Rattle.rv_isa.specs.declared.image.Contents.{Contents}
use Rattle.rv_isa.specs.declared.image.Row.{Row}
use Rattle.rv_isa.specs.declared.image.Item.{Item}
use Rattle.rv_isa.specs.declared.image.LineRow.{LineRow}
use Rattle.rv_isa.specs.Image.{are_counts, are_rows, is_within, is_item, is_function, is_global, is_line}
use Rattle.rv_image.specs.declared.fault.ImageFault.{ImageFault}
use Rattle.rv_image.specs.declared.fault.ImageFault.TheVariants.{Short, Magic, Version, Count, Extra}
use Rattle.rv_image.specs.declared.header.Header.{Header}
use Rattle.rv_image.specs.Spelling.{spelled, magic, function_row, item_row, line_row, header_1, header_2, body, version_1, version_2, IsContents, IsImage2, IsImage}
use Rattle.rv_image.specs.Reading.{number_at, header_len, header_from, header_of, has_counts, contents_from, contents_of, then_contents, reading, functions_begin, globals_begin, items_begin, code_begins, lines_begin, size_of, numbers_of, functions_of, items_of, lines_of}
use Rattle.rv_image.proofs.Lists.{listed_all}
use Rattle.rv_image.proofs.Numbers.{Fits, number_again, length-spelled}
use Rattle.rv_image.proofs.Rows.{length-rows, functions_again, items_again, lines_again}
use Rattle.rv_image.proofs.Found.{RowsHold, rows_hold, item_size, and_5, spell_1}

-- ---- each number of an image has 32 bits

all_rec : (xs : List ℕ) → All Fits xs → AllByRecursion Fits xs
all_rec [] h = tt
all_rec (x ∷ xs) h = (h 0 x (omega arith), all_rec xs (λ k d lt. h (suc k) d (omega arith)))

both_fit : (xs ys : List ℕ) → AllByRecursion Fits xs → AllByRecursion Fits ys → AllByRecursion Fits (xs ++ ys)
both_fit [] ys a b = b
both_fit (x ∷ xs) ys a b = (a.0, both_fit xs ys a.1 b)

rows_fit : {X : Type 0} (p : X → Bool) (row : X → List ℕ) → ((x : X) → p x ≡ true → AllByRecursion Fits (row x)) → (xs : List X) → list_all p xs ≡ true → AllByRecursion Fits (flat_map row xs)
rows_fit p row h [] all = tt
rows_fit p row h (x ∷ xs) all =
    let parts = and_parts (p x) (list_all p xs) all in
    both_fit (row x) (flat_map row xs) (h x parts.0) (rows_fit p row h xs parts.1)

numbers_fit : (p : ℕ → Bool) → ((n : ℕ) → p n ≡ true → Fits n) → (ns : List ℕ) → list_all p ns ≡ true → AllByRecursion Fits ns
numbers_fit p h [] all = tt
numbers_fit p h (n ∷ ns) all = let parts = and_parts (p n) (list_all p ns) all in (h n parts.0, numbers_fit p h ns parts.1)

function_fits : (code : ℕ) (x : Row) → code ≤ 2 ^ 23 → is_function code x ≡ true → AllByRecursion Fits (function_row x)
function_fits code x small h =
    let h1 = and_parts (nat_lt x.entry code && nat_le x.slots 16384) (nat_le x.words 16384) h in
    let h0 = and_parts (nat_lt x.entry code) (nat_le x.slots 16384) h1.0 in
    let entry = ltb-true x.entry code h0.0 in
    let slots = leb-true x.slots 16384 h0.1 in
    let words = leb-true x.words 16384 h1.1 in
    (omega arith, (omega arith, (omega arith, tt)))

global_fits : (size : ℕ) → is_global size ≡ true → Fits size
global_fits size h =
    let parts = and_parts (nat_le 1 size) (nat_le size (2 ^ 28)) h in
    let most = leb-true size (2 ^ 28) parts.1 in
    omega arith

line_fits : (code : ℕ) (x : LineRow) → code ≤ 2 ^ 23 → is_line code x ≡ true → AllByRecursion Fits (line_row x)
line_fits code x small h =
    let h1 = and_parts (nat_lt x.word code) (nat_le 1 x.line && nat_le x.line 1048577) h in
    let h0 = and_parts (nat_le 1 x.line) (nat_le x.line 1048577) h1.1 in
    let word = ltb-true x.word code h1.0 in
    let line = leb-true x.line 1048577 h0.1 in
    (omega arith, (omega arith, tt))

list_each : {X : Type 0} (p : X → Bool) (xs : List X) (k : ℕ) (d : X) → list_all p xs ≡ true → k < length xs → p (get_or xs k d) ≡ true
list_each p [] k d all lt = absurd (omega arith)
list_each p (x ∷ xs) zero d all lt = (and_parts (p x) (list_all p xs) all).0
list_each p (x ∷ xs) (suc k) d all lt = list_each p xs k d (and_parts (p x) (list_all p xs) all).1 (omega arith)

value_fits : (size value : ℕ) → ((size == 1) || (size == 2) || (size == 4)) ≡ true → value < 2 ^ (8 * size) → Fits value
value_fits size value h below =
    elim (or_cases ((size == 1) || (size == 2)) (size == 4) h) [
      | inl small ↦ elim (or_cases (size == 1) (size == 2) small) [
        | inl one ↦ (let at : value < 2 ^ 8 = subst (λ (s : ℕ). value < 2 ^ (8 * s)) (eqb-true size 1 one) below in omega arith)
        | inr two ↦ (let at : value < 2 ^ 16 = subst (λ (s : ℕ). value < 2 ^ (8 * s)) (eqb-true size 2 two) below in omega arith)
      ]
      | inr four ↦ subst (λ (s : ℕ). value < 2 ^ (8 * s)) (eqb-true size 4 four) below
    ]

item_fits : (globals : List ℕ) (x : Item) → length globals ≤ 65536 → list_all is_global globals ≡ true → is_item globals x ≡ true → AllByRecursion Fits (item_row x)
item_fits globals x few all h =
    let parts = and_5 (nat_lt x.global (length globals)) ((x.size == 1) || (x.size == 2) || (x.size == 4)) (x.offset % x.size == 0) (nat_le (x.offset + x.size) (get_or globals x.global 0)) (nat_lt x.value (2 ^ (8 * x.size))) h in
    let global = ltb-true x.global (length globals) parts.0 in
    let size = (item_size globals x h).1 in
    let end = leb-true (x.offset + x.size) (get_or globals x.global 0) parts.3 in
    let room = global_fits (get_or globals x.global 0) (list_each is_global globals x.global 0 all global) in
    let value = value_fits x.size x.value parts.1 (ltb-true x.value (2 ^ (8 * x.size)) parts.4) in
    (omega arith, (omega arith, (omega arith, (value, tt))))

-- what the numbers of a header keep to
pub record CountsHold (n f g i p m l : ℕ) : Type 0 where
  pub code : n ≤ 2 ^ 23
  pub functions : f ≤ 65536
  pub globals : g ≤ 65536
  pub items : i ≤ 2 ^ 21
  pub privates : p ≤ 65536
  pub main : m < f
  pub lines : l ≤ n

pub counts_hold : (code functions globals items privates main lines : ℕ) → are_counts code functions globals items privates main lines ≡ true → CountsHold code functions globals items privates main lines
counts_hold code functions globals items privates main lines h =
    let t1 = nat_le 1 code && nat_le code (2 ^ 23) in
    let t2 = nat_le 1 functions && nat_le functions 65536 in
    let h8 = and_parts (t1 && t2 && nat_le globals 65536 && nat_le items (2 ^ 21) && (privates % 4 == 0) && nat_le privates 65536 && nat_lt main functions) (nat_le lines code) h in
    let h7 = and_parts (t1 && t2 && nat_le globals 65536 && nat_le items (2 ^ 21) && (privates % 4 == 0) && nat_le privates 65536) (nat_lt main functions) h8.0 in
    let h6 = and_parts (t1 && t2 && nat_le globals 65536 && nat_le items (2 ^ 21) && (privates % 4 == 0)) (nat_le privates 65536) h7.0 in
    let h5 = and_parts (t1 && t2 && nat_le globals 65536 && nat_le items (2 ^ 21)) (privates % 4 == 0) h6.0 in
    let h4 = and_parts (t1 && t2 && nat_le globals 65536) (nat_le items (2 ^ 21)) h5.0 in
    let h3 = and_parts (t1 && t2) (nat_le globals 65536) h4.0 in
    let h2 = and_parts t1 t2 h3.0 in
    record {
      code = leb-true code (2 ^ 23) (and_parts (nat_le 1 code) (nat_le code (2 ^ 23)) h2.0).1;
      functions = leb-true functions 65536 (and_parts (nat_le 1 functions) (nat_le functions 65536) h2.1).1;
      globals = leb-true globals 65536 h3.1;
      items = leb-true items (2 ^ 21) h4.1;
      privates = leb-true privates 65536 h6.1;
      main = ltb-true main functions h7.1;
      lines = leb-true lines code h8.1;
    }

abbrev CountsOf : Contents → Type 0
CountsOf c = CountsHold (length c.code) (length c.functions) (length c.globals) (length c.items) c.privates c.main (length c.lines)

counts_of : (c : Contents) → is_within c ≡ true → CountsOf c
counts_of c h = counts_hold (length c.code) (length c.functions) (length c.globals) (length c.items) c.privates c.main (length c.lines)
    (and_parts (are_counts (length c.code) (length c.functions) (length c.globals) (length c.items) c.privates c.main (length c.lines)) (are_rows c) h).0

rows_of : (c : Contents) → is_within c ≡ true → are_rows c ≡ true
rows_of c h = (and_parts (are_counts (length c.code) (length c.functions) (length c.globals) (length c.items) c.privates c.main (length c.lines)) (are_rows c) h).1

-- ---- all the numbers of an image, behind either header

abbrev numbers_from : List ℕ → Contents → List ℕ
numbers_from header c = header ++ body c ++ flat_map line_row c.lines

all_fit : (header : List ℕ) (c : Contents) → AllByRecursion Fits header → IsContents c → AllByRecursion Fits (numbers_from header c)
all_fit header c front is =
    let counts = counts_of c is.within in
    let rows = rows_hold c (rows_of c is.within) in
    let functions : AllByRecursion Fits (flat_map function_row c.functions) =
    rows_fit (is_function (length c.code)) function_row (λ x h. function_fits (length c.code) x counts.code h) c.functions rows.functions in
    let globals : AllByRecursion Fits c.globals = numbers_fit is_global global_fits c.globals rows.globals in
    let items : AllByRecursion Fits (flat_map item_row c.items) =
    rows_fit (is_item c.globals) item_row (λ x h. item_fits c.globals x counts.globals rows.globals h) c.items rows.items in
    let lines : AllByRecursion Fits (flat_map line_row c.lines) =
    rows_fit (is_line (length c.code)) line_row (λ x h. line_fits (length c.code) x counts.code h) c.lines rows.lines in
    let first = both_fit (flat_map function_row c.functions) c.globals functions globals in
    let second = both_fit (flat_map function_row c.functions ++ c.globals) (flat_map item_row c.items) first items in
    let third = both_fit (flat_map function_row c.functions ++ c.globals ++ flat_map item_row c.items) c.code second (all_rec c.code is.words) in
    both_fit (header ++ body c) (flat_map line_row c.lines) (both_fit header (body c) front third) lines

counts_fit : (version : ℕ) (c : Contents) → Fits version → IsContents c → AllByRecursion Fits (magic ∷ version ∷ length c.code ∷ length c.functions ∷ length c.globals ∷ length c.items ∷ c.privates ∷ c.main ∷ [])
counts_fit version c v is =
    let counts = counts_of c is.within in
    let code = counts.code in
    let functions = counts.functions in
    let globals = counts.globals in
    let items = counts.items in
    let privates = counts.privates in
    let main = counts.main in
    (omega arith, (v, (omega arith, (omega arith, (omega arith, (omega arith, (omega arith, (omega arith, tt))))))))

-- ---- each part at its place

-- a part of the numbers stands behind what is before it
part_at : (at : ℕ → ℕ) (ns front part back : List ℕ) (begin : ℕ) → ns ≡ front ++ part ++ back → length front ≡ begin
    → ((k : ℕ) → k < length ns → at k ≡ get_or ns k 0) → (i : ℕ) → i < length part → at (begin + i) ≡ get_or part i 0
part_at at ns front part back begin e size h i lt =
    let whole : length ns ≡ length front + length part + length back = ap length e ∙ omega (arith, length-append (front ++ part) back, length-append front part) in
    let there : begin + i ≡ length front + i = omega arith in
    h (begin + i) (omega arith)
    ∙ ap (λ (v : List ℕ). get_or v (begin + i) 0) e
    ∙ ap (λ (j : ℕ). get_or (front ++ part ++ back) j 0) there
    ∙ get_or_append_left (front ++ part) back 0 (length front + i) (omega (arith, length-append front part))
    ∙ get_or-append-add front part i 0

numbers_again : (at : ℕ → ℕ) (begin : ℕ) (ns : List ℕ) → ((i : ℕ) → i < length ns → at (begin + i) ≡ get_or ns i 0) → numbers_of at begin (length ns) ≡ ns
numbers_again at begin ns h = listed_all (λ k. at (begin + k)) ns (λ k d lt. h k lt ∙ get_or_default ns k 0 d lt)

-- the header of an image
abbrev announced : (version : ℕ) → Contents → Header
announced version c = record {
  version = version;
  code = length c.code;
  functions = length c.functions;
  globals = length c.globals;
  items = length c.items;
  privates = c.privates;
  main = c.main;
  lines = length c.lines;
}

length-row : (fs : List Row) → length (flat_map function_row fs) ≡ 3 * length fs
length-row fs = length-rows function_row 3 (λ x. refl) fs

length-item : (is : List Item) → length (flat_map item_row is) ≡ 4 * length is
length-item is = length-rows item_row 4 (λ x. refl) is

length-line : (ls : List LineRow) → length (flat_map line_row ls) ≡ 2 * length ls
length-line ls = length-rows line_row 2 (λ x. refl) ls

made_contents : (c : Contents) (code : List ℕ) (functions : List Row) (globals : List ℕ) (items : List Item) (lines : List LineRow)
    → code ≡ c.code → functions ≡ c.functions → globals ≡ c.globals → items ≡ c.items → lines ≡ c.lines
    → record { code = code; functions = functions; globals = globals; items = items; privates = c.privates; main = c.main; lines = lines } ≡ c
made_contents c code functions globals items lines e f g i l = rw (e, f, g, i, l) refl

-- the places of six lists, one behind the other
split_f : (h f g i c l : List ℕ) → (h ++ (((f ++ g) ++ i) ++ c)) ++ l ≡ (h ++ f) ++ (g ++ i ++ c ++ l)
split_f h f g i c l = simp append_assoc

split_g : (h f g i c l : List ℕ) → (h ++ (((f ++ g) ++ i) ++ c)) ++ l ≡ ((h ++ f) ++ g) ++ (i ++ c ++ l)
split_g h f g i c l = simp append_assoc

split_i : (h f g i c l : List ℕ) → (h ++ (((f ++ g) ++ i) ++ c)) ++ l ≡ (((h ++ f) ++ g) ++ i) ++ (c ++ l)
split_i h f g i c l = simp append_assoc

split_c : (h f g i c l : List ℕ) → (h ++ (((f ++ g) ++ i) ++ c)) ++ l ≡ ((((h ++ f) ++ g) ++ i) ++ c) ++ l
split_c h f g i c l = simp append_assoc

split_l : (h f g i c l : List ℕ) → (h ++ (((f ++ g) ++ i) ++ c)) ++ l ≡ (((((h ++ f) ++ g) ++ i) ++ c) ++ l) ++ []
split_l h f g i c l = split_c h f g i c l ∙ sym (append-nil (((((h ++ f) ++ g) ++ i) ++ c) ++ l))

-- behind the header, an image's contents are at the places that its header tells
contents_again : (at : ℕ → ℕ) (header : List ℕ) (c : Contents) (h : Header) → h.code ≡ length c.code → h.functions ≡ length c.functions → h.globals ≡ length c.globals
    → h.items ≡ length c.items → h.lines ≡ length c.lines → h.privates ≡ c.privates → h.main ≡ c.main → functions_begin h ≡ length header → RowsHold c
    → ((k : ℕ) → k < length (numbers_from header c) → at k ≡ get_or (numbers_from header c) k 0)
    → contents_from at (announced h.version c) ≡ c
contents_again at header c h n f g i m p e begin rows there =
    let fs = flat_map function_row c.functions in
    let is = flat_map item_row c.items in
    let ls = flat_map line_row c.lines in
    let ns = numbers_from header c in
    let a = announced h.version c in
    let lf = length-append header fs in
    let lg = length-append (header ++ fs) c.globals in
    let li = length-append (header ++ fs ++ c.globals) is in
    let lc = length-append (header ++ fs ++ c.globals ++ is) c.code in
    let rf = length-row c.functions in
    let ri = length-item c.items in
    let rl = length-line c.lines in
    made_contents c (numbers_of at (code_begins a) (length c.code)) (functions_of at (functions_begin a) (length c.functions)) (numbers_of at (globals_begin a) (length c.globals))
    (items_of at (items_begin a) (length c.items)) (lines_of at (lines_begin a) (length c.lines))
    (numbers_again at (code_begins a) c.code (part_at at ns (header ++ fs ++ c.globals ++ is) c.code ls (code_begins a) (split_c header fs c.globals is c.code ls) (omega arith) there))
    (functions_again at (functions_begin a) c.functions (λ i lt. part_at at ns header fs (c.globals ++ is ++ c.code ++ ls) (functions_begin a) (split_f header fs c.globals is c.code ls) (sym begin) there i (omega arith)))
    (numbers_again at (globals_begin a) c.globals (part_at at ns (header ++ fs) c.globals (is ++ c.code ++ ls) (globals_begin a) (split_g header fs c.globals is c.code ls) (omega arith) there))
    (items_again at (items_begin a) c.items (λ k d lt. (item_size c.globals (get_or c.items k d) (list_each (is_item c.globals) c.items k d rows.items lt)).1)
    (λ i lt. part_at at ns (header ++ fs ++ c.globals) is (c.code ++ ls) (items_begin a) (split_i header fs c.globals is c.code ls) (omega arith) there i (omega arith)))
    (lines_again at (lines_begin a) c.lines (λ i lt. part_at at ns (header ++ fs ++ c.globals ++ is ++ c.code) ls [] (lines_begin a) (split_l header fs c.globals is c.code ls) (omega arith) there i (omega arith)))

-- ---- reading, from what stands there

pass : {A : Type 0} (b : Bool) (d : ImageFault) (r s : Result A ImageFault) → b ≡ false → r ≡ s → cond b (Err d) r ≡ s
pass b d r s e f = cond-false b (Err d) r e ∙ f

header_again : (bytes : List ℕ) (h : Header) → 32 ≤ length bytes → number_at bytes 0 ≡ magic → ((number_at bytes 1 == 1) || (number_at bytes 1 == 2)) ≡ true
    → 4 * header_len (number_at bytes 1) ≤ length bytes → header_from (number_at bytes) ≡ h → has_counts h ≡ true → header_of bytes ≡ Ok h
unfolding header_of
header_again bytes h size first version size' is counts =
    let made : Header = header_from (number_at bytes) in
    let has : has_counts made ≡ true = subst (λ (x : Header). has_counts x ≡ true) (sym is) counts in
    let r5 : Result Header ImageFault = cond (not (has_counts made)) (Err Count) (Ok made) in
    let r4 : Result Header ImageFault = cond (nat_lt (length bytes) (4 * header_len (number_at bytes 1))) (Err Short) r5 in
    let r3 : Result Header ImageFault = cond (not ((number_at bytes 1 == 1) || (number_at bytes 1 == 2))) (Err Version) r4 in
    let r2 : Result Header ImageFault = cond (not (number_at bytes 0 == magic)) (Err Magic) r3 in
    pass (nat_lt (length bytes) 32) Short r2 (Ok h) (le-ltb (length bytes) 32 size)
    (pass (not (number_at bytes 0 == magic)) Magic r3 (Ok h) (not_from_true (number_at bytes 0 == magic) (eq-eqb (number_at bytes 0) magic first))
    (pass (not ((number_at bytes 1 == 1) || (number_at bytes 1 == 2))) Version r4 (Ok h) (not_from_true ((number_at bytes 1 == 1) || (number_at bytes 1 == 2)) version)
    (pass (nat_lt (length bytes) (4 * header_len (number_at bytes 1))) Short r5 (Ok h) (le-ltb (length bytes) (4 * header_len (number_at bytes 1)) size')
    (pass (not (has_counts made)) Count (Ok made) (Ok h) (not_from_true (has_counts made) has) (ap (λ (x : Header). let r : Result Header ImageFault = Ok x in r) is)))))

contents_read : (bytes : List ℕ) (h : Header) (c : Contents) → 4 * size_of h ≡ length bytes → contents_from (number_at bytes) h ≡ c → are_rows c ≡ true → contents_of bytes h ≡ Ok c
unfolding contents_of
contents_read bytes h c size is rows =
    let made : Contents = contents_from (number_at bytes) h in
    let has : are_rows made ≡ true = subst (λ (x : Contents). are_rows x ≡ true) (sym is) rows in
    let r3 : Result Contents ImageFault = cond (nat_lt (4 * size_of h) (length bytes)) (Err Extra) (Ok made) in
    let r2 : Result Contents ImageFault = cond (not (are_rows made)) (Err Count) r3 in
    pass (nat_lt (length bytes) (4 * size_of h)) Short r2 (Ok c) (le-ltb (length bytes) (4 * size_of h) (omega arith))
    (pass (not (are_rows made)) Count r3 (Ok c) (not_from_true (are_rows made) has)
    (pass (nat_lt (4 * size_of h) (length bytes)) Extra (Ok made) (Ok c) (le-ltb (4 * size_of h) (length bytes) (omega arith)) (ap (λ (x : Contents). let r : Result Contents ImageFault = Ok x in r) is)))

-- the numbers of an image behind a header of one version spell bytes that are read as it
with_header : (header : List ℕ) (version : ℕ) (c : Contents) → IsContents c → AllByRecursion Fits header
    → let bytes = spelled (numbers_from header c) in
    length header ≡ header_len version → 8 ≤ length header → number_at bytes 0 ≡ magic → number_at bytes 1 ≡ version → ((version == 1) || (version == 2)) ≡ true
    → header_from (number_at bytes) ≡ announced version c → reading bytes ≡ Ok c
with_header header version c is front wide least first second right made =
    let ns = numbers_from header c in
    let bytes = spelled ns in
    let at = number_at bytes in
    let h = announced version c in
    let fit = all_fit header c front is in
    let rows = rows_hold c (rows_of c is.within) in
    let size : length bytes ≡ 4 * length ns = length-spelled ns in
    let l1 = length-append (header ++ body c) (flat_map line_row c.lines) in
    let l2 = length-append header (body c) in
    let l3 = length-append (flat_map function_row c.functions ++ c.globals ++ flat_map item_row c.items) c.code in
    let l4 = length-append (flat_map function_row c.functions ++ c.globals) (flat_map item_row c.items) in
    let l5 = length-append (flat_map function_row c.functions) c.globals in
    let rf = length-row c.functions in
    let ri = length-item c.items in
    let rl = length-line c.lines in
    let total : 4 * size_of h ≡ length bytes = omega arith in
    let there : (k : ℕ) → k < length ns → at k ≡ get_or ns k 0 = λ k lt. number_again ns k fit lt in
    let contents : contents_from at h ≡ c = contents_again at header c h refl refl refl refl refl refl refl (sym wide) rows there in
    let counts : has_counts h ≡ true = (and_parts (has_counts h) (are_rows c) is.within).0 in
    let begins : 4 * header_len (at 1) ≤ length bytes = subst (λ (v : ℕ). 4 * header_len v ≤ length bytes) (sym second) (omega arith) in
    let known : ((at 1 == 1) || (at 1 == 2)) ≡ true = subst (λ (v : ℕ). ((v == 1) || (v == 2)) ≡ true) (sym second) right in
    ap (then_contents bytes) (header_again bytes h (omega arith) first known begins made counts)
    ∙ contents_read bytes h c total contents (rows_of c is.within)

made_2 : (at : ℕ → ℕ) (code functions globals items privates main lines : ℕ) → at 1 ≡ 2 → at 2 ≡ code → at 3 ≡ functions → at 4 ≡ globals → at 5 ≡ items → at 6 ≡ privates → at 7 ≡ main
    → at 8 ≡ lines → header_from at ≡ record { version = 2; code = code; functions = functions; globals = globals; items = items; privates = privates; main = main; lines = lines }
made_2 at code functions globals items privates main lines e1 e2 e3 e4 e5 e6 e7 e8 = rw (e1, e2, e3, e4, e5, e6, e7, e8) refl

made_1 : (at : ℕ → ℕ) (code functions globals items privates main lines : ℕ) → at 1 ≡ 1 → at 2 ≡ code → at 3 ≡ functions → at 4 ≡ globals → at 5 ≡ items → at 6 ≡ privates → at 7 ≡ main
    → 0 ≡ lines → header_from at ≡ record { version = 1; code = code; functions = functions; globals = globals; items = items; privates = privates; main = main; lines = lines }
made_1 at code functions globals items privates main lines e1 e2 e3 e4 e5 e6 e7 e8 = rw (e1, e2, e3, e4, e5, e6, e7, e8) refl

-- a number of the header stands at its place
in_header : (header : List ℕ) (c : Contents) → AllByRecursion Fits (numbers_from header c) → (k n : ℕ) → k < length header → get_or header k 0 ≡ n → number_at (spelled (numbers_from header c)) k ≡ n
in_header header c fit k n lt e =
    let l1 = length-append (header ++ body c) (flat_map line_row c.lines) in
    let l2 = length-append header (body c) in
    number_again (numbers_from header c) k fit (omega arith)
    ∙ get_or_append_left (header ++ body c) (flat_map line_row c.lines) 0 k (omega arith)
    ∙ get_or_append_left header (body c) 0 k lt ∙ e

pub again_2 : (c : Contents) → IsContents c → reading (spelled (version_2 c)) ≡ Ok c
again_2 c is =
    let counts = counts_of c is.within in
    let last : AllByRecursion Fits (length c.lines ∷ []) = (let a = counts.lines in let b = counts.code in omega arith, tt) in
    let front : AllByRecursion Fits (header_2 c) = both_fit (magic ∷ 2 ∷ length c.code ∷ length c.functions ∷ length c.globals ∷ length c.items ∷ c.privates ∷ c.main ∷ []) (length c.lines ∷ []) (counts_fit 2 c (omega arith) is) last in
    let fit = all_fit (header_2 c) c front is in
    let at = number_at (spelled (version_2 c)) in
    with_header (header_2 c) 2 c is front refl (omega arith) (in_header (header_2 c) c fit 0 magic (omega arith) refl) (in_header (header_2 c) c fit 1 2 (omega arith) refl) refl
    (made_2 at (length c.code) (length c.functions) (length c.globals) (length c.items) c.privates c.main (length c.lines)
    (in_header (header_2 c) c fit 1 2 (omega arith) refl)
    (in_header (header_2 c) c fit 2 (length c.code) (omega arith) refl)
    (in_header (header_2 c) c fit 3 (length c.functions) (omega arith) refl)
    (in_header (header_2 c) c fit 4 (length c.globals) (omega arith) refl)
    (in_header (header_2 c) c fit 5 (length c.items) (omega arith) refl)
    (in_header (header_2 c) c fit 6 c.privates (omega arith) refl)
    (in_header (header_2 c) c fit 7 c.main (omega arith) refl)
    (in_header (header_2 c) c fit 8 (length c.lines) (omega arith) refl))

again_1 : (c : Contents) → IsContents c → c.lines ≡ [] → reading (spelled (version_1 c)) ≡ Ok c
again_1 c is none =
    let front : AllByRecursion Fits (header_1 c) = counts_fit 1 c (omega arith) is in
    let fit = all_fit (header_1 c) c front is in
    let at = number_at (spelled (numbers_from (header_1 c) c)) in
    ap (λ (ns : List ℕ). reading (spelled ns)) (sym (spell_1 (header_1 c) c refl none))
    ∙ with_header (header_1 c) 1 c is front refl (omega arith) (in_header (header_1 c) c fit 0 magic (omega arith) refl) (in_header (header_1 c) c fit 1 1 (omega arith) refl) refl
    (made_1 at (length c.code) (length c.functions) (length c.globals) (length c.items) c.privates c.main (length c.lines)
    (in_header (header_1 c) c fit 1 1 (omega arith) refl)
    (in_header (header_1 c) c fit 2 (length c.code) (omega arith) refl)
    (in_header (header_1 c) c fit 3 (length c.functions) (omega arith) refl)
    (in_header (header_1 c) c fit 4 (length c.globals) (omega arith) refl)
    (in_header (header_1 c) c fit 5 (length c.items) (omega arith) refl)
    (in_header (header_1 c) c fit 6 c.privates (omega arith) refl)
    (in_header (header_1 c) c fit 7 c.main (omega arith) refl)
    (ap (λ (rows : List LineRow). length rows) (sym none)))

-- the bytes of an image are read as it
pub image_again : (bytes : List ℕ) (c : Contents) → IsImage bytes c → reading bytes ≡ Ok c
image_again bytes c (inl new) = ap reading new.spelling ∙ again_2 c new.contents
image_again bytes c (inr old) = ap reading old.spelling ∙ again_1 c old.contents old.lines

pub wrote_again : (r : Result (Vec ℕ) NoMemory) (c : Contents) → IfOk r (λ bytes. IsImage2 bytes.items c) → IfOk r (λ bytes. reading bytes.items ≡ Ok c)
wrote_again (Ok bytes) c is = image_again bytes.items c (inl is)
wrote_again (Err stop) c is = tt
