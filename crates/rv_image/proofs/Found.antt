-- What is read is an image, whose spelling the bytes are.
use Rattle.std.proofs.Common.{◌≡◌, ◌⊎◌, ℕ, zero, suc, ◌+◌, ◌*◌, ◌^◌, ◌<◌, Bool, true, false, cond, ◌&&◌, ◌||◌, List, [], ◌∷◌, ◌++◌, length, All, Result, Ok, Err, refl, sym, ap, subst, ◌∙◌, append_assoc, arith, inl, inr}
use Rattle.std.specs.Prelude.{◌==◌, nat_lt, not, IfOk}
use Rattle.std.specs.List.{flat_map, list_all}
use Rattle.std.proofs.lemmas.Bool.{and_parts, and_from, or_cases, eqb-true, ltb-false, not-false}
use Rattle.std.proofs.lemmas.List.{append-nil}
use Rattle.std.proofs.lemmas.List.Elements.{All-nil, All-push}
use Rattle.rv_isa.specs.declared.image.Contents.{Contents}
use Rattle.rv_isa.specs.declared.image.Item.{Item}
use Rattle.rv_isa.specs.declared.image.LineRow.{LineRow}
use Rattle.rv_isa.specs.Image.{are_counts, are_rows, is_within, is_item, is_function, is_global, is_line}
use Rattle.rv_image.specs.declared.fault.ImageFault.{ImageFault}
use Rattle.rv_image.specs.declared.fault.ImageFault.TheVariants.{Short, Magic, Version, Count, Extra}
use Rattle.rv_image.specs.declared.fault.ImageStop.{ImageStop}
use Rattle.rv_image.specs.declared.header.Header.{Header}
use Rattle.rv_image.specs.Spelling.{spelled, magic, function_row, item_row, line_row, header_1, header_2, body, version_1, IsContents, IsImage}
use Rattle.rv_image.specs.Reading.{Gives, number_at, listed, has_lines, header_len, header_from, header_of, has_counts, contents_from, contents_of, then_contents, reading, functions_begin, globals_begin, items_begin, code_begins, lines_begin, size_of, numbers_of, functions_of, items_of, lines_of, size_from}
use Rattle.rv_image.proofs.Lists.{listed-add, length-listed}
use Rattle.rv_image.proofs.Numbers.{IsBytes, Fits, number_fits, spelled_back}
use Rattle.rv_image.proofs.Rows.{functions_back, items_back, lines_back, listed_each, sizes, size_kept}

-- ---- the bounds

same_counts : (code functions globals items privates main lines a b c d e : ℕ)
    → a ≡ code → b ≡ functions → c ≡ globals → d ≡ items → e ≡ lines
    → are_counts code functions globals items privates main lines ≡ true → are_counts a b c d privates main e ≡ true
same_counts code functions globals items privates main lines a b c d e p q r s t h = rw (p, q, r, s, t) h

-- what a header announces is within the bounds where its counts and the rows are
within_from : (at : ℕ → ℕ) (h : Header) → has_counts h ≡ true → are_rows (contents_from at h) ≡ true → is_within (contents_from at h) ≡ true
within_from at h counts rows =
    and_from _ _
    (same_counts h.code h.functions h.globals h.items h.privates h.main h.lines _ _ _ _ _
    (length-listed _ h.code) (length-listed _ h.functions) (length-listed _ h.globals) (length-listed _ h.items) (length-listed _ h.lines) counts)
    rows

pub within_made : (made : Contents) (at : ℕ → ℕ) (h : Header) → made ≡ contents_from at h → has_counts h ≡ true → are_rows made ≡ true → is_within made ≡ true
within_made made at h e counts rows =
    subst (λ (c : Contents). is_within c ≡ true) (sym e) (within_from at h counts (subst (λ (c : Contents). are_rows c ≡ true) e rows))

and_7 : (a b c d e f g : Bool) → (a && b && c && d && e && f && g) ≡ true → (a ≡ true) × (c ≡ true) × (d ≡ true) × (f ≡ true)
and_7 a b c d e f g h =
    let h6 = and_parts (a && b && c && d && e && f) g h in
    let h5 = and_parts (a && b && c && d && e) f h6.0 in
    let h4 = and_parts (a && b && c && d) e h5.0 in
    let h3 = and_parts (a && b && c) d h4.0 in
    let h2 = and_parts (a && b) c h3.0 in
    let h1 = and_parts a b h2.0 in
    (h1.0, h2.1, h3.1, h5.1)

-- the bounds of the rows that say how large their numbers are
pub record RowsHold (c : Contents) : Type 0 where
  pub functions : list_all (is_function (length c.code)) c.functions ≡ true
  pub globals : list_all is_global c.globals ≡ true
  pub items : list_all (is_item c.globals) c.items ≡ true
  pub lines : list_all (is_line (length c.code)) c.lines ≡ true

pub rows_hold : (c : Contents) → are_rows c ≡ true → RowsHold c
rows_hold c h =
    let parts = and_7 (list_all (is_function (length c.code)) c.functions) _ (list_all is_global c.globals) (list_all (is_item c.globals) c.items) _ (list_all (is_line (length c.code)) c.lines) _ h in
    record { functions = parts.0; globals = parts.1; items = parts.2; lines = parts.3 }

pub and_5 : (a b c d e : Bool) → (a && b && c && d && e) ≡ true → (a ≡ true) × (b ≡ true) × (c ≡ true) × (d ≡ true) × (e ≡ true)
and_5 a b c d e h =
    let h4 = and_parts (a && b && c && d) e h in
    let h3 = and_parts (a && b && c) d h4.0 in
    let h2 = and_parts (a && b) c h3.0 in
    let h1 = and_parts a b h2.0 in
    (h1.0, h1.1, h2.1, h3.1, h4.1)

pub item_size : (globals : List ℕ) (item : Item) → is_item globals item ≡ true → (0 < item.size) × (item.size < 256)
item_size globals item h = sizes item.size (and_5 _ ((item.size == 1) || (item.size == 2) || (item.size == 4)) _ _ _ h).1

-- ---- the parts

regrouped : (h f g i c l : List ℕ) → ((((h ++ f) ++ g) ++ i) ++ c) ++ l ≡ (h ++ (((f ++ g) ++ i) ++ c)) ++ l
regrouped h f g i c l = simp append_assoc

-- behind the header, what stands at the places is the body and the line rows
behind : (at : ℕ → ℕ) (h : Header) → ((k : ℕ) → k < h.items → size_from (at (items_begin h + 4 * k + 2)) ≡ at (items_begin h + 4 * k + 2))
    → listed at (size_of h) ≡ listed at (functions_begin h) ++ body (contents_from at h) ++ flat_map line_row (lines_of at (lines_begin h) h.lines)
behind at h kept =
    let l5 : listed at (globals_begin h) ≡ listed at (functions_begin h) ++ flat_map function_row (functions_of at (functions_begin h) h.functions) =
    listed-add at (functions_begin h) (3 * h.functions) ∙ ap (λ (v : List ℕ). listed at (functions_begin h) ++ v) (sym (functions_back at (functions_begin h) h.functions)) in
    let l4 : listed at (items_begin h) ≡ (listed at (functions_begin h) ++ flat_map function_row (functions_of at (functions_begin h) h.functions)) ++ numbers_of at (globals_begin h) h.globals =
    listed-add at (globals_begin h) h.globals ∙ ap (λ (v : List ℕ). v ++ numbers_of at (globals_begin h) h.globals) l5 in
    let l3 : listed at (code_begins h) ≡ listed at (items_begin h) ++ flat_map item_row (items_of at (items_begin h) h.items) =
    listed-add at (items_begin h) (4 * h.items) ∙ ap (λ (v : List ℕ). listed at (items_begin h) ++ v) (sym (items_back at (items_begin h) h.items kept)) in
    let l2 : listed at (lines_begin h) ≡ listed at (code_begins h) ++ numbers_of at (code_begins h) h.code = listed-add at (code_begins h) h.code in
    let l1 : listed at (size_of h) ≡ listed at (lines_begin h) ++ flat_map line_row (lines_of at (lines_begin h) h.lines) =
    listed-add at (lines_begin h) (2 * h.lines) ∙ ap (λ (v : List ℕ). listed at (lines_begin h) ++ v) (sym (lines_back at (lines_begin h) h.lines)) in
    l1 ∙ ap (λ (v : List ℕ). v ++ flat_map line_row (lines_of at (lines_begin h) h.lines))
    (l2 ∙ ap (λ (v : List ℕ). v ++ numbers_of at (code_begins h) h.code)
    (l3 ∙ ap (λ (v : List ℕ). v ++ flat_map item_row (items_of at (items_begin h) h.items)) l4))
    ∙ regrouped (listed at (functions_begin h)) (flat_map function_row (functions_of at (functions_begin h) h.functions)) (numbers_of at (globals_begin h) h.globals)
    (flat_map item_row (items_of at (items_begin h) h.items)) (numbers_of at (code_begins h) h.code) (flat_map line_row (lines_of at (lines_begin h) h.lines))

-- ---- the header

same_9 : (a0 a1 a2 a3 a4 a5 a6 a7 a8 b0 b1 b2 b3 b4 b5 b8 : ℕ) → a0 ≡ b0 → a1 ≡ b1 → a2 ≡ b2 → a3 ≡ b3 → a4 ≡ b4 → a5 ≡ b5 → a8 ≡ b8
    → a0 ∷ a1 ∷ a2 ∷ a3 ∷ a4 ∷ a5 ∷ a6 ∷ a7 ∷ a8 ∷ [] ≡ b0 ∷ b1 ∷ b2 ∷ b3 ∷ b4 ∷ b5 ∷ a6 ∷ a7 ∷ b8 ∷ []
same_9 a0 a1 a2 a3 a4 a5 a6 a7 a8 b0 b1 b2 b3 b4 b5 b8 e0 e1 e2 e3 e4 e5 e8 = rw (e0, e1, e2, e3, e4, e5, e8) refl

header_2_back : (at : ℕ → ℕ) → at 0 ≡ magic → at 1 ≡ 2 → listed at (functions_begin (header_from at)) ≡ header_2 (contents_from at (header_from at))
header_2_back at e0 e1 =
    let size : functions_begin (header_from at) ≡ 9 = ap header_len e1 in
    let m : at 8 ≡ (header_from at).lines = sym (ap (λ (v : ℕ). cond (has_lines v) (at 8) 0) e1) in
    let c = contents_from at (header_from at) in
    ap (listed at) size
    ∙ same_9 (at 0) (at 1) (at 2) (at 3) (at 4) (at 5) (at 6) (at 7) (at 8) magic 2 (length c.code) (length c.functions) (length c.globals) (length c.items) (length c.lines)
    e0 e1 (sym (length-listed _ (at 2))) (sym (length-listed _ (at 3))) (sym (length-listed _ (at 4))) (sym (length-listed _ (at 5))) (m ∙ sym (length-listed _ (header_from at).lines))

same_8 : (a0 a1 a2 a3 a4 a5 a6 a7 b0 b1 b2 b3 b4 b5 : ℕ) → a0 ≡ b0 → a1 ≡ b1 → a2 ≡ b2 → a3 ≡ b3 → a4 ≡ b4 → a5 ≡ b5
    → a0 ∷ a1 ∷ a2 ∷ a3 ∷ a4 ∷ a5 ∷ a6 ∷ a7 ∷ [] ≡ b0 ∷ b1 ∷ b2 ∷ b3 ∷ b4 ∷ b5 ∷ a6 ∷ a7 ∷ []
same_8 a0 a1 a2 a3 a4 a5 a6 a7 b0 b1 b2 b3 b4 b5 e0 e1 e2 e3 e4 e5 = rw (e0, e1, e2, e3, e4, e5) refl

no_lines : (at : ℕ → ℕ) → at 1 ≡ 1 → (contents_from at (header_from at)).lines ≡ []
no_lines at e1 =
    let m : (header_from at).lines ≡ 0 = ap (λ (v : ℕ). cond (has_lines v) (at 8) 0) e1 in
    ap (lines_of at (lines_begin (header_from at))) m

header_1_back : (at : ℕ → ℕ) → at 0 ≡ magic → at 1 ≡ 1 → listed at (functions_begin (header_from at)) ≡ header_1 (contents_from at (header_from at))
header_1_back at e0 e1 =
    let size : functions_begin (header_from at) ≡ 8 = ap header_len e1 in
    let c = contents_from at (header_from at) in
    ap (listed at) size
    ∙ same_8 (at 0) (at 1) (at 2) (at 3) (at 4) (at 5) (at 6) (at 7) magic 1 (length c.code) (length c.functions) (length c.globals) (length c.items)
    e0 e1 (sym (length-listed _ (at 2))) (sym (length-listed _ (at 3))) (sym (length-listed _ (at 4))) (sym (length-listed _ (at 5)))

-- without line rows the numbers are those of version 1
pub spell_1 : (front : List ℕ) (c : Contents) → front ≡ header_1 c → c.lines ≡ [] → front ++ body c ++ flat_map line_row c.lines ≡ version_1 c
spell_1 front c e none = ap (λ (rows : List LineRow). front ++ body c ++ flat_map line_row rows) none ∙ append-nil (front ++ body c) ∙ ap (λ (v : List ℕ). v ++ body c) e

listed_fit : (f : ℕ → ℕ) (n : ℕ) → ((k : ℕ) → Fits (f k)) → All Fits (listed f n)
listed_fit f zero h = All-nil Fits
listed_fit f (suc n) h = All-push Fits (listed f n) (f n) (listed_fit f n h) (h n)

-- ---- what reading found

guard : {A : Type 0} (b : Bool) (d : ImageFault) (r : Result A ImageFault) (y : A) → cond b (Err d) r ≡ Ok y → (b ≡ false) × (r ≡ Ok y)
guard true d r y e = absurd cc
guard false d r y e = (refl, e)

ok_is : {A : Type 0} (x y : A) → (let r : Result A ImageFault = Ok x in r) ≡ Ok y → x ≡ y
ok_is x y e = cc

-- a header that was read
pub record IsHeader (bytes : List ℕ) (h : Header) : Type 0 where
  pub magic_is : number_at bytes 0 ≡ magic
  pub version : (number_at bytes 1 ≡ 1) ⊎ (number_at bytes 1 ≡ 2)
  pub counts : has_counts h ≡ true
  pub is : header_from (number_at bytes) ≡ h

pub header_found : (bytes : List ℕ) (h : Header) → header_of bytes ≡ Ok h → IsHeader bytes h
unfolding header_of
header_found bytes h e =
    let made : Header = header_from (number_at bytes) in
    let r5 : Result Header ImageFault = cond (not (has_counts made)) (Err Count) (Ok made) in
    let r4 : Result Header ImageFault = cond (nat_lt (length bytes) (4 * header_len (number_at bytes 1))) (Err Short) r5 in
    let r3 : Result Header ImageFault = cond (not ((number_at bytes 1 == 1) || (number_at bytes 1 == 2))) (Err Version) r4 in
    let r2 : Result Header ImageFault = cond (not (number_at bytes 0 == magic)) (Err Magic) r3 in
    let g1 = guard (nat_lt (length bytes) 32) Short r2 h e in
    let g2 = guard (not (number_at bytes 0 == magic)) Magic r3 h g1.1 in
    let g3 = guard (not ((number_at bytes 1 == 1) || (number_at bytes 1 == 2))) Version r4 h g2.1 in
    let g4 = guard (nat_lt (length bytes) (4 * header_len (number_at bytes 1))) Short r5 h g3.1 in
    let g5 = guard (not (has_counts made)) Count (Ok made) h g4.1 in
    let counts : has_counts made ≡ true = not-false (has_counts made) g5.0 in
    let same : made ≡ h = ok_is made h g5.1 in
    let version : (number_at bytes 1 ≡ 1) ⊎ (number_at bytes 1 ≡ 2) =
    elim (or_cases (number_at bytes 1 == 1) (number_at bytes 1 == 2) (not-false ((number_at bytes 1 == 1) || (number_at bytes 1 == 2)) g3.0)) [
      | inl one ↦ inl (eqb-true (number_at bytes 1) 1 one)
      | inr two ↦ inr (eqb-true (number_at bytes 1) 2 two)
    ] in
    record { magic_is = eqb-true (number_at bytes 0) magic (not-false (number_at bytes 0 == magic) g2.0); version = version; counts = subst (λ (x : Header). has_counts x ≡ true) same counts; is = same }

-- contents that were read
pub record AreContents (bytes : List ℕ) (h : Header) (c : Contents) : Type 0 where
  pub size : 4 * size_of h ≡ length bytes
  pub rows : are_rows (contents_from (number_at bytes) h) ≡ true
  pub is : contents_from (number_at bytes) h ≡ c

pub contents_found : (bytes : List ℕ) (h : Header) (c : Contents) → contents_of bytes h ≡ Ok c → AreContents bytes h c
unfolding contents_of
contents_found bytes h c e =
    let made : Contents = contents_from (number_at bytes) h in
    let r3 : Result Contents ImageFault = cond (nat_lt (4 * size_of h) (length bytes)) (Err Extra) (Ok made) in
    let r2 : Result Contents ImageFault = cond (not (are_rows made)) (Err Count) r3 in
    let g1 = guard (nat_lt (length bytes) (4 * size_of h)) Short r2 c e in
    let g2 = guard (not (are_rows made)) Count r3 c g1.1 in
    let g3 = guard (nat_lt (4 * size_of h) (length bytes)) Extra (Ok made) c g2.1 in
    let least = ltb-false (length bytes) (4 * size_of h) g1.0 in
    let most = ltb-false (4 * size_of h) (length bytes) g3.0 in
    record { size = omega (arith, least, most); rows = not-false (are_rows made) g2.0; is = ok_is made c g3.1 }

pub then_found : (bytes : List ℕ) (r : Result Header ImageFault) (c : Contents) → then_contents bytes r ≡ Ok c → (h : Header) × (r ≡ Ok h) × (contents_of bytes h ≡ Ok c)
then_found bytes (Ok h) c e = (h, refl, e)
then_found bytes (Err fault) c e = absurd cc

kept_sizes : (at : ℕ → ℕ) (h : Header) → are_rows (contents_from at h) ≡ true → (k : ℕ) → k < h.items → size_from (at (items_begin h + 4 * k + 2)) ≡ at (items_begin h + 4 * k + 2)
kept_sizes at h rows k lt =
    let c = contents_from at h in
    let f : ℕ → Item = λ k. record { global = at (items_begin h + 4 * k); offset = at (items_begin h + 4 * k + 1); size = size_from (at (items_begin h + 4 * k + 2)); value = at (items_begin h + 4 * k + 3) } in
    size_kept (at (items_begin h + 4 * k + 2)) (item_size c.globals (f k) (listed_each (is_item c.globals) f h.items k (rows_hold c rows).items lt)).0

-- contents that a header of the bytes announces are those of an image
image_of : (bytes : List ℕ) → IsBytes bytes → IsHeader bytes (header_from (number_at bytes)) → 4 * size_of (header_from (number_at bytes)) ≡ length bytes
    → are_rows (contents_from (number_at bytes) (header_from (number_at bytes))) ≡ true → IsImage bytes (contents_from (number_at bytes) (header_from (number_at bytes)))
image_of bytes fits header size rows =
    let at = number_at bytes in
    let h = header_from at in
    let c = contents_from at h in
    let whole : bytes ≡ spelled (listed at (size_of h)) = spelled_back bytes (size_of h) fits size in
    let back = behind at h (kept_sizes at h rows) in
    let words : All (λ word. word < 2 ^ 32) c.code = listed_fit (λ k. at (code_begins h + k)) h.code (λ k. number_fits bytes (code_begins h + k) fits) in
    let contents : IsContents c = record { within = within_from at h header.counts rows; words = words } in
    elim header.version [
      | inl one ↦ inr (record {
        contents = contents;
        spelling = whole ∙ ap spelled (back ∙ spell_1 (listed at (functions_begin h)) c (header_1_back at header.magic_is one) (no_lines at one));
        lines = no_lines at one;
      })
      | inr two ↦ inl (record {
        contents = contents;
        spelling = whole ∙ ap spelled (back ∙ ap (λ (v : List ℕ). v ++ body c ++ flat_map line_row c.lines) (header_2_back at header.magic_is two));
      })
    ]

pub reading_found : (bytes : List ℕ) (c : Contents) → IsBytes bytes → reading bytes ≡ Ok c → IsImage bytes c
reading_found bytes c fits e =
    let t = then_found bytes (header_of bytes) c e in
    let header = header_found bytes t.0 t.1 in
    let same : header_from (number_at bytes) ≡ t.0 = header.is in
    let header' : IsHeader bytes (header_from (number_at bytes)) = subst (λ (h : Header). IsHeader bytes h) (sym same) header in
    let contents = contents_found bytes (header_from (number_at bytes)) c (subst (λ (h : Header). contents_of bytes h ≡ Ok c) (sym same) t.2) in
    subst (λ (x : Contents). IsImage bytes x) contents.is (image_of bytes fits header' contents.size contents.rows)

pub is_found : (bytes : List ℕ) (r : Result Contents ImageStop) → IsBytes bytes → Gives r (reading bytes) → IfOk r (λ c. IsImage bytes c)
is_found bytes (Ok c) fits given = reading_found bytes c fits given
is_found bytes (Err stop) fits given = tt
