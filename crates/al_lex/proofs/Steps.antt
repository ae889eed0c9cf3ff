-- One step more of the loops, and what the values of digits keep.
use Rattle.std.proofs.Common.{◌≡◌, ◌≢◌, ℕ, ◌+◌, ◌*◌, ◌^◌, ◌<◌, ◌≤◌, ◌==◌, nat_eq, nat_lt, true, false, ◌&&◌, List, [], ◌∷◌, length, get_or, drop, Option, Some, None, option_map, refl, sym, ap, ap₂, ◌∙◌, subst, arith, add_assoc, codes}
use Rattle.std.proofs.lemmas.Grind.{common_steps}
use Rattle.std.proofs.lemmas.List.{drop_more}
use Rattle.std.proofs.Math.Nat.{le-mul_of_pos_right}
use Rattle.std.specs.List.{starts_with, list_all, prefix_len, take_while}
use Rattle.al_lex.specs.declared.string.StringEnd.{StringEnd}
use Rattle.al_lex.specs.declared.string.StringEnd.TheVariants as s
use Rattle.al_lex.specs.Bytes.{quote, line_feed, backslash, is_octal, is_hex, is_digit, digit_value, value_after, value_of}
use Rattle.al_lex.specs.Scan.{comment_end, string_from, onward, begins_escape, fitting, numeral, first_is}
use Rattle.al_lex.proofs.Runs.{run_all, widen, chosen}

-- ---- comments

later : (i : ℕ) (o : Option ℕ) → option_map (λ n. i + n) (option_map (λ n. 1 + n) o) ≡ option_map (λ n. i + 1 + n) o
later i None = refl
later i (Some n) = ap Some (sym (add_assoc i 1 n))

comment_step : (xs : List ℕ) (b : ℕ) (bs : List ℕ) → xs ≡ b ∷ bs → starts_with nat_eq xs (codes "*/") ≡ false → comment_end xs ≡ option_map (λ n. 1 + n) (comment_end bs)
comment_step xs b bs e = subst (λ (x : List ℕ). starts_with nat_eq x (codes "*/") ≡ false → comment_end x ≡ option_map (λ n. 1 + n) (comment_end bs)) (sym e) (λ f. rw f refl)

pub comment_more : (ts : List ℕ) (i : ℕ) → i < length ts → starts_with nat_eq (drop i ts) (codes "*/") ≡ false → comment_end ts ≡ option_map (λ n. i + n) (comment_end (drop i ts)) → comment_end ts ≡ option_map (λ n. i + 1 + n) (comment_end (drop (i + 1) ts))
comment_more ts i lt f e = e ∙ ap (option_map (λ n. i + n)) (comment_step (drop i ts) _ _ (drop_more ts i 0 lt) f) ∙ later i (comment_end (drop (i + 1) ts))

-- ---- strings

pub farther : (i j : ℕ) (e : StringEnd) → onward i (onward j e) ≡ onward (i + j) e
farther i j (s.Closed n) = ap s.Closed (sym (add_assoc i j n))
farther i j s.Open = refl
farther i j (s.WrongEscape n) = ap s.WrongEscape (sym (add_assoc i j n))

off : (b x : ℕ) → b ≢ x → (b == x) ≡ false
off b x h = grind (arith, common_steps)

plain_step : (xs : List ℕ) (b : ℕ) (bs : List ℕ) → xs ≡ b ∷ bs → b ≢ quote → b ≢ line_feed → b ≢ backslash → string_from false xs ≡ onward 1 (string_from false bs)
plain_step xs b bs e q l k = subst (λ (x : List ℕ). string_from false x ≡ onward 1 (string_from false bs)) (sym e) (rw (off b quote q, off b line_feed l, off b backslash k) refl)

pub plain_more : (ts : List ℕ) (i b : ℕ) → i < length ts → drop i ts ≡ b ∷ drop (i + 1) ts → b ≢ quote → b ≢ line_feed → b ≢ backslash → string_from false ts ≡ onward i (string_from false (drop i ts)) → string_from false ts ≡ onward (i + 1) (string_from false (drop (i + 1) ts))
plain_more ts i b lt d q l k e = e ∙ ap (onward i) (plain_step (drop i ts) b _ d q l k) ∙ farther i 1 (string_from false (drop (i + 1) ts))

escape_step : (xs : List ℕ) (c : ℕ) (cs : List ℕ) → xs ≡ backslash ∷ (c ∷ cs) → begins_escape (c ∷ cs) ≡ true → string_from false xs ≡ onward 2 (string_from false cs)
escape_step xs c cs e h = subst (λ (x : List ℕ). string_from false x ≡ onward 2 (string_from false cs)) (sym e) (rw h (farther 1 1 (string_from false cs)))

pub escape_more : (ts : List ℕ) (i : ℕ) → i < length ts → get_or ts i 0 ≡ backslash → begins_escape (drop (i + 1) ts) ≡ true → i + 1 < length ts → string_from false ts ≡ onward i (string_from false (drop i ts)) → string_from false ts ≡ onward (i + 2) (string_from false (drop (i + 2) ts))
escape_more ts i lt is h more e =
    let next : drop (i + 1) ts ≡ get_or ts (i + 1) 0 ∷ drop (i + 2) ts = drop_more ts (i + 1) 0 more ∙ ap (λ n. get_or ts (i + 1) 0 ∷ drop n ts) (add_assoc i 1 1) in
    let here : drop i ts ≡ backslash ∷ (get_or ts (i + 1) 0 ∷ drop (i + 2) ts) = drop_more ts i 0 lt ∙ ap₂ (λ b l. b ∷ l) is next in
    e ∙ ap (onward i) (escape_step (drop i ts) _ _ here (subst (λ (x : List ℕ). begins_escape x ≡ true) next h)) ∙ farther i 2 (string_from false (drop (i + 2) ts))

-- ---- values

pub high_below : (base high : ℕ) (ds : List ℕ) → 1 ≤ base → high ≤ value_after base high ds
high_below base high [] h = omega arith
high_below base high (d ∷ ds) h =
    let more = high_below base (high * base + digit_value d) ds h in
    let times = le-mul_of_pos_right high h in
    omega (arith, more, times)

pub too_big : (v : ℕ) → 2 ^ 64 ≤ v → fitting v ≡ None
too_big v h = grind (arith, common_steps)

pub small : (v : ℕ) → v < 2 ^ 64 → fitting v ≡ Some v
small v h = grind (arith, common_steps)

-- the value of the digits up to here, taken times the base or with one digit more, is past the bound
pub digit_over : (base v : ℕ) (ds : List ℕ) (i : ℕ) → i < length ds → 1 ≤ base → value_after base v (drop i ds) ≡ value_of base ds → 2 ^ 64 ≤ v * base + digit_value (get_or ds i 0) → fitting (value_of base ds) ≡ None
digit_over base v ds i lt h e over =
    let is : value_after base (v * base + digit_value (get_or ds i 0)) (drop (i + 1) ds) ≡ value_of base ds = sym (ap (value_after base v) (drop_more ds i 0 lt)) ∙ e in
    let low = high_below base (v * base + digit_value (get_or ds i 0)) (drop (i + 1) ds) h in
    too_big (value_of base ds) (omega (arith, low, is))

pub octal_hex : (b : ℕ) → is_octal b ≡ true → is_hex b ≡ true
octal_hex b h = grind (arith, common_steps)

digit_hex : (b : ℕ) → is_digit b ≡ true → is_hex b ≡ true
digit_hex b h = grind (arith, common_steps)

-- the digits of a number to any base are among the hexadecimal ones
pub numeral_hex : (ts : List ℕ) → list_all is_hex (numeral ts).1 ≡ true
numeral_hex ts =
    let P : ℕ × List ℕ × ℕ → Type 0 = λ n. list_all is_hex n.1 ≡ true in
    let hex = run_all is_hex (drop 2 ts) in
    let octal = widen is_octal is_hex octal_hex (take_while is_octal ts) (run_all is_octal ts) in
    let decimal = widen is_digit is_hex digit_hex (take_while is_digit ts) (run_all is_digit ts) in
    chosen P (starts_with nat_eq ts (codes "0x") && nat_lt 0 (prefix_len is_hex (drop 2 ts))) _ _ hex (chosen P (first_is 48 ts) _ _ octal decimal)
