-- Numbers.
use Rattle.std.proofs.Common.{◌≡◌, ◌≢◌, ℕ, ◌+◌, ◌^◌, ◌≤◌, ◌==◌, nat_eq, nat_lt, Bool, true, false, ◌&&◌, List, [], ◌∷◌, ◌++◌, length, length-append, drop, Option, Some, None, codes, refl, sym, ap, ◌∙◌, subst, arith}
use Rattle.std.proofs.lemmas.List.{append-nil}
use Rattle.std.proofs.lemmas.Grind.{common_steps}
use Rattle.std.specs.List.{list_all, prefix_len, take_while, starts_with}
use Rattle.al_lex.specs.declared.kind.TokenKind.TheVariants as k
use Rattle.al_lex.specs.declared.kind.PieceKind.TheVariants as p
use Rattle.al_lex.specs.declared.fault.LexReason.TheVariants as r
use Rattle.al_lex.specs.Bytes.{is_hex, is_octal, is_digit, value_of}
use Rattle.al_lex.specs.Pieces.{IsNumber, hexadecimal, octal, decimal, number, token}
use Rattle.al_lex.specs.Cut.{number_too_big, IsLongestNumber}
use Rattle.al_lex.specs.Scan.{flaw, numeral, fitting, number_found, scan_number, first_is}
use Rattle.al_lex.proofs.Answers.{IsSound, piece, fault, Covers, longer, faulty}
use Rattle.al_lex.proofs.Runs.{both, and_true, run_all, run_longer, run_within, cut_run, choose_by, equal, some_true, some_is, run_cons, run_front}
use Rattle.al_lex.proofs.Tables.{front_is, not_both}

-- what is read is no shorter than the number, and has its value where it is as long
record Reads (u : List ℕ) (v : ℕ) (n : ℕ × List ℕ × ℕ) : Type 0 where
  long : length u ≤ n.2
  value : length u ≡ n.2 → value_of n.0 n.1 ≡ v

-- the tests that decide how a number is read
abbrev is_hexadecimal : List ℕ → Bool
is_hexadecimal ts = starts_with nat_eq ts (codes "0x") && nat_lt 0 (prefix_len is_hex (drop 2 ts))

by_test : (P : ℕ × List ℕ × ℕ → Type 0) (ts : List ℕ)
    → (is_hexadecimal ts ≡ true → P (16, take_while is_hex (drop 2 ts), 2 + prefix_len is_hex (drop 2 ts)))
    → (is_hexadecimal ts ≡ false → first_is 48 ts ≡ true → P (8, take_while is_octal ts, prefix_len is_octal ts))
    → (is_hexadecimal ts ≡ false → first_is 48 ts ≡ false → P (10, take_while is_digit ts, prefix_len is_digit ts))
    → P (numeral ts)
by_test P ts hex oct dec = choose_by P (is_hexadecimal ts) _ _ hex (λ f. choose_by P (first_is 48 ts) _ _ (oct f) (dec f))

-- behind a digit other than x the text is not hexadecimal
second_x : (b d : ℕ) (ts : List ℕ) → is_hexadecimal (b ∷ (d ∷ ts)) ≡ true → (b ≡ 48) × (d ≡ 120)
second_x b d ts h =
    let s = both (starts_with nat_eq (b ∷ (d ∷ ts)) (codes "0x")) (nat_lt 0 (prefix_len is_hex ts)) h in
    let e = front_is (b ∷ (d ∷ ts)) (codes "0x") s.0 in
    (cc, cc)

first_zero : (b : ℕ) (ts : List ℕ) → is_hexadecimal (b ∷ ts) ≡ true → b ≡ 48
first_zero b ts h =
    let s = both (starts_with nat_eq (b ∷ ts) (codes "0x")) (nat_lt 0 (prefix_len is_hex (drop 2 (b ∷ ts)))) h in
    let e = front_is (b ∷ ts) (codes "0x") s.0 in
    cc

octal_reads : (ds r : List ℕ) → list_all is_octal ds ≡ true → is_hexadecimal (48 ∷ (ds ++ r)) ≡ true → Reads (48 ∷ ds) (value_of 8 ds) (16, take_while is_hex (drop 2 (48 ∷ (ds ++ r))), 2 + prefix_len is_hex (drop 2 (48 ∷ (ds ++ r))))
octal_reads [] r h t = record { long = omega arith; value = λ e. absurd (omega arith) }
octal_reads (d ∷ ds) r h t =
    let x = (second_x 48 d (ds ++ r) t).1 in
    let o = (both (is_octal d) (list_all is_octal ds) h).0 in
    absurd (not_both (is_octal 120) (subst (λ (b : ℕ). is_octal b ≡ true) x o) refl)

number_reads : {u : List ℕ} {v : ℕ} → IsNumber u v → (r : List ℕ) → Reads u v (numeral (u ++ r))
number_reads (hexadecimal d ds h) r =
    let u = codes "0x" ++ d ∷ ds in
    let run = run_longer is_hex (d ∷ ds) r h in
    by_test (Reads u (value_of 16 (d ∷ ds))) (u ++ r)
    (λ _. record { long = omega (arith, run); value = λ e. ap (value_of 16) (run_front is_hex (d ∷ ds) r (omega (arith, e))) })
    (λ f _. absurd (not_both (nat_lt 0 (prefix_len is_hex ((d ∷ ds) ++ r))) (some_true _ (omega (arith, run))) f))
    (λ f _. absurd (not_both (nat_lt 0 (prefix_len is_hex ((d ∷ ds) ++ r))) (some_true _ (omega (arith, run))) f))
number_reads (octal ds h) r =
    let u = 48 ∷ ds in
    by_test (Reads u (value_of 8 ds)) (u ++ r)
    (octal_reads ds r h)
    (λ _ _. record { long = run_longer is_octal u r h; value = λ e. ap (value_of 8) (run_front is_octal u r e) })
    (λ _ f. absurd (let e : true ≡ false = f in let x : ⊥ = cc in x))
number_reads (decimal d ds h other) r =
    let u = d ∷ ds in
    by_test (Reads u (value_of 10 u)) (u ++ r)
    (λ t. absurd (other (first_zero d (ds ++ r) t)))
    (λ _ t. absurd (other (equal d 48 t)))
    (λ _ _. record { long = run_longer is_digit u r h; value = λ e. ap (value_of 10) (run_front is_digit u r e) })

-- what is read is a number
record IsRead (ts : List ℕ) (n : ℕ × List ℕ × ℕ) : Type 0 where
  front : List ℕ
  rest : List ℕ
  cut : ts ≡ front ++ rest
  len : n.2 ≡ length front
  is : IsNumber front (value_of n.0 n.1)

hex_number : (w : List ℕ) → list_all is_hex w ≡ true → 1 ≤ length w → IsNumber (codes "0x" ++ w) (value_of 16 w)
hex_number [] h l = absurd (omega arith)
hex_number (d ∷ ds) h l = hexadecimal d ds h

octal_number : (bs : List ℕ) → IsNumber (take_while is_octal (48 ∷ bs)) (value_of 8 (take_while is_octal (48 ∷ bs)))
octal_number bs = rw (run_cons is_octal 48 bs refl) (octal (take_while is_octal bs) (run_all is_octal bs))

decimal_number : (b : ℕ) (bs : List ℕ) → is_digit b ≡ true → b ≢ 48 → IsNumber (take_while is_digit (b ∷ bs)) (value_of 10 (take_while is_digit (b ∷ bs)))
decimal_number b bs h other =
    rw (run_cons is_digit b bs h) (decimal b (take_while is_digit bs) (and_true (is_digit b) (list_all is_digit (take_while is_digit bs)) h (run_all is_digit bs)) other)

number_read : (b : ℕ) (bs : List ℕ) → is_digit b ≡ true → IsRead (b ∷ bs) (numeral (b ∷ bs))
number_read b bs h =
    let ts = b ∷ bs in
    by_test (IsRead ts) ts
    (λ t.
    let s = both (starts_with nat_eq ts (codes "0x")) (nat_lt 0 (prefix_len is_hex (drop 2 ts))) t in
    let w = take_while is_hex (drop 2 ts) in
    let len = run_within is_hex (drop 2 ts) in
    record {
      front = codes "0x" ++ w;
      rest = drop (prefix_len is_hex (drop 2 ts)) (drop 2 ts);
      cut = front_is ts (codes "0x") s.0 ∙ ap (λ l. 48 ∷ (120 ∷ l)) (cut_run is_hex (drop 2 ts));
      len = omega (arith, len);
      is = hex_number w (run_all is_hex (drop 2 ts)) (omega (arith, len, some_is (prefix_len is_hex (drop 2 ts)) s.1));
    })
    (λ _ t. record {
      front = take_while is_octal ts;
      rest = drop (prefix_len is_octal ts) ts;
      cut = cut_run is_octal ts;
      len = run_within is_octal ts;
      is = subst (λ (x : ℕ). IsNumber (take_while is_octal (x ∷ bs)) (value_of 8 (take_while is_octal (x ∷ bs)))) (sym (equal b 48 t)) (octal_number bs);
    })
    (λ _ f. record {
      front = take_while is_digit ts;
      rest = drop (prefix_len is_digit ts) ts;
      cut = cut_run is_digit ts;
      len = run_within is_digit ts;
      is = decimal_number b bs h (λ e. not_both (b == 48) (rw e refl) f);
    })

fits_none : (v : ℕ) → fitting v ≡ None → 2 ^ 64 ≤ v
fits_none v h = grind (arith, common_steps)

big_none : (v : ℕ) → 2 ^ 64 ≤ v → fitting v ≡ None
big_none v h = grind (arith, common_steps)

-- ---- what the others need

pub number_covers : {u : List ℕ} {v : ℕ} → IsNumber u v → (rest : List ℕ) → Covers (p.Token k.Number) u (scan_number (u ++ rest))
number_covers {u} {v} d rest = go (fitting (value_of (numeral (u ++ rest)).0 (numeral (u ++ rest)).1)) (number_reads d rest)
  where
    go : (o : Option ℕ) → Reads u v (numeral (u ++ rest)) → Covers (p.Token k.Number) u (number_found o (numeral (u ++ rest)).2)
    go None s = faulty r.NumberTooBig 0 (λ e. let f : ⊥ = cc in f)
    go (Some x) s = longer (p.Token k.Number) (numeral (u ++ rest)).2 s.long (λ _. refl)

longest_read : (b : ℕ) (bs : List ℕ) → (d : IsRead (b ∷ bs) (numeral (b ∷ bs))) → IsLongestNumber (b ∷ bs) d.front (value_of (numeral (b ∷ bs)).0 (numeral (b ∷ bs)).1)
longest_read b bs d = record {
  rest = d.rest;
  cut = d.cut;
  is = d.is;
  longest = λ w rest x cut is. let l = (number_reads is rest).long in let m = subst (λ (ts : List ℕ). length w ≤ (numeral ts).2) (sym cut) l in omega (arith, m, d.len);
}

pub number_sound : (fresh : Bool) (b : ℕ) (bs : List ℕ) → is_digit b ≡ true → IsSound fresh (b ∷ bs) (scan_number (b ∷ bs))
number_sound fresh b bs h = let v = value_of (numeral (b ∷ bs)).0 (numeral (b ∷ bs)).1 in go v (fitting v) refl (number_read b bs h) refl
  where
    go : (v : ℕ) (o : Option ℕ) → fitting v ≡ o → (d : IsRead (b ∷ bs) (numeral (b ∷ bs))) → v ≡ value_of (numeral (b ∷ bs)).0 (numeral (b ∷ bs)).1 → IsSound fresh (b ∷ bs) (number_found o (numeral (b ∷ bs)).2)
    go v None e d same = fault r.NumberTooBig 0 (number_too_big (longest_read b bs d) (subst (λ (x : ℕ). 2 ^ 64 ≤ x) same (fits_none v e)))
    go v (Some x) e d same = piece (p.Token k.Number) (numeral (b ∷ bs)).2 d.front d.rest d.cut d.len (token (number d.is))

pub number_fault : (b : ℕ) (bs : List ℕ) → is_digit b ≡ true → {u : List ℕ} {v : ℕ} → IsLongestNumber (b ∷ bs) u v → 2 ^ 64 ≤ v → scan_number (b ∷ bs) ≡ flaw r.NumberTooBig 0
number_fault b bs h {u} {v} l big =
    let ts = b ∷ bs in
    let d = number_read b bs h in
    let reads = subst (λ (x : List ℕ). Reads u v (numeral x)) (sym l.cut) (number_reads l.is l.rest) in
    let below = l.longest d.front d.rest _ d.cut d.is in
    let value = reads.value (omega (arith, below, d.len, reads.long)) in
    ap (λ o. number_found o (numeral ts).2) (big_none _ (subst (λ (x : ℕ). 2 ^ 64 ≤ x) (sym value) big))

-- a number begins with a digit
pub number_begins : {u : List ℕ} {v : ℕ} → IsNumber u v → (b : ℕ) (bs r : List ℕ) → b ∷ bs ≡ u ++ r → is_digit b ≡ true
number_begins (hexadecimal d ds h) b bs r e = let x : b ≡ 48 = cc in rw x refl
number_begins (octal ds h) b bs r e = let x : b ≡ 48 = cc in rw x refl
number_begins (decimal d ds h o) b bs r e = let x : b ≡ d = cc in rw x (both (is_digit d) (list_all is_digit ds) h).0

pub some_number : {u : List ℕ} {v : ℕ} → IsNumber u v → 1 ≤ length u
some_number (hexadecimal d ds h) = omega arith
some_number (octal ds h) = omega arith
some_number (decimal d ds h o) = omega arith

-- the whole of a number is read, with its value
pub whole_value : (u : List ℕ) (v : ℕ) → IsNumber u v → value_of (numeral u).0 (numeral u).1 ≡ v
whole_value [] v d = absurd (omega (arith, some_number d))
whole_value (b ∷ bs) v d =
    let u = b ∷ bs in
    let end = append-nil u in
    let reads = subst (λ (l : List ℕ). Reads u v (numeral l)) end (number_reads d []) in
    let read = number_read b bs (number_begins d b bs [] (sym end)) in
    reads.value (omega (arith, reads.long, read.len, ap length read.cut, length-append read.front read.rest))
