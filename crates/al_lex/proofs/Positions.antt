-- The position behind more bytes.
use Rattle.std.proofs.Common.{◌≡◌, ℕ, zero, suc, ◌+◌, ◌-◌, ◌≤◌, ◌==◌, Bool, true, false, not, ◌&&◌, ◌||◌, if◌then◌else◌, List, [], ◌∷◌, ◌++◌, length, take, drop, fold, count_by, refl, sym, ap, ap₂, ◌∙◌, subst, arith, append_assoc, length-drop, zero-add, reverse}
use Rattle.std.proofs.lemmas.List.{append-nil, reverse-append, drop_all, drop-append-le, length-reverse, length_push}
use Rattle.std.proofs.lemmas.List.Sums.{sum_by-append, count_by-le-length}
use Rattle.std.proofs.lemmas.List.Folds.{list_all-append}
use Rattle.std.specs.List.{list_all, suffix_len, prefix_len}
use Rattle.al_base.specs.declared.place.Place.{Place}
use Rattle.al_lex.specs.declared.position.Position.{Position}
use Rattle.al_lex.specs.Bytes.{line_feed}
use Rattle.al_lex.specs.Cut.{last_line, is_fresh}
use Rattle.al_lex.specs.Written.{place_after}
use Rattle.al_lex.specs.Position.{IsAt, IsBounded, place_step, step}
use Rattle.al_lex.proofs.Runs.{if_true, if_false, by_bool, choose_by}

pub prefix_bound : (p : ℕ → Bool) (xs : List ℕ) → prefix_len p xs ≤ length xs
prefix_bound p [] = omega arith
prefix_bound p (x ∷ xs) = choose_by (λ n. n ≤ suc (length xs)) (p x) _ _ (λ _. omega (arith, prefix_bound p xs)) (λ _. omega arith)

suffix_more : (q : ℕ → Bool) (xs : List ℕ) (b : ℕ) → suffix_len q (xs ++ b ∷ []) ≡ (if q b then 1 + suffix_len q xs else 0)
suffix_more q xs b = ap (prefix_len q) (reverse-append xs (b ∷ []))

suffix_bound : (q : ℕ → Bool) (xs : List ℕ) → suffix_len q xs ≤ length xs
suffix_bound q xs = omega (arith, prefix_bound q (reverse xs), length-reverse xs)

-- the last line with one byte more
last_line_more : (xs : List ℕ) (b : ℕ) → last_line (xs ++ b ∷ []) ≡ (if b == line_feed then [] else last_line xs ++ b ∷ [])
last_line_more xs b =
    by_bool (b == line_feed)
    (λ t.
    let none : suffix_len q (xs ++ b ∷ []) ≡ 0 = suffix_more q xs b ∙ if_false (q b) _ _ (ap not t) in
    drop_all (length (xs ++ b ∷ []) - suffix_len q (xs ++ b ∷ [])) (xs ++ b ∷ []) (omega (arith, none)) ∙ sym (if_true (b == line_feed) _ _ t))
    (λ f.
    let more : suffix_len q (xs ++ b ∷ []) ≡ 1 + suffix_len q xs = suffix_more q xs b ∙ if_true (q b) _ _ (ap not f) in
    let same : length (xs ++ b ∷ []) - suffix_len q (xs ++ b ∷ []) ≡ length xs - suffix_len q xs = omega (arith, more, length_push xs b, suffix_bound q xs) in
    ap (λ n. drop n (xs ++ b ∷ [])) same ∙ drop-append-le (length xs - suffix_len q xs) xs (b ∷ []) (omega arith) ∙ sym (if_false (b == line_feed) _ _ f))
  where
    q : ℕ → Bool
    q x = not (x == line_feed)

count_more : (p : ℕ → Bool) (xs : List ℕ) (b : ℕ) → count_by p (xs ++ b ∷ []) ≡ count_by p xs + (if p b then 1 else 0)
count_more p xs b = sum_by-append (λ x. if p x then 1 else 0) xs (b ∷ []) ∙ ap (λ n. count_by p xs + n) (zero-add (if p b then 1 else 0))

all_more : (p : ℕ → Bool) (xs : List ℕ) (b : ℕ) → list_all p (xs ++ b ∷ []) ≡ (list_all p xs && p b)
all_more p xs b = list_all-append p xs (b ∷ []) ∙ ap (λ t. list_all p xs && t) (and_end (p b))
  where
    and_end : (t : Bool) → (t && true) ≡ t
    and_end true = refl
    and_end false = refl

same_place : (a b m n : ℕ) → a ≡ m → b ≡ n → ◌≡◌ {A = Place} (record { line = a; col = b }) (record { line = m; col = n })
same_place a b m n e f = ap₂ (λ (x : ℕ) (y : ℕ). let p : Place = record { line = x; col = y } in p) e f

place_more : (before : List ℕ) (b : ℕ) → place_step (place_after before) b ≡ place_after (before ++ b ∷ [])
place_more before b =
    by_bool (b == line_feed)
    (λ t.
    let last : last_line (before ++ b ∷ []) ≡ [] = last_line_more before b ∙ if_true (b == line_feed) _ _ t in
    let lines : count_by (λ x. x == line_feed) (before ++ b ∷ []) ≡ count_by (λ x. x == line_feed) before + 1 = count_more (λ x. x == line_feed) before b ∙ ap (λ n. count_by (λ x. x == line_feed) before + n) (if_true (b == line_feed) _ _ t) in
    if_true (b == line_feed) _ _ t ∙ same_place _ _ _ _ (sym (ap (λ n. n + 1) lines)) (sym (ap (λ l. length l + 1) last)))
    (λ f.
    let last : last_line (before ++ b ∷ []) ≡ last_line before ++ b ∷ [] = last_line_more before b ∙ if_false (b == line_feed) _ _ f in
    let lines : count_by (λ x. x == line_feed) (before ++ b ∷ []) ≡ count_by (λ x. x == line_feed) before = count_more (λ x. x == line_feed) before b ∙ ap (λ n. count_by (λ x. x == line_feed) before + n) (if_false (b == line_feed) _ _ f) ∙ omega arith in
    if_false (b == line_feed) _ _ f ∙ same_place _ _ _ _ (sym (ap (λ n. n + 1) lines)) (sym (ap (λ l. length l + 1) last ∙ ap (λ n. n + 1) (length_push (last_line before) b))))

fresh_more : (before : List ℕ) (b : ℕ) → (b == line_feed || (is_fresh before && (b == 32 || b == 9))) ≡ is_fresh (before ++ b ∷ [])
fresh_more before b =
    by_bool (b == line_feed)
    (λ t. ap (λ x. x || (is_fresh before && (b == 32 || b == 9))) t ∙ sym (ap (list_all (λ x. x == 32 || x == 9)) (last_line_more before b ∙ if_true (b == line_feed) _ _ t)))
    (λ f. ap (λ x. x || (is_fresh before && (b == 32 || b == 9))) f ∙ sym (ap (list_all (λ x. x == 32 || x == 9)) (last_line_more before b ∙ if_false (b == line_feed) _ _ f) ∙ all_more (λ x. x == 32 || x == 9) (last_line before) b))

at_step : (before : List ℕ) (here : Position) (b : ℕ) → IsAt before here → IsAt (before ++ b ∷ []) (step here b)
at_step before here b h = record {
  at = ap (λ n. n + 1) h.at ∙ sym (length_push before b);
  place = ap (λ p. place_step p b) h.place ∙ place_more before b;
  fresh = ap (λ x. b == line_feed || (x && (b == 32 || b == 9))) h.fresh ∙ fresh_more before b;
}

-- the position behind more bytes
pub at_more : (before : List ℕ) (here : Position) (bytes : List ℕ) → IsAt before here → IsAt (before ++ bytes) (fold step here bytes)
at_more before here [] h = subst (λ (l : List ℕ). IsAt l here) (sym (append-nil before)) h
at_more before here (b ∷ bs) h = subst (λ (l : List ℕ). IsAt l (fold step (step here b) bs)) (append_assoc before (b ∷ []) bs) (at_more (before ++ b ∷ []) (step here b) bs (at_step before here b h))

drop_bound : (n : ℕ) (xs : List ℕ) → length (drop n xs) ≤ length xs
drop_bound n xs = omega (arith, length-drop n xs)

pub bounded : (before : List ℕ) (here : Position) → IsAt before here → IsBounded here
bounded before here h = record {
  line = omega (arith, h.at, ap (λ (p : Place). p.line) h.place, count_by-le-length (λ x. x == line_feed) before);
  col = omega (arith, h.at, ap (λ (p : Place). p.col) h.place, drop_bound (length before - suffix_len (λ x. not (x == line_feed)) before) before);
}

take_none : (n : ℕ) → take {A = ℕ} n [] ≡ []
take_none zero = refl
take_none (suc n) = refl

pub take_more_bytes : (i n : ℕ) (xs : List ℕ) → take i xs ++ take n (drop i xs) ≡ take (i + n) xs
take_more_bytes zero n xs = ap (λ m. take m xs) (sym (zero-add n))
take_more_bytes (suc i) n [] = take_none n ∙ sym (take_none (suc i + n))
take_more_bytes (suc i) n (x ∷ xs) = ap (λ l. x ∷ l) (take_more_bytes i n xs) ∙ ap (λ m. take m (x ∷ xs)) (let e : suc (i + n) ≡ suc i + n = omega arith in e)
