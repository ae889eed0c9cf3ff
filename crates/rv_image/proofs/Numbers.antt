-- Bytes as numbers: what was spelled is read again by its place, and what is read spells the bytes.
use Rattle.std.proofs.Common.{◌≡◌, ℕ, zero, suc, ◌+◌, ◌*◌, ◌^◌, ◌<◌, ◌≤◌, List, [], ◌∷◌, ◌++◌, length, get_or, take, drop, refl, sym, ap, ap₂, ◌∙◌, arith, inl, inr}
use Rattle.std.specs.Int.{w32, from_le_bytes}
use Rattle.std.specs.List.{AllByRecursion}
use Rattle.std.proofs.lemmas.Bool.{cases_lt}
use Rattle.std.proofs.lemmas.Nat.{le_bytes_4, from_le_bytes-to_le_bytes_4}
use Rattle.std.proofs.lemmas.List.{append-nil, length-append, drop_at, drop-drop, length-drop, length-take, get_or-drop, get_or-take, get_or_past, take_all}
use Rattle.std.proofs.lemmas.List.Concat.{flat_map-append}
use Rattle.rv_image.specs.Spelling.{number, spelled}
use Rattle.rv_image.specs.Reading.{number_at, listed}

abbrev pub IsBytes : List ℕ → Type 0
IsBytes bytes = (i : ℕ) → get_or bytes i 0 < 256

abbrev pub Fits : ℕ → Type 0
Fits n = n < 2 ^ 32

-- a number that was spelled stands at its place
pub number_again : (ns : List ℕ) (k : ℕ) → AllByRecursion Fits ns → k < length ns → number_at (spelled ns) k ≡ get_or ns k 0
number_again [] k fits lt = absurd (omega arith)
number_again (n ∷ ns) zero fits lt = from_le_bytes-to_le_bytes_4 n fits.0
number_again (n ∷ ns) (suc k) fits lt =
    let e : 4 * suc k ≡ 4 + 4 * k = omega arith in
    ap (λ (j : ℕ). from_le_bytes w32 (take 4 (drop j (number n ++ spelled ns)))) e
    ∙ ap (λ (v : List ℕ). from_le_bytes w32 (take 4 v)) (sym (drop-drop (4 * k) 4 (number n ++ spelled ns)) ∙ ap (drop (4 * k)) (drop_at (number n) (spelled ns) 4 refl))
    ∙ number_again ns k fits.1 (omega arith)

pub length-spelled : (ns : List ℕ) → length (spelled ns) ≡ 4 * length ns
length-spelled [] = refl
length-spelled (n ∷ ns) = omega (arith, length-append (number n) (spelled ns), length-spelled ns)

take_none : {X : Type 0} (n : ℕ) → take {A = X} n [] ≡ []
take_none zero = refl
take_none (suc n) = refl

-- a longer front is a front, and a front of the rest
take-add : {X : Type 0} (m n : ℕ) (xs : List X) → take (m + n) xs ≡ take m xs ++ take n (drop m xs)
take-add zero n xs = let e : 0 + n ≡ n = omega arith in ap (λ (k : ℕ). take k xs) e
take-add (suc m) n [] = take_none (suc m + n) ∙ sym (take_none n)
take-add {X = X} (suc m) n (x ∷ xs) =
    let e : suc m + n ≡ suc (m + n) = omega arith in
    ap (λ (k : ℕ). take k (x ∷ xs)) e ∙ ap (λ (l : List X). x ∷ l) (take-add m n xs)

-- the four bytes of a place
four_bytes : (bytes : List ℕ) (k : ℕ) → IsBytes bytes → IsBytes (take 4 (drop (4 * k) bytes))
four_bytes bytes k fits i =
    elim (cases_lt i 4) [
      | inl lt ↦ rw (get_or-take 4 (drop (4 * k) bytes) i 0 lt) (rw get_or-drop (fits (4 * k + i)))
      | inr le ↦ rw (get_or_past (take 4 (drop (4 * k) bytes)) i 0 (omega (arith, length-take 4 (drop (4 * k) bytes)))) (omega arith)
    ]

below : (four : List ℕ) → IsBytes four → Fits (from_le_bytes w32 four)
below four fits = omega (arith, fits 0, fits 1, fits 2, fits 3)

pub number_fits : (bytes : List ℕ) (k : ℕ) → IsBytes bytes → Fits (number_at bytes k)
number_fits bytes k fits = below (take 4 (drop (4 * k) bytes)) (four_bytes bytes k fits)

-- the numbers of the first places spell the bytes there
spelled_front : (bytes : List ℕ) (n : ℕ) → IsBytes bytes → 4 * n ≤ length bytes → spelled (listed (number_at bytes) n) ≡ take (4 * n) bytes
spelled_front bytes zero fits le = refl
spelled_front bytes (suc n) fits le =
    let len : length (take 4 (drop (4 * n) bytes)) ≡ 4 = omega (arith, length-take 4 (drop (4 * n) bytes), length-drop (4 * n) bytes) in
    let last : number (number_at bytes n) ≡ take 4 (drop (4 * n) bytes) = le_bytes_4 (take 4 (drop (4 * n) bytes)) (number_at bytes n) len (four_bytes bytes n fits) refl in
    let size : 4 * n + 4 ≡ 4 * suc n = omega arith in
    flat_map-append number (listed (number_at bytes) n) (number_at bytes n ∷ [])
    ∙ ap₂ (λ (u v : List ℕ). u ++ v) (spelled_front bytes n fits (omega arith)) (append-nil (number (number_at bytes n)) ∙ last)
    ∙ sym (take-add (4 * n) 4 bytes) ∙ ap (λ (k : ℕ). take k bytes) size

-- the numbers of all places spell the bytes
pub spelled_back : (bytes : List ℕ) (n : ℕ) → IsBytes bytes → 4 * n ≡ length bytes → bytes ≡ spelled (listed (number_at bytes) n)
spelled_back bytes n fits size = sym (spelled_front bytes n fits (omega arith) ∙ take_all (4 * n) bytes (omega arith))
