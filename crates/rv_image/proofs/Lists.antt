-- Lists of what stands at each place.
use Rattle.std.proofs.Common.{◌≡◌, ℕ, zero, suc, ◌+◌, ◌<◌, List, [], ◌∷◌, ◌++◌, length, get_or, refl, sym, ap, ap₂, ◌∙◌, append_assoc, arith}
use Rattle.std.proofs.lemmas.List.{append-nil, length-append}
use Rattle.std.proofs.lemmas.List.Concat.{flat_map-append}
use Rattle.rv_image.specs.Reading.{listed}
use Rattle.rv_image.specs.Spelling.{spelled}

pub length-listed : {X : Type 0} (f : ℕ → X) (n : ℕ) → length (listed f n) ≡ n
length-listed f zero = refl
length-listed f (suc n) = omega (arith, length-append (listed f n) (f n ∷ []), length-listed f n)

-- what stands at the places from 0 on, in two parts
pub listed-add : {X : Type 0} (f : ℕ → X) (m n : ℕ) → listed f (m + n) ≡ listed f m ++ listed (λ k. f (m + k)) n
listed-add {X} f m zero =
    let e : m + 0 ≡ m = omega arith in
    ap (listed f) e ∙ sym (append-nil (listed f m))
listed-add {X} f m (suc n) =
    let e : m + suc n ≡ suc (m + n) = omega arith in
    ap (listed f) e ∙ ap (λ (v : List X). v ++ f (m + n) ∷ []) (listed-add f m n) ∙ append_assoc (listed f m) (listed (λ k. f (m + k)) n) (f (m + n) ∷ [])

listed-past : {X : Type 0} (f : ℕ → X) (front xs : List X) → ((k : ℕ) (d : X) → k < length xs → f (length front + k) ≡ get_or xs k d) → listed f (length front) ≡ front
    → listed f (length front + length xs) ≡ front ++ xs
listed-past {X} f front [] h e =
    let none : length front + 0 ≡ length front = omega arith in
    ap (listed f) none ∙ e ∙ sym (append-nil front)
listed-past {X} f front (x ∷ xs) h e =
    let longer : length (front ++ x ∷ []) ≡ suc (length front) = omega (arith, length-append front (x ∷ [])) in
    let here : length front ≡ length front + 0 = omega arith in
    let first : f (length front) ≡ x = ap f here ∙ h 0 x (omega arith) in
    let so_far : listed f (length (front ++ x ∷ [])) ≡ front ++ x ∷ [] = ap (listed f) longer ∙ ap₂ (λ (u : List X) (v : X). u ++ v ∷ []) e first in
    let rest : (k : ℕ) (d : X) → k < length xs → f (length (front ++ x ∷ []) + k) ≡ get_or xs k d =
    λ k d lt. let there : length (front ++ x ∷ []) + k ≡ length front + suc k = omega (arith, longer) in ap f there ∙ h (suc k) d (omega arith) in
    let size : length front + length (x ∷ xs) ≡ length (front ++ x ∷ []) + length xs = omega (arith, longer) in
    ap (listed f) size ∙ listed-past f (front ++ x ∷ []) xs rest so_far ∙ append_assoc front (x ∷ []) xs

-- a list is what stands at its places
pub listed_all : {X : Type 0} (f : ℕ → X) (xs : List X) → ((k : ℕ) (d : X) → k < length xs → f k ≡ get_or xs k d) → listed f (length xs) ≡ xs
listed_all {X} f xs h =
    let size : length xs ≡ 0 + length xs = omega arith in
    let at : (k : ℕ) (d : X) → k < length xs → f (0 + k) ≡ get_or xs k d = λ k d lt. let e : 0 + k ≡ k = omega arith in ap f e ∙ h k d lt in
    ap (listed f) size ∙ listed-past f [] xs at refl

-- the bytes of six lists, put one behind the other
pub written : (o0 o1 o2 o3 o4 o5 o6 h f g i c l : List ℕ) → o0 ≡ [] → o1 ≡ o0 ++ spelled h → o2 ≡ o1 ++ spelled f → o3 ≡ o2 ++ spelled g
    → o4 ≡ o3 ++ spelled i → o5 ≡ o4 ++ spelled c → o6 ≡ o5 ++ spelled l → o6 ≡ spelled (h ++ (f ++ g ++ i ++ c) ++ l)
written o0 o1 o2 o3 o4 o5 o6 h f g i c l z e1 e2 e3 e4 e5 e6 = rw (e6, e5, e4, e3, e2, e1, z) (simp (flat_map-append, append_assoc))
