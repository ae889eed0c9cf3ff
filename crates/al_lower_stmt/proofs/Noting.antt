-- Tables of places, and places by their level.
use Rattle.std.proofs.Common.{◌≡◌, ℕ, zero, suc, ◌-◌, ◌<◌, ◌≤◌, Bool, true, false, List, [], ◌∷◌, ◌++◌, length, map, get_or, Option, Some, None, refl, sym, ap, ap₂, ◌∙◌, arith, eq-eqb}
use Rattle.std.specs.Prelude.{◌==◌, if◌then◌else◌, unwrap_or}
use Rattle.std.proofs.lemmas.Bool.{false≢true, eqb-true}
use Rattle.std.proofs.lemmas.List.{get_or-set_same, get_or-set_other}
use Rattle.std.proofs.Math.ListN.{set}
use Rattle.al_meaning.specs.Parts.{first_of_two}
use Rattle.al_lower_code.specs.Statements.{at_level}
use Rattle.al_lower_stmt.proofs.InBodies.{first_alone, first_then}

by_test : (P : Bool → Type 0) (b : Bool) → (b ≡ true → P true) → (b ≡ false → P false) → P b
by_test P true holds fails = holds refl
by_test P false holds fails = fails refl

-- ---- in a table

pub room_is_empty : (places : List (Option ℕ)) (l : ℕ) → get_or (places ++ None ∷ []) l None ≡ get_or places l None
room_is_empty [] zero = refl
room_is_empty [] (suc l) = refl
room_is_empty (p ∷ ps) zero = refl
room_is_empty (p ∷ ps) (suc l) = room_is_empty ps l

pub read_alike : {A : Type 0} (xs : List A) (i : ℕ) (d e : A) → i < length xs → get_or xs i d ≡ get_or xs i e
read_alike [] i d e h = absurd (omega arith)
read_alike (x ∷ xs) zero d e h = refl
read_alike (x ∷ xs) (suc i) d e h = read_alike xs i d e (omega arith)

pub kept_place : (places : List (Option ℕ)) (at l pc p : ℕ) (there : Option ℕ) → at < length places → there ≡ get_or places at there → there ≡ Some p
    → get_or places l None ≡ first_of_two (get_or places l None) (if at == l then Some pc else None)
kept_place places at l pc p there h is some =
    by_test (λ (b : Bool). get_or places l None ≡ first_of_two (get_or places l None) (if b then Some pc else None)) (at == l)
    (λ same.
    let found : get_or places l None ≡ Some p =
    ap (λ (k : ℕ). get_or places k None) (sym (eqb-true at l same)) ∙ read_alike places at None there h ∙ sym is ∙ some
    in
    found ∙ sym (ap (λ (q : Option ℕ). first_of_two q (Some pc)) found))
    (λ other. sym (first_alone (get_or places l None)))

pub new_place : (places : List (Option ℕ)) (at l pc : ℕ) (there : Option ℕ) → at < length places → there ≡ get_or places at there → there ≡ None
    → get_or (set places at (Some pc)) l None ≡ first_of_two (get_or places l None) (if at == l then Some pc else None)
new_place places at l pc there h is none =
    by_test (λ (b : Bool). get_or (set places at (Some pc)) l None ≡ first_of_two (get_or places l None) (if b then Some pc else None)) (at == l)
    (λ same.
    let found : get_or places l None ≡ None =
    ap (λ (k : ℕ). get_or places k None) (sym (eqb-true at l same)) ∙ read_alike places at None there h ∙ sym is ∙ none
    in
    ap (λ (k : ℕ). get_or (set places at (Some pc)) k None) (sym (eqb-true at l same)) ∙ get_or-set_same places at (Some pc) None h
    ∙ sym (ap (λ (q : Option ℕ). first_of_two q (Some pc)) found))
    (λ other.
    get_or-set_other places at l (Some pc) None (λ e. false≢true (sym other ∙ eq-eqb at l (sym e))) ∙ sym (first_alone (get_or places l None)))

pub label_first : (b : Bool) (pc : ℕ) (p q : Option ℕ) → first_of_two (first_of_two p (if b then Some pc else None)) q ≡ first_of_two p (if b then Some pc else q)
label_first true pc (Some a) q = refl
label_first true pc None q = refl
label_first false pc (Some a) q = refl
label_first false pc None q = refl

-- ---- by their level

level_is : {A : Type 0} (a : A) (n : ℕ) (xs : List A) → at_level a (suc n) xs ≡ get_or xs n a
level_is a n [] = refl
level_is a zero (x ∷ xs) = refl
level_is a (suc n) (x ∷ xs) = level_is a n xs

pub level_at : {A : Type 0} (a : A) (n : ℕ) (xs : List A) → 0 < n → at_level a n xs ≡ get_or xs (n - 1) a
level_at a zero xs h = absurd (omega arith)
level_at a (suc n) xs h = level_is a n xs ∙ ap (λ (k : ℕ). get_or xs k a) (omega arith)

pub level_within : {A : Type 0} (a x : A) (n : ℕ) (xs : List A) → 0 < n → n - 1 < length xs → x ≡ get_or xs (n - 1) x → x ≡ at_level a n xs
level_within a x n xs h within is = is ∙ read_alike xs (n - 1) x a within ∙ sym (level_at a n xs h)

read_past : {A : Type 0} (a : A) (i : ℕ) (xs : List A) → length xs ≤ i → get_or xs i a ≡ a
read_past a i [] h = refl
read_past a zero (x ∷ xs) h = absurd (omega arith)
read_past a (suc i) (x ∷ xs) h = read_past a i xs (omega arith)

pub level_past : {A : Type 0} (a : A) (n : ℕ) (xs : List A) → 0 < n → length xs ≤ n - 1 → a ≡ at_level a n xs
level_past a n xs h past = sym (read_past a (n - 1) xs past) ∙ sym (level_at a n xs h)

pub level_mapped : {A B : Type 0} (f : A → B) (a : A) (n : ℕ) (xs : List A) → f (at_level a n xs) ≡ at_level (f a) n (map f xs)
level_mapped f a zero xs = refl
level_mapped f a (suc n) [] = refl
level_mapped f a (suc zero) (x ∷ xs) = refl
level_mapped f a (suc (suc n)) (x ∷ xs) = level_mapped f a (suc n) xs

-- ---- one place behind another

pub first_twice : (before between after q q' r r' : Option ℕ) → between ≡ first_of_two before q → after ≡ first_of_two between r → q ≡ q' → r ≡ r'
    → after ≡ first_of_two before (first_of_two q' r')
first_twice before between after q q' r r' one two same other =
    two ∙ ap₂ first_of_two (one ∙ ap (first_of_two before) same) other ∙ first_then before q' r'

-- ---- the place of a label, 0 where it has none

pub label_found : (places : List (Option ℕ)) (at p : ℕ) (there : Option ℕ) → at < length places → there ≡ get_or places at there → there ≡ Some p → p ≡ unwrap_or (get_or places at None) 0
label_found places at p there h is some =
    sym (ap (λ (place : Option ℕ). unwrap_or place 0) (read_alike places at None there h ∙ sym is ∙ some))

pub label_missing : (places : List (Option ℕ)) (at : ℕ) (there : Option ℕ) → at < length places → there ≡ get_or places at there → there ≡ None → 0 ≡ unwrap_or (get_or places at None) 0
label_missing places at there h is none =
    sym (ap (λ (place : Option ℕ). unwrap_or place 0) (read_alike places at None there h ∙ sym is ∙ none))

pub label_past : (places : List (Option ℕ)) (at : ℕ) → length places ≤ at → 0 ≡ unwrap_or (get_or places at None) 0
label_past places at h = sym (ap (λ (place : Option ℕ). unwrap_or place 0) (read_past None at places h))
