-- Elements of lists by their numbers, and lists of which each element belongs to one of another.
use Rattle.std.proofs.Common.{◌≡◌, ℕ, zero, suc, ◌+◌, List, [], ◌∷◌, ◌++◌, length, Some, refl, ap, ◌∙◌, subst, arith}
use Rattle.std.specs.Prelude.{All, Contains, slice_get, ⊤}
use Rattle.std.specs.List.{flat_map}
use Rattle.std.proofs.lemmas.Option.{get_or_from_slice_get, slice_get-get_or, slice_get_within}
use Rattle.std.proofs.lemmas.List.Elements.{All-cons, All-head, All-nil, All-tail}
use Rattle.al_sound_rows.proofs.Outcomes.{some_is}

-- ---- by numbers

pub get_append : {A : Type 0} (xs ys : List A) (i : ℕ) (x : A) → slice_get xs i ≡ Some x → slice_get (xs ++ ys) i ≡ Some x
get_append [] ys i x e = absurd (cc)
get_append (y ∷ xs) ys zero x e = e
get_append (y ∷ xs) ys (suc i) x e = get_append xs ys i x e

pub get_behind : {A : Type 0} (xs ys : List A) (i : ℕ) → slice_get (xs ++ ys) (length xs + i) ≡ slice_get ys i
get_behind [] ys i = ap (slice_get ys) (omega arith)
get_behind (x ∷ xs) ys i = ap (slice_get (x ∷ (xs ++ ys))) (next (length xs) i) ∙ get_behind xs ys i
  where
    next : (n i : ℕ) → suc n + i ≡ suc (n + i)
    next n i = omega arith

pub get_contains : {A : Type 0} (xs : List A) (i : ℕ) (x : A) → slice_get xs i ≡ Some x → Contains xs x
get_contains xs i x e = (i, slice_get_within xs i x e, get_or_from_slice_get xs i x x e)

pub contains_get : {A : Type 0} (xs : List A) (x : A) → Contains xs x → (i : ℕ) × (slice_get xs i ≡ Some x)
contains_get xs x c = (c.0, slice_get-get_or xs c.0 x c.1 ∙ ap Some c.2)

abbrev AmongLists : {A : Type 0} → List (List A) → A → Type 0
AmongLists {A = A} xss x = (k : ℕ) × (xs : List A) × (j : ℕ) × (slice_get xss k ≡ Some xs) × (slice_get xs j ≡ Some x)

shifted : {A : Type 0} (y : A) (ys : List A) (xss : List (List A)) (x : A) → AmongLists (ys ∷ xss) x → AmongLists ((y ∷ ys) ∷ xss) x
shifted y ys xss x (zero, xs, j, is, at) = (zero, y ∷ ys, suc j, refl, ap (λ l. slice_get l j) (some_is is) ∙ at)
shifted y ys xss x (suc k, xs, j, is, at) = (suc k, xs, j, is, at)

-- an element of lists one after the other is the one of one of them
pub among_lists : {A : Type 0} (xss : List (List A)) (i : ℕ) (x : A) → slice_get (flat_map (λ xs. xs) xss) i ≡ Some x
    → (k : ℕ) × (xs : List A) × (j : ℕ) × (slice_get xss k ≡ Some xs) × (slice_get xs j ≡ Some x)
among_lists [] i x e = absurd (cc)
among_lists ([] ∷ xss) i x e = let r = among_lists xss i x e in (suc r.0, r.1, r.2, r.3, r.4)
among_lists ((y ∷ ys) ∷ xss) zero x e = (zero, y ∷ ys, zero, refl, e)
among_lists ((y ∷ ys) ∷ xss) (suc i) x e = shifted y ys xss x (among_lists (ys ∷ xss) i x e)

-- ---- of all in one list and the other

pub left_all : {A : Type 0} (P : A → Type 0) (xs ys : List A) → All P (xs ++ ys) → All P xs
left_all P [] ys h = All-nil P
left_all P (x ∷ xs) ys h = All-cons P x xs (All-head P x (xs ++ ys) h) (left_all P xs ys (All-tail P x (xs ++ ys) h))

pub right_all : {A : Type 0} (P : A → Type 0) (xs ys : List A) → All P (xs ++ ys) → All P ys
right_all P [] ys h = h
right_all P (x ∷ xs) ys h = right_all P xs ys (All-tail P x (xs ++ ys) h)

pub lists_contain : {A : Type 0} (P : A → Type 0) (xss : List (List A)) (k : ℕ) (xs : List A) → All P (flat_map (λ xs. xs) xss) → slice_get xss k ≡ Some xs → All P xs
lists_contain P [] k xs h e = absurd (cc)
lists_contain P (ys ∷ xss) zero xs h e = subst (All P) (some_is e) (left_all P ys (flat_map (λ xs. xs) xss) h)
lists_contain P (ys ∷ xss) (suc k) xs h e = lists_contain P xss k xs (right_all P ys (flat_map (λ xs. xs) xss) h) e

-- ---- one list along another

abbrev pub Along : {A B : Type 0} → (A → B → Type 0) → List A → List B → Type 0
Along R [] [] = ⊤
Along R (x ∷ xs) (y ∷ ys) = R x y × Along R xs ys
Along R [] (y ∷ ys) = ⊥
Along R (x ∷ xs) [] = ⊥

module _ {A B : Type 0} (R : A → B → Type 0) where
  pub along_append : (xs us : List A) (ys vs : List B) → Along R xs ys → Along R us vs → Along R (xs ++ us) (ys ++ vs)
  along_append [] us [] vs h k = k
  along_append (x ∷ xs) us (y ∷ ys) vs h k = (h.0, along_append xs us ys vs h.1 k)
  along_append [] us (y ∷ ys) vs h k = absurd h
  along_append (x ∷ xs) us [] vs h k = absurd h

  pub along_length : (xs : List A) (ys : List B) → Along R xs ys → length xs ≡ length ys
  along_length [] [] h = refl
  along_length (x ∷ xs) (y ∷ ys) h = ap suc (along_length xs ys h.1)
  along_length [] (y ∷ ys) h = absurd h
  along_length (x ∷ xs) [] h = absurd h

  pub along_all : (P : A → Type 0) (Q : B → Type 0) → ((x : A) (y : B) → P x → R x y → Q y) → (xs : List A) (ys : List B) → Along R xs ys → All P xs → All Q ys
  along_all P Q f [] [] h all = All-nil Q
  along_all P Q f (x ∷ xs) (y ∷ ys) h all = All-cons Q y ys (f x y (All-head P x xs all) h.0) (along_all P Q f xs ys h.1 (All-tail P x xs all))
  along_all P Q f [] (y ∷ ys) h all = absurd h
  along_all P Q f (x ∷ xs) [] h all = absurd h

pub along_weaker : {A B : Type 0} (R S : A → B → Type 0) → ((x : A) (y : B) → R x y → S x y) → (xs : List A) (ys : List B) → Along R xs ys → Along S xs ys
along_weaker R S f [] [] h = tt
along_weaker R S f (x ∷ xs) (y ∷ ys) h = (f x y h.0, along_weaker R S f xs ys h.1)
along_weaker R S f [] (y ∷ ys) h = absurd h
along_weaker R S f (x ∷ xs) [] h = absurd h
