-- The names in the order first seen.
use Rattle.std.proofs.Common.{◌≡◌, ℕ, ◌+◌, ◌≤◌, nat_eq, Bool, true, false, not, ◌||◌, if◌then◌else◌, List, [], ◌∷◌, ◌++◌, length, map, fold, Result, Ok, Err, IfOk, OnOk, refl, sym, ap, ◌∙◌, arith, length-append}
use Rattle.std.proofs.lemmas.List.{map-append}
use Rattle.std.specs.List.{list_any, position_or_len}
use lib.Pointwise.{pointwise, bytes_decides}
use denote.Bor.{Bor}
use Rattle.indexmap.specs.IndexSet.{insert_key}
use Rattle.al_lex.specs.Written.{noted, same_bytes, first_seen, name_number}
use Rattle.al_lex.specs.declared.kind.TokenKind.{TokenKind}
use Rattle.al_lex.specs.declared.kind.TokenKind.TheVariants as k
use Rattle.al_lex.proofs.Runs.{if_true, if_false, by_bool, choose_by}

abbrev pub Name : Type 0
Name = Bor (List ℕ)

abbrev pub same_name : Name → Name → Bool
same_name a b = pointwise nat_eq a.now b.now

abbrev pub bytes_all : List Name → List (List ℕ)
bytes_all names = map (λ (n : Name). n.now) names

any_bytes : (name : Name) (names : List Name) → list_any (same_name name) names ≡ list_any (same_bytes name.now) (bytes_all names)
any_bytes name [] = refl
any_bytes name (x ∷ xs) = ap (λ b. same_bytes name.now x.now || b) (any_bytes name xs)

pub position_bytes : (name : Name) (names : List Name) → position_or_len (same_name name) names ≡ position_or_len (same_bytes name.now) (bytes_all names)
position_bytes name [] = refl
position_bytes name (x ∷ xs) = ap (λ n. if not (same_bytes name.now x.now) then 1 + n else 0) (position_bytes name xs)

pub noted_bytes : (names : List Name) (name : Name) → bytes_all (insert_key same_name names name) ≡ noted (bytes_all names) name.now
noted_bytes names name =
    by_bool (list_any (same_name name) names)
    (λ t. ap bytes_all (if_true (list_any (same_name name) names) _ _ t) ∙ sym (if_true (list_any (same_bytes name.now) (bytes_all names)) _ _ (sym (any_bytes name names) ∙ t)))
    (λ f. ap bytes_all (if_false (list_any (same_name name) names) _ _ f) ∙ map-append (λ (n : Name). n.now) names (name ∷ []) ∙ sym (if_false (list_any (same_bytes name.now) (bytes_all names)) _ _ (sym (any_bytes name names) ∙ f)))

-- ---- numbers stay

same_self : (w : List ℕ) → same_bytes w w ≡ true
same_self w = (bytes_decides w w).1 refl

-- the first place is in the front where one of it passes
pub position_front : (p : List ℕ → Bool) (xs ys : List (List ℕ)) → list_any p xs ≡ true → position_or_len p (xs ++ ys) ≡ position_or_len p xs
position_front p [] ys h = absurd (let f : ⊥ = cc in f)
position_front p (x ∷ xs) ys h =
    by_bool (p x)
    (λ t. if_false (not (p x)) _ _ (ap not t) ∙ sym (if_false (not (p x)) _ _ (ap not t)))
    (λ f. if_true (not (p x)) _ _ (ap not f) ∙ ap (λ n. 1 + n) (position_front p xs ys (sym (ap (λ b. b || list_any p xs) f) ∙ h)) ∙ sym (if_true (not (p x)) _ _ (ap not f)))

position_behind : (p : List ℕ → Bool) (xs : List (List ℕ)) (y : List ℕ) → list_any p xs ≡ false → p y ≡ true → position_or_len p (xs ++ y ∷ []) ≡ position_or_len p xs
position_behind p [] y h t = if_false (not (p y)) _ _ (ap not t)
position_behind p (x ∷ xs) y h t =
    by_bool (p x)
    (λ g. absurd (let e : true ≡ false = sym (ap (λ b. b || list_any p xs) g) ∙ h in let f : ⊥ = cc in f))
    (λ f. if_true (not (p x)) _ _ (ap not f) ∙ ap (λ n. 1 + n) (position_behind p xs y (sym (ap (λ b. b || list_any p xs) f) ∙ h) t) ∙ sym (if_true (not (p x)) _ _ (ap not f)))

-- the number of a name is the same once it is noted
pub number_noted : (names : List (List ℕ)) (w : List ℕ) → position_or_len (same_bytes w) (noted names w) ≡ position_or_len (same_bytes w) names
number_noted names w =
    by_bool (list_any (same_bytes w) names)
    (λ t. ap (position_or_len (same_bytes w)) (if_true (list_any (same_bytes w) names) _ _ t))
    (λ f. ap (position_or_len (same_bytes w)) (if_false (list_any (same_bytes w) names) _ _ f) ∙ position_behind (same_bytes w) names w f (same_self w))

any_front : (p : List ℕ → Bool) (xs ys : List (List ℕ)) → list_any p xs ≡ true → list_any p (xs ++ ys) ≡ true
any_front p [] ys h = absurd (let f : ⊥ = cc in f)
any_front p (x ∷ xs) ys h =
    by_bool (p x) (λ t. ap (λ b. b || list_any p (xs ++ ys)) t)
    (λ f. ap (λ b. b || list_any p (xs ++ ys)) f ∙ any_front p xs ys (sym (ap (λ b. b || list_any p xs) f) ∙ h))

any_last : (p : List ℕ → Bool) (xs : List (List ℕ)) (y : List ℕ) → p y ≡ true → list_any p (xs ++ y ∷ []) ≡ true
any_last p [] y h = ap (λ b. b || false) h
any_last p (x ∷ xs) y h = ap (λ b. p x || b) (any_last p xs y h) ∙ or_end (p x)
  where
    or_end : (b : Bool) → (b || true) ≡ true
    or_end true = refl
    or_end false = refl

-- a name that is known stays known, with its number
pub known_noted : (names : List (List ℕ)) (w v : List ℕ) → list_any (same_bytes v) names ≡ true → (list_any (same_bytes v) (noted names w) ≡ true) × (position_or_len (same_bytes v) (noted names w) ≡ position_or_len (same_bytes v) names)
known_noted names w v h =
    by_bool (list_any (same_bytes w) names)
    (λ t. let e = if_true (list_any (same_bytes w) names) names (names ++ w ∷ []) t in (ap (list_any (same_bytes v)) e ∙ h, ap (position_or_len (same_bytes v)) e))
    (λ f. let e = if_false (list_any (same_bytes w) names) names (names ++ w ∷ []) f in
    (ap (list_any (same_bytes v)) e ∙ any_front (same_bytes v) names (w ∷ []) h, ap (position_or_len (same_bytes v)) e ∙ position_front (same_bytes v) names (w ∷ []) h))

pub noted_known : (names : List (List ℕ)) (w : List ℕ) → list_any (same_bytes w) (noted names w) ≡ true
noted_known names w =
    by_bool (list_any (same_bytes w) names)
    (λ t. ap (list_any (same_bytes w)) (if_true (list_any (same_bytes w) names) names (names ++ w ∷ []) t) ∙ t)
    (λ f. ap (list_any (same_bytes w)) (if_false (list_any (same_bytes w) names) names (names ++ w ∷ []) f) ∙ any_last (same_bytes w) names w (same_self w))

-- one name more is at most one more
pub noted_len : (names : List (List ℕ)) (w : List ℕ) → length (noted names w) ≤ length names + 1
noted_len names w = choose_by (λ (l : List (List ℕ)). length l ≤ length names + 1) (list_any (same_bytes w) names) names (names ++ w ∷ []) (λ _. omega arith) (λ _. omega (arith, length-append names (w ∷ [])))

pub first_seen_more : (names : List (List ℕ)) (w : List ℕ) → first_seen (names ++ w ∷ []) ≡ noted (first_seen names) w
first_seen_more names w = fold_more [] names
  where
    fold_more : (seen names : List (List ℕ)) → fold noted seen (names ++ w ∷ []) ≡ noted (fold noted seen names) w
    fold_more seen [] = refl
    fold_more seen (x ∷ xs) = fold_more (noted seen x) xs

-- the number that a name got is its number among the names from then on
pub number_kept : {E : Type 0} (r : Result ℕ E) (old new : List (List ℕ)) (kind : TokenKind) (w : List ℕ) → kind ≡ k.Name → OnOk r (new ≡ noted old w) → IfOk r (λ n. n ≡ position_or_len (same_bytes w) old) → IfOk r (λ n. n ≡ name_number new kind w)
number_kept (Ok n) old new kind w is names number =
    number ∙ sym (number_noted old w) ∙ ap (position_or_len (same_bytes w)) (sym names) ∙ ap (λ x. name_number new x w) (sym is)
number_kept (Err e) old new kind w is names number = tt
