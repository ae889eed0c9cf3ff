-- Lists: facts on all elements, and elements by their place.
use Rattle.std.proofs.Common.{◌≡◌, ℕ, zero, suc, List, [], ◌∷◌, ◌++◌, Bool, true, false, cond, ◌&&◌, ◌||◌, map, filter, take, Some, refl, sym, ap, ◌∙◌, subst, length, Result, Ok}
use Rattle.std.specs.Prelude.{slice_get}
use Rattle.std.specs.List.{AllByRecursion, list_any}
use Rattle.std.proofs.lemmas.Option.{same_Some}
use Rattle.al_world.specs.Transfers.{IsIn}

pub true_false : true ≡ false → ⊥
true_false h = cc

pub and_true : (a b : Bool) → (a && b) ≡ true → (a ≡ true) × (b ≡ true)
and_true true b h = (refl, h)
and_true false b h = absurd (cc)

pub or_false : (a b : Bool) → (a || b) ≡ false → (a ≡ false) × (b ≡ false)
or_false false b h = (refl, h)
or_false true b h = absurd (cc)

module _ {X : Type 0} where
  pub all_to : (P Q : X → Type 0) → ((x : X) → P x → Q x) → (xs : List X) → AllByRecursion P xs → AllByRecursion Q xs
  all_to P Q f [] h = tt
  all_to P Q f (x ∷ xs) h = (f x h.0, all_to P Q f xs h.1)

  pub all_append : (P : X → Type 0) (xs ys : List X) → AllByRecursion P xs → AllByRecursion P ys → AllByRecursion P (xs ++ ys)
  all_append P [] ys h k = k
  all_append P (x ∷ xs) ys h k = (h.0, all_append P xs ys h.1 k)

  pub all_filter : (P : X → Type 0) (test : X → Bool) (xs : List X) → AllByRecursion P xs → AllByRecursion P (filter test xs)
  all_filter P test [] h = tt
  all_filter P test (x ∷ xs) h =
      elim (test x) as (λ b. AllByRecursion P (cond b (x ∷ filter test xs) (filter test xs))) [ true ↦ (h.0, all_filter P test xs h.1) | false ↦ all_filter P test xs h.1 ]

  pub all_take : (P : X → Type 0) (n : ℕ) (xs : List X) → AllByRecursion P xs → AllByRecursion P (take n xs)
  all_take P zero xs h = tt
  all_take P (suc n) [] h = tt
  all_take P (suc n) (x ∷ xs) h = (h.0, all_take P n xs h.1)

  pub all_if : (P : X → Type 0) (b : Bool) (xs ys : List X) → (b ≡ true → AllByRecursion P xs) → (b ≡ false → AllByRecursion P ys) → AllByRecursion P (cond b xs ys)
  all_if P true xs ys h k = h refl
  all_if P false xs ys h k = k refl

  pub in_tail : (y x : X) (xs : List X) → IsIn xs x → IsIn (y ∷ xs) x
  in_tail y x xs i = record { at = suc i.at; is = i.is }

  pub all_in : (xs : List X) (P : X → Type 0) → ((x : X) → IsIn xs x → P x) → AllByRecursion P xs
  all_in [] P h = tt
  all_in (x ∷ xs) P h = (h x (record { at = 0; is = refl }), all_in xs P (λ y i. h y (in_tail x y xs i)))

  pub all_at : (P : X → Type 0) (xs : List X) (x : X) → AllByRecursion P xs → IsIn xs x → P x
  all_at P xs x h i = on xs i.at h i.is
    where
      on : (xs : List X) (k : ℕ) → AllByRecursion P xs → slice_get xs k ≡ Some x → P x
      on [] k h g = absurd (cc)
      on (y ∷ ys) zero h g = subst P (same_Some y x g) h.0
      on (y ∷ ys) (suc k) h g = on ys k h.1 g

  -- what passes a filter is in the list and passes the test
  pub in_filter : (test : X → Bool) (xs : List X) → AllByRecursion (λ x. IsIn xs x × (test x ≡ true)) (filter test xs)
  in_filter test [] = tt
  in_filter test (x ∷ xs) =
      on (test x) refl (all_to _ _ (λ y h. (in_tail x y xs h.0, h.1)) (filter test xs) (in_filter test xs))
    where
      on : (b : Bool) → test x ≡ b → AllByRecursion (λ y. IsIn (x ∷ xs) y × (test y ≡ true)) (filter test xs) → AllByRecursion (λ y. IsIn (x ∷ xs) y × (test y ≡ true)) (cond b (x ∷ filter test xs) (filter test xs))
      on true e later = ((record { at = 0; is = refl }, e), later)
      on false e later = later

  pub all_map : {Y : Type 0} (P : Y → Type 0) (f : X → Y) (xs : List X) → AllByRecursion (λ x. P (f x)) xs → AllByRecursion P (map f xs)
  all_map P f [] h = tt
  all_map P f (x ∷ xs) h = (h.0, all_map P f xs h.1)

  pub in_left : (xs ys : List X) (x : X) → IsIn xs x → IsIn (xs ++ ys) x
  in_left [] ys x i = absurd (let e = i.is in cc)
  in_left (z ∷ zs) ys x i = on i.at i.is (in_left zs ys x)
    where
      on : (k : ℕ) → slice_get (z ∷ zs) k ≡ Some x → (IsIn zs x → IsIn (zs ++ ys) x) → IsIn (z ∷ (zs ++ ys)) x
      on zero e later = record { at = 0; is = e }
      on (suc k) e later = in_tail z x (zs ++ ys) (later (record { at = k; is = e }))

  pub in_right : (xs ys : List X) (x : X) → IsIn ys x → IsIn (xs ++ ys) x
  in_right [] ys x i = i
  in_right (z ∷ zs) ys x i = in_tail z x (zs ++ ys) (in_right zs ys x i)

  -- what passes a filter stays
  pub stays_in : (test : X → Bool) (xs : List X) (x : X) → IsIn xs x → test x ≡ true → IsIn (filter test xs) x
  stays_in test [] x i e = absurd (let h = i.is in cc)
  stays_in test (y ∷ ys) x i e = on i.at i.is (test y) refl (λ k h. stays_in test ys x (record { at = k; is = h }) e)
    where
      on : (k : ℕ) → slice_get (y ∷ ys) k ≡ Some x → (b : Bool) → test y ≡ b → ((k : ℕ) → slice_get ys k ≡ Some x → IsIn (filter test ys) x) → IsIn (cond b (y ∷ filter test ys) (filter test ys)) x
      on zero h true t later = record { at = 0; is = h }
      on zero h false t later = let same : y ≡ x = same_Some y x h in absurd (true_false (sym e ∙ ap test (sym same) ∙ t))
      on (suc k) h true t later = in_tail y x (filter test ys) (later k h)
      on (suc k) h false t later = later k h

  pub get_seam : (pre : List X) (x : X) (rest : List X) → slice_get (pre ++ x ∷ rest) (length pre) ≡ Some x
  get_seam [] x rest = refl
  get_seam (y ∷ ys) x rest = get_seam ys x rest

  -- where no element passes a test, the one at a place does not
  pub any_false_at : (test : X → Bool) (xs : List X) (i : ℕ) (x : X) → list_any test xs ≡ false → slice_get xs i ≡ Some x → test x ≡ false
  any_false_at test [] i x h g = absurd (cc)
  any_false_at test (y ∷ ys) zero x h g = let e : y ≡ x = same_Some y x g in subst (λ x. test x ≡ false) e (or_false _ _ h).0
  any_false_at test (y ∷ ys) (suc i) x h g = any_false_at test ys i x (or_false _ _ h).1 g

pub same_ok : {X E : Type 0} (x y : X) → ◌≡◌ {A = Result X E} (Ok x) (Ok y) → x ≡ y
same_ok x y h = cc
