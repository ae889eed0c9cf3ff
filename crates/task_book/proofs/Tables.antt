-- Lists of all numbers below one, and sums over lists with one element changed.
use Rattle.std.proofs.Common.{◌≡◌, ◌≢◌, ap₂, ℕ, zero, suc, ◌+◌, ◌<◌, ◌≤◌, Bool, true, false, ◌||◌, List, [], ◌∷◌, ◌++◌, length, set, refl, sym, ap, ◌∙◌, arith, Some, slice_get, cond}
use Rattle.std.specs.List.{sum_by, count_by, list_any}
use Rattle.std.specs.Prelude.{nat_lt}
use Rattle.std.proofs.lemmas.Option.{same_Some}
use Rattle.std.proofs.lemmas.List.Sums.{sum_by-cons}
use Rattle.std.proofs.lemmas.Bool.Decides.{nat_tests}
use Rattle.al_world.specs.Channels.{changed_at}
use Rattle.al_world.specs.Procs.{ProcState, has_ready}
use Rattle.task_book.specs.Kept.{listed}

module _ {X : Type 0} where
  pub listed_same : (f g : ℕ → X) (n : ℕ) → ((m : ℕ) → f m ≡ g m) → listed f n ≡ listed g n
  listed_same f g n e = λ i. listed (λ m. e m i) n

  pub listed_changed : (f g : ℕ → X) (h : X → X) (n p : ℕ) → g p ≡ h (f p) → ((m : ℕ) → m ≢ p → g m ≡ f m) → listed g n ≡ changed_at p h (listed f n)
  listed_changed f g h zero p at others = refl
  listed_changed f g h (suc n) zero at others = ap₂ ◌∷◌ at (listed_same (λ m. g (suc m)) (λ m. f (suc m)) n (λ m. others (suc m) (λ e. absurd (omega arith))))
  listed_changed f g h (suc n) (suc p) at others = ap₂ ◌∷◌ (others 0 (λ e. absurd (omega arith))) (listed_changed (λ m. f (suc m)) (λ m. g (suc m)) h n p at (λ m ne. others (suc m) (λ e. ne (omega arith))))

  pub listed_set : (f g : ℕ → X) (x : X) (n p : ℕ) → g p ≡ x → ((m : ℕ) → m ≢ p → g m ≡ f m) → listed g n ≡ set (listed f n) p x
  listed_set f g x zero p at others = refl
  listed_set f g x (suc n) zero at others = ap₂ ◌∷◌ at (listed_same (λ m. g (suc m)) (λ m. f (suc m)) n (λ m. others (suc m) (λ e. absurd (omega arith))))
  listed_set f g x (suc n) (suc p) at others = ap₂ ◌∷◌ (others 0 (λ e. absurd (omega arith))) (listed_set (λ m. f (suc m)) (λ m. g (suc m)) x n p at (λ m ne. others (suc m) (λ e. ne (omega arith))))

  pub listed_below : (f g : ℕ → X) (n : ℕ) → ((m : ℕ) → m < n → f m ≡ g m) → listed f n ≡ listed g n
  listed_below f g zero e = refl
  listed_below f g (suc n) e = ap₂ ◌∷◌ (e 0 (omega arith)) (listed_below (λ m. f (suc m)) (λ m. g (suc m)) n (λ m lt. e (suc m) (omega arith)))

  pub listed_push : (f : ℕ → X) (n : ℕ) → listed f (suc n) ≡ listed f n ++ f n ∷ []
  listed_push f zero = refl
  listed_push f (suc n) = ap (λ xs. f 0 ∷ xs) (listed_push (λ m. f (suc m)) n)

  pub length-listed : (f : ℕ → X) (n : ℕ) → length (listed f n) ≡ n
  length-listed f zero = refl
  length-listed f (suc n) = ap suc (length-listed (λ m. f (suc m)) n)

  pub get-listed : (f : ℕ → X) (n p : ℕ) → p < n → slice_get (listed f n) p ≡ Some (f p)
  get-listed f zero p lt = absurd (omega arith)
  get-listed f (suc n) zero lt = refl
  get-listed f (suc n) (suc p) lt = get-listed (λ m. f (suc m)) n p (omega arith)

  -- ---- sums

  pub sum_changed : (f : X → ℕ) (h : X → X) (xs : List X) (p : ℕ) (x : X) → slice_get xs p ≡ Some x → sum_by f (changed_at p h xs) + f x ≡ sum_by f xs + f (h x)
  sum_changed f h [] p x e = absurd (cc)
  sum_changed f h (y ∷ ys) zero x e =
      let same : y ≡ x = same_Some y x e in omega (arith, sum_by-cons f (h y) ys, sum_by-cons f y ys, ap f same, ap (λ z. f (h z)) same)
  sum_changed f h (y ∷ ys) (suc p) x e = omega (arith, sum_by-cons f y (changed_at p h ys), sum_by-cons f y ys, sum_changed f h ys p x e)

  pub sum_kept : (f : X → ℕ) (h : X → X) (xs : List X) (p : ℕ) → ((x : X) → f (h x) ≡ f x) → sum_by f (changed_at p h xs) ≡ sum_by f xs
  sum_kept f h [] p e = refl
  sum_kept f h (y ∷ ys) zero e = omega (arith, sum_by-cons f (h y) ys, sum_by-cons f y ys, e y)
  sum_kept f h (y ∷ ys) (suc p) e = omega (arith, sum_by-cons f y (changed_at p h ys), sum_by-cons f y ys, sum_kept f h ys p e)

  pub sum_le : (f g : X → ℕ) (xs : List X) → ((j : ℕ) (y : X) → slice_get xs j ≡ Some y → f y ≤ g y) → sum_by f xs ≤ sum_by g xs
  sum_le f g [] le = omega arith
  sum_le f g (y ∷ ys) le = omega (arith, sum_by-cons f y ys, sum_by-cons g y ys, le 0 y refl, sum_le f g ys (λ j z k. le (suc j) z k))

  pub sum_lt : (f g : X → ℕ) (xs : List X) (i : ℕ) (x : X) → ((j : ℕ) (y : X) → slice_get xs j ≡ Some y → f y ≤ g y) → slice_get xs i ≡ Some x → f x < g x → sum_by f xs < sum_by g xs
  sum_lt f g [] i x le e lt = absurd (cc)
  sum_lt f g (y ∷ ys) zero x le e lt =
      let same : y ≡ x = same_Some y x e in
      omega (arith, sum_by-cons f y ys, sum_by-cons g y ys, ap f same, ap g same, sum_le f g ys (λ j z k. le (suc j) z k))
  sum_lt f g (y ∷ ys) (suc i) x le e lt = omega (arith, sum_by-cons f y ys, sum_by-cons g y ys, le 0 y refl, sum_lt f g ys i x (λ j z k. le (suc j) z k) e lt)

  pub any_counts : (p : X → Bool) (xs : List X) → list_any p xs ≡ nat_lt 0 (count_by p xs)
  any_counts p [] = refl
  any_counts p (x ∷ xs) = rw (sum_by-cons (λ x. cond (p x) 1 0) x xs) (on (p x) (any_counts p xs))
    where
      on : (b : Bool) → list_any p xs ≡ nat_lt 0 (count_by p xs) → (b || list_any p xs) ≡ nat_lt 0 (cond b 1 0 + count_by p xs)
      on true e = grind (arith, nat_tests)
      on false e = grind (arith, nat_tests)

pub none_counts : {X : Type 0} (p : X → Bool) (xs : List X) → list_any p xs ≡ false → count_by p xs ≡ 0
none_counts p xs h = on (count_by p xs) (sym (any_counts p xs) ∙ h)
  where
    on : (n : ℕ) → nat_lt 0 n ≡ false → n ≡ 0
    on n h = grind (arith, nat_tests)

pub any_ready_sum : (xs : List (ProcState ℕ)) → list_any has_ready xs ≡ nat_lt 0 (sum_by (λ q. length q.ready) xs)
any_ready_sum [] = refl
any_ready_sum (x ∷ xs) = rw (sum_by-cons (λ (q : ProcState ℕ). length q.ready) x xs) (on x.ready (any_ready_sum xs))
  where
    on : (r : List ℕ) → list_any has_ready xs ≡ nat_lt 0 (sum_by (λ q. length q.ready) xs) → (nat_lt 0 (length r) || list_any has_ready xs) ≡ nat_lt 0 (length r + sum_by (λ q. length q.ready) xs)
    on r e = grind (arith, nat_tests)
