-- Truth values, and numbers below a bound.
use Rattle.std.proofs.Common.{◌≡◌, ◌≢◌, ℕ, zero, suc, ◌<◌, ◌≤◌, Bool, true, false, ◌&&◌, ◌||◌, ◌==◌, ◌⊎◌, inl, inr, refl, sym, ap, ◌∙◌, subst, arith}
use Rattle.std.specs.Prelude.{nat_lt}
use Rattle.std.proofs.lemmas.Bool.Decides.{leb_tells, eqb_tells}
use Rattle.al_race.specs.Order.{some_below}

pub equal : (a b : ℕ) → (a == b) ≡ true → a ≡ b
equal a b e = on (eqb_tells a b)
  where
    on : (((a == b) ≡ true) × (a ≡ b)) ⊎ (((a == b) ≡ false) × (a ≢ b)) → a ≡ b
    on (inl x) = x.1
    on (inr x) = absurd (let differ = sym e ∙ x.0 in cc)

pub not_equal : (a b : ℕ) → a ≢ b → (a == b) ≡ false
not_equal a b n = on (eqb_tells a b)
  where
    on : (((a == b) ≡ true) × (a ≡ b)) ⊎ (((a == b) ≡ false) × (a ≢ b)) → (a == b) ≡ false
    on (inl x) = absurd (n x.1)
    on (inr x) = x.0

pub unequal : (a b : ℕ) → (a == b) ≡ false → a ≢ b
unequal a b e same = on (eqb_tells a b)
  where
    on : (((a == b) ≡ true) × (a ≡ b)) ⊎ (((a == b) ≡ false) × (a ≢ b)) → ⊥
    on (inl x) = let differ = sym e ∙ x.0 in cc
    on (inr x) = x.1 same

pub same_number : (a : ℕ) → (a == a) ≡ true
same_number a = on (eqb_tells a a)
  where
    on : (((a == a) ≡ true) × (a ≡ a)) ⊎ (((a == a) ≡ false) × (a ≢ a)) → (a == a) ≡ true
    on (inl x) = x.0
    on (inr x) = absurd (x.1 refl)

pub below : (a b : ℕ) → a < b → nat_lt a b ≡ true
below a b h = on (leb_tells (suc a) b)
  where
    on : ((nat_lt a b ≡ true) × (suc a ≤ b)) ⊎ ((nat_lt a b ≡ false) × (b < suc a)) → nat_lt a b ≡ true
    on (inl x) = x.0
    on (inr x) = absurd (let y = x.1 in omega (arith, h, y))

pub is_below : (a b : ℕ) → nat_lt a b ≡ true → a < b
is_below a b e = on (leb_tells (suc a) b)
  where
    on : ((nat_lt a b ≡ true) × (suc a ≤ b)) ⊎ ((nat_lt a b ≡ false) × (b < suc a)) → a < b
    on (inl x) = x.1
    on (inr x) = absurd (let differ = sym e ∙ x.0 in cc)

pub both_true : (a b : Bool) → (a && b) ≡ true → (a ≡ true) × (b ≡ true)
both_true true b h = (refl, h)
both_true false b h = absurd (cc)

pub not_below : (a b : ℕ) → b ≤ a → nat_lt a b ≡ false
not_below a b h = on (leb_tells (suc a) b)
  where
    on : ((nat_lt a b ≡ true) × (suc a ≤ b)) ⊎ ((nat_lt a b ≡ false) × (b < suc a)) → nat_lt a b ≡ false
    on (inl x) = absurd (let y = x.1 in omega (arith, h, y))
    on (inr x) = x.0

pub or_swap : (a b c d : Bool) → ((a || b) || (c || d)) ≡ ((a || c) || (b || d))
or_swap true b c d = refl
or_swap false true true d = refl
or_swap false true false d = refl
or_swap false false c d = refl

pub or_same : (a b c : Bool) → (a || (b || c)) ≡ ((a || b) || c)
or_same true b c = refl
or_same false b c = refl

pub or_false : (a : Bool) → (a || false) ≡ a
or_false true = refl
or_false false = refl

-- what tells nothing new
pub or_within : (a b : Bool) → (b ≡ true → a ≡ true) → (a || b) ≡ a
or_within true b f = refl
or_within false true f = sym (f refl)
or_within false false f = refl

pub or_and : (a b c : Bool) → ((a || b) && c) ≡ ((a && c) || (b && c))
or_and true true true = refl
or_and true true false = refl
or_and true false true = refl
or_and true false false = refl
or_and false b c = refl

pub true_or : (a b : Bool) → a ≡ true → (a || b) ≡ true
true_or a b e = ap (λ (x : Bool). x || b) e

pub or_true : (a b : Bool) → b ≡ true → (a || b) ≡ true
or_true true b e = refl
or_true false b e = e

pub and_true : (a b : Bool) → a ≡ true → b ≡ true → (a && b) ≡ true
and_true a b e f = ap (λ (x : Bool). x && b) e ∙ f

-- ---- some number below a bound

pub some_same : (n : ℕ) (f g : ℕ → Bool) → ((k : ℕ) → k < n → f k ≡ g k) → some_below n f ≡ some_below n g
some_same zero f g h = refl
some_same (suc n) f g h =
    ap (λ (x : Bool). x || some_below n f) (h n (omega arith)) ∙ ap (λ (x : Bool). g n || x) (some_same n f g (λ k low. h k (omega (arith, low))))

pub some_none : (n : ℕ) (f : ℕ → Bool) → ((k : ℕ) → k < n → f k ≡ false) → some_below n f ≡ false
some_none zero f h = refl
some_none (suc n) f h =
    ap (λ (x : Bool). x || some_below n f) (h n (omega arith)) ∙ some_none n f (λ k low. h k (omega (arith, low)))

pub some_at : (n : ℕ) (f : ℕ → Bool) (k : ℕ) → k < n → f k ≡ true → some_below n f ≡ true
some_at zero f k low e = absurd (omega (arith, low))
some_at (suc n) f k low e = on (n == k) refl (λ less. some_at n f k less e)
  where
    lower : (n k : ℕ) → k < suc n → n ≢ k → k < n
    lower n k low apart = omega (arith, low, apart)

    on : (b : Bool) → (n == k) ≡ b → (k < n → some_below n f ≡ true) → (f n || some_below n f) ≡ true
    on true same later = true_or (f n) (some_below n f) (subst (λ (m : ℕ). f m ≡ true) (sym (equal n k same)) e)
    on false apart later = or_true (f n) (some_below n f) (later (lower n k low (unequal n k apart)))

-- a test that holds of some number holds of one of these
pub some_by : (n : ℕ) (f : ℕ → Bool) → some_below n f ≡ true → (k : ℕ) × (k < n) × (f k ≡ true)
some_by zero f e = absurd (cc)
some_by (suc n) f e = on (f n) refl (some_by n f)
  where
    on : (b : Bool) → f n ≡ b → (some_below n f ≡ true → (k : ℕ) × (k < n) × (f k ≡ true)) → (k : ℕ) × (k < suc n) × (f k ≡ true)
    on true is later = (n, omega arith, is)
    on false is later =
        let rest = later (sym (ap (λ (x : Bool). x || some_below n f) is) ∙ e) in
        let low = rest.1 in
        (rest.0, omega (arith, low), rest.2)

pub some_or : (n : ℕ) (f g h : ℕ → Bool) → some_below n (λ k. (f k || g k) && h k) ≡ (some_below n (λ k. f k && h k) || some_below n (λ k. g k && h k))
some_or zero f g h = refl
some_or (suc n) f g h =
    ap (λ (x : Bool). x || some_below n (λ k. (f k || g k) && h k)) (or_and (f n) (g n) (h n))
    ∙ (ap (λ (x : Bool). ((f n && h n) || (g n && h n)) || x) (some_or n f g h)
    ∙ or_swap (f n && h n) (g n && h n) (some_below n (λ k. f k && h k)) (some_below n (λ k. g k && h k)))

-- a test that holds of one number only
pub some_one : (n m : ℕ) (h : ℕ → Bool) → m < n → some_below n (λ k. (m == k) && h k) ≡ h m
some_one n m h low = on (h m) refl
  where
    one : (k : ℕ) → (b : Bool) → (m == k) ≡ b → h m ≡ false → ((m == k) && h k) ≡ false
    one k true same none = ap (λ (x : Bool). x && h k) same ∙ subst (λ (j : ℕ). h j ≡ false) (equal m k same) none
    one k false same none = ap (λ (x : Bool). x && h k) same

    on : (b : Bool) → h m ≡ b → some_below n (λ k. (m == k) && h k) ≡ h m
    on true is = some_at n (λ k. (m == k) && h k) m low (and_true (m == m) (h m) (same_number m) is) ∙ sym is
    on false is = some_none n (λ k. (m == k) && h k) (λ k _. one k (m == k) refl is) ∙ sym is
