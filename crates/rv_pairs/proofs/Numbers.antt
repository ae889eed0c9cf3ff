-- Numbers of 64 bits and their words: sums, differences, bits and products.
use Rattle.std.proofs.Common.{◌≡◌, ◌≢◌, ℕ, ◌+◌, ◌-◌, ◌*◌, ◌/◌, ◌%◌, ◌^◌, ◌<◌, ◌≤◌, ◌==◌, Bool, true, false, nat_lt, ℤ, pos, negsuc, ◌+ℤ◌, ◌-ℤ◌, ◌*ℤ◌, Some, refl, sym, ap, ap₂, ◌∙◌, arith, ◌⊎◌, inl, inr}
use Rattle.std.specs.Prelude.{bit_and, bit_or, bit_xor}
use Rattle.std.proofs.Math.Nat.{mod-eq_of_lt}
use Rattle.std.proofs.lemmas.Nat.{and_le_l, or_lt, xor_lt, and_shr, or_shr, xor_shr, and_mod, or_mod, xor_mod}
use Rattle.std.proofs.lemmas.Int.{ints}
use Rattle.al_base.specs.Arith.{applied, wrapped, integer_of, value_of}
use Rattle.al_base.specs.declared.arith.Op.TheVariants as arith
use Rattle.al_base.specs.declared.arith.Kind.TheVariants as kind
use Rattle.al_base.proofs.Products.{product_in, wrapped-value}
use Rattle.rv_exec.specs.Words.{flag, sum_of, difference_of}
use Rattle.rv_long.proofs.Integers.{signed_value}
use Rattle.rv_long.proofs.Numbers.{less}
use Rattle.al_ir.specs.Step.{long_kind, pair}

-- ---- numbers and integers

pub pair_below : (x y : ℕ) → x < 2 ^ 32 → y < 2 ^ 32 → pair x y < 2 ^ 64
pair_below x y a b = omega (arith, a, b)

wraps : (z : ℤ) (n k : ℕ) → z +ℤ pos (k * 2 ^ 64) ≡ pos n → wrapped 64 z ≡ n % 2 ^ 64
wraps (pos m) n k e = let f : m + k * 2 ^ 64 ≡ n = omega (arith, ints, e) in omega (arith, f)
wraps (negsuc m) n k e = let f : k * 2 ^ 64 ≡ n + (m + 1) = omega (arith, ints, e) in omega (arith, f)

pub unsigned_value : (x : ℕ) → x < 2 ^ 64 → integer_of kind.Ulint x ≡ pos x
unsigned_value x a = ap pos (mod-eq_of_lt a)

pub sums : (s : Bool) (x y : ℕ) → x < 2 ^ 64 → y < 2 ^ 64 → wrapped 64 (integer_of (long_kind s) x +ℤ integer_of (long_kind s) y) ≡ (x + y) % 2 ^ 64
sums true x y a b = on (signed_value x a) (signed_value y b) where
  on : ((x < 2 ^ 63) × (value_of true 64 x ≡ pos x)) ⊎ ((2 ^ 63 ≤ x) × (value_of true 64 x ≡ negsuc (2 ^ 64 - 1 - x)))
      → ((y < 2 ^ 63) × (value_of true 64 y ≡ pos y)) ⊎ ((2 ^ 63 ≤ y) × (value_of true 64 y ≡ negsuc (2 ^ 64 - 1 - y)))
      → wrapped 64 (value_of true 64 x +ℤ value_of true 64 y) ≡ (x + y) % 2 ^ 64
  on (inl p) (inl q) = rw (p.1, q.1) refl
  on (inl p) (inr q) = rw (p.1, q.1) (wraps (pos x +ℤ negsuc (2 ^ 64 - 1 - y)) (x + y) 1 (omega (arith, ints, b)))
  on (inr p) (inl q) = rw (p.1, q.1) (wraps (negsuc (2 ^ 64 - 1 - x) +ℤ pos y) (x + y) 1 (omega (arith, ints, a)))
  on (inr p) (inr q) = rw (p.1, q.1) (wraps (negsuc (2 ^ 64 - 1 - x) +ℤ negsuc (2 ^ 64 - 1 - y)) (x + y) 2 (omega (arith, ints, a, b)))
sums false x y a b = ap₂ (λ (i j : ℤ). wrapped 64 (i +ℤ j)) (unsigned_value x a) (unsigned_value y b)

pub differences : (s : Bool) (x y : ℕ) → x < 2 ^ 64 → y < 2 ^ 64 → wrapped 64 (integer_of (long_kind s) x -ℤ integer_of (long_kind s) y) ≡ (x + (2 ^ 64 - y)) % 2 ^ 64
differences true x y a b = on (signed_value x a) (signed_value y b) where
  on : ((x < 2 ^ 63) × (value_of true 64 x ≡ pos x)) ⊎ ((2 ^ 63 ≤ x) × (value_of true 64 x ≡ negsuc (2 ^ 64 - 1 - x)))
      → ((y < 2 ^ 63) × (value_of true 64 y ≡ pos y)) ⊎ ((2 ^ 63 ≤ y) × (value_of true 64 y ≡ negsuc (2 ^ 64 - 1 - y)))
      → wrapped 64 (value_of true 64 x -ℤ value_of true 64 y) ≡ (x + (2 ^ 64 - y)) % 2 ^ 64
  on (inl p) (inl q) = rw (p.1, q.1) (wraps (pos x -ℤ pos y) (x + (2 ^ 64 - y)) 1 (omega (arith, ints, b)))
  on (inl p) (inr q) = rw (p.1, q.1) (wraps (pos x -ℤ negsuc (2 ^ 64 - 1 - y)) (x + (2 ^ 64 - y)) 0 (omega (arith, ints, b)))
  on (inr p) (inl q) = rw (p.1, q.1) (wraps (negsuc (2 ^ 64 - 1 - x) -ℤ pos y) (x + (2 ^ 64 - y)) 2 (omega (arith, ints, a, b)))
  on (inr p) (inr q) = rw (p.1, q.1) (wraps (negsuc (2 ^ 64 - 1 - x) -ℤ negsuc (2 ^ 64 - 1 - y)) (x + (2 ^ 64 - y)) 1 (omega (arith, ints, a, b)))
differences false x y a b =
    ap₂ (λ (i j : ℤ). wrapped 64 (i -ℤ j)) (unsigned_value x a) (unsigned_value y b) ∙ wraps (pos x -ℤ pos y) (x + (2 ^ 64 - y)) 1 (omega (arith, ints, b))

-- a product, and a shift to the left, are the same with a sign and without
pub products_same : (s : Bool) (x y : ℕ) → wrapped 64 (integer_of kind.Lint x *ℤ integer_of kind.Lint y) ≡ wrapped 64 (integer_of (long_kind s) x *ℤ integer_of (long_kind s) y)
products_same true x y = refl
products_same false x y =
    sym (product_in kind.Lint (integer_of kind.Lint y) x y (wrapped-value 64 true y)) ∙ product_in kind.Ulint (integer_of kind.Ulint y) x y (wrapped-value 64 false y)

pub shifts_same : (s : Bool) (x n : ℕ) → wrapped 64 (integer_of kind.Lint x *ℤ pos (2 ^ n)) ≡ wrapped 64 (integer_of (long_kind s) x *ℤ pos (2 ^ n))
shifts_same true x n = refl
shifts_same false x n = sym (product_in kind.Lint (pos (2 ^ n)) x (2 ^ n) refl) ∙ product_in kind.Ulint (pos (2 ^ n)) x (2 ^ n) refl

-- ---- numbers and words

module _ (xl xh yl yh : ℕ) (a : xl < 2 ^ 32) (b : xh < 2 ^ 32) (d : yl < 2 ^ 32) (e : yh < 2 ^ 32) where
  abbrev x : ℕ
  x = pair xl xh

  abbrev y : ℕ
  y = pair yl yh

  pub sum_low : sum_of xl yl ≡ (pair xl xh + pair yl yh) % 2 ^ 64 % 2 ^ 32
  sum_low = omega arith

  pub sum_high : sum_of (sum_of xh yh) (flag (nat_lt (sum_of xl yl) yl)) ≡ (pair xl xh + pair yl yh) % 2 ^ 64 / 2 ^ 32
  sum_high = on (less (sum_of xl yl) yl) where
    on : ((sum_of xl yl < yl) × (flag (nat_lt (sum_of xl yl) yl) ≡ 1)) ⊎ ((yl ≤ sum_of xl yl) × (flag (nat_lt (sum_of xl yl) yl) ≡ 0))
        → sum_of (sum_of xh yh) (flag (nat_lt (sum_of xl yl) yl)) ≡ (pair xl xh + pair yl yh) % 2 ^ 64 / 2 ^ 32
    on (inl c) = rw c.1 (omega (arith, a, b, d, e, c.0))
    on (inr c) = rw c.1 (omega (arith, a, b, d, e, c.0))

  pub difference_low : difference_of xl yl ≡ (pair xl xh + (2 ^ 64 - pair yl yh)) % 2 ^ 64 % 2 ^ 32
  difference_low = omega (arith, a, b, d, e)

  pub difference_high : difference_of (difference_of xh yh) (flag (nat_lt xl yl)) ≡ (pair xl xh + (2 ^ 64 - pair yl yh)) % 2 ^ 64 / 2 ^ 32
  difference_high = on (less xl yl) where
    on : ((xl < yl) × (flag (nat_lt xl yl) ≡ 1)) ⊎ ((yl ≤ xl) × (flag (nat_lt xl yl) ≡ 0))
        → difference_of (difference_of xh yh) (flag (nat_lt xl yl)) ≡ (pair xl xh + (2 ^ 64 - pair yl yh)) % 2 ^ 64 / 2 ^ 32
    on (inl c) = rw c.1 (omega (arith, a, b, d, e, c.0))
    on (inr c) = rw c.1 (omega (arith, a, b, d, e, c.0))

  lows : (pair xl xh % 2 ^ 32 ≡ xl) × (pair yl yh % 2 ^ 32 ≡ yl)
  lows = (omega (arith, a), omega (arith, d))

  highs : (pair xl xh / 2 ^ 32 ≡ xh) × (pair yl yh / 2 ^ 32 ≡ yh)
  highs = (omega (arith, a), omega (arith, d))

  -- what is done bit by bit is done word by word
  module _ (f : ℕ → ℕ → ℕ) (f_mod : (i j k : ℕ) → f i j % 2 ^ k ≡ f (i % 2 ^ k) (j % 2 ^ k)) (f_shr : (i j k : ℕ) → f i j / 2 ^ k ≡ f (i / 2 ^ k) (j / 2 ^ k)) (f_below : f (pair xl xh) (pair yl yh) < 2 ^ 64) where
    whole : wrapped 64 (pos (f (pair xl xh % 2 ^ 64) (pair yl yh % 2 ^ 64))) ≡ f (pair xl xh) (pair yl yh)
    whole = ap₂ (λ (i j : ℕ). f i j % 2 ^ 64) (mod-eq_of_lt (pair_below xl xh a b)) (mod-eq_of_lt (pair_below yl yh d e)) ∙ mod-eq_of_lt f_below

    pub bits_low : f xl yl ≡ wrapped 64 (pos (f (pair xl xh % 2 ^ 64) (pair yl yh % 2 ^ 64))) % 2 ^ 32
    bits_low = sym (ap (λ n. n % 2 ^ 32) whole ∙ f_mod (pair xl xh) (pair yl yh) 32 ∙ ap₂ f lows.0 lows.1)

    pub bits_high : f xh yh ≡ wrapped 64 (pos (f (pair xl xh % 2 ^ 64) (pair yl yh % 2 ^ 64))) / 2 ^ 32
    bits_high = sym (ap (λ n. n / 2 ^ 32) whole ∙ f_shr (pair xl xh) (pair yl yh) 32 ∙ ap₂ f highs.0 highs.1)

  pub and_below : bit_and (pair xl xh) (pair yl yh) < 2 ^ 64
  and_below = omega (arith, and_le_l (pair xl xh) (pair yl yh), pair_below xl xh a b)

  pub or_below : bit_or (pair xl xh) (pair yl yh) < 2 ^ 64
  or_below = or_lt 64 (pair xl xh) (pair yl yh) (pair_below xl xh a b) (pair_below yl yh d e)

  pub xor_below : bit_xor (pair xl xh) (pair yl yh) < 2 ^ 64
  xor_below = xor_lt 64 (pair xl xh) (pair yl yh) (pair_below xl xh a b) (pair_below yl yh d e)
