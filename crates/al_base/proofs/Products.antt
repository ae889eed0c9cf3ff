-- A product taken modulo 2^64 has the bits, in each kind, of the product of the integers.
use Rattle.std.proofs.Common.{◌≡◌, ℕ, suc, ◌*◌, ◌%◌, ◌^◌, ◌<◌, Bool, true, false, refl, sym, ap, ap₂, ◌∙◌, arith, ℤ, pos, negsuc, ◌+ℤ◌, ◌-ℤ◌, ◌*ℤ◌, to_z, of_z, lit<}
use Rattle.std.specs.Prelude.{unsigned_abs, bit_or, int_div, int_rem, if◌then◌else◌}
use Rattle.std.specs.Int.{◌∣◌, Width, w8, w16, w32, w64, w128, int_wrap, int_rem_euclid, cast_unsigned}
use Rattle.std.proofs.lemmas.Int.{ints, to_z_pos, of_z-to_z, to_z-of_z, int_rem_euclid_is, int_wrap-mul_left, int_wrap-mul_right, fits_signed_from_abs}
use Rattle.std.proofs.Math.Nat.{mod-mod_of_dvd, mod-eq_of_lt, mod-lt, mod-le, div-le_self}
use Rattle.std.proofs.lemmas.Nat.{pow_pos, or_lt}
use Rattle.std.proofs.lemmas.Nat.Gcd.{dvd_of_mod-eq-zero}
use mir.Val.{bits}
use Rattle.al_base.specs.Arith.{value_of, wrapped, width_of, integer_of}
use Rattle.al_base.specs.declared.arith.Kind.{Kind}
use Rattle.al_base.specs.declared.arith.Kind.TheVariants.{Byte, Sint, Usint, Int, Uint, Lint, Ulint}

-- a number of at most 64 bits, cast to 128 bits and back
pub kept : (x : ℤ) → unsigned_abs x < 2 ^ 64 → to_z w128 (of_z w128 x) ≡ x
kept x small = to_z-of_z w128 x (fits_signed_from_abs w128 x (omega arith))

rem_below : (z : ℤ) (n : ℕ) → 0 < n → unsigned_abs (int_rem_euclid z (pos n)) < n
rem_below (pos a) n some = omega arith
rem_below (negsuc a) n some = omega arith

wrapped_below : (w : Width) (z : ℤ) → wrapped (bits w) z < 2 ^ bits w
wrapped_below w8 z = rem_below z (2 ^ 8) (lit< tt)
wrapped_below w16 z = rem_below z (2 ^ 16) (lit< tt)
wrapped_below w32 z = rem_below z (2 ^ 32) (lit< tt)
wrapped_below w64 z = rem_below z (2 ^ 64) (lit< tt)
wrapped_below w128 z = rem_below z (2 ^ 128) (lit< tt)

-- what `int_wrap` leaves has the same bits
bits_of_wrap : (w : Width) (z : ℤ) → cast_unsigned w (int_wrap w z) ≡ wrapped (bits w) z
unfolding int_wrap
bits_of_wrap w z = of_z-to_z w (wrapped (bits w) z) (wrapped_below w z)

-- numbers with the bits of a and b have a product with the bits of a * b
times : (w : Width) (x y : ℤ) (a b : ℕ) → int_wrap w x ≡ int_wrap w (pos a) → int_wrap w y ≡ int_wrap w (pos b)
    → wrapped (bits w) (x *ℤ y) ≡ (a * b) % 2 ^ bits w
times w x y a b e f =
    sym (bits_of_wrap w (x *ℤ y))
    ∙ ap (cast_unsigned w) (sym (int_wrap-mul_left w x y) ∙ ap (λ (v : ℤ). int_wrap w (v *ℤ y)) e ∙ int_wrap-mul_left w (pos a) y
    ∙ sym (int_wrap-mul_right w (pos a) y) ∙ ap (λ (v : ℤ). int_wrap w (pos a *ℤ v)) f ∙ int_wrap-mul_right w (pos a) (pos b))
    ∙ bits_of_wrap w (pos (a * b))

one_below : (m n : ℕ) → 0 < n → m < n → int_rem_euclid (pos m -ℤ pos n) (pos n) ≡ pos m
one_below m n some below =
    int_rem_euclid_is (pos m -ℤ pos n) (pos n) n 1 m some refl (omega (arith, ints))
    ∙ ap pos (mod-eq_of_lt below)

either_way : (below : Bool) (w m : ℕ) → m < 2 ^ w → wrapped w (if below then pos m -ℤ pos (2 ^ w) else pos m) ≡ m
either_way true w m h = ap unsigned_abs (one_below m (2 ^ w) (pow_pos w) h)
either_way false w m h = mod-eq_of_lt h

-- the integer that bits stand for has those bits
pub wrapped-value : (w : ℕ) (signed : Bool) (a : ℕ) → wrapped w (value_of signed w a) ≡ a % 2 ^ w
wrapped-value w signed a = either_way _ w (a % 2 ^ w) (mod-lt a (pow_pos w))

same_wrap : (w : Width) (x y : ℤ) → wrapped (bits w) x ≡ wrapped (bits w) y → int_wrap w x ≡ int_wrap w y
unfolding int_wrap
same_wrap w x y e = ap (to_z w) e

-- a product modulo 2^64 of numbers that have the bits of x and y has the bits of their product
product : (w : Width) (signed : Bool) (y : ℤ) (a b : ℕ) → (2 ^ bits w) ∣ (2 ^ 64) → wrapped (bits w) y ≡ b % 2 ^ bits w
    → wrapped (bits w) (to_z w128 ((a * b) % 2 ^ 64)) ≡ wrapped (bits w) (value_of signed (bits w) a *ℤ y)
product w signed y a b d e =
    let below : (a * b) % 2 ^ 64 < 2 ^ 64 = mod-lt (a * b) (lit< tt) in
    ap (wrapped (bits w)) (to_z_pos w128 ((a * b) % 2 ^ 64) (omega arith))
    ∙ mod-mod_of_dvd (2 ^ bits w) (a * b) d
    ∙ sym (times w _ y a b (same_wrap w _ (pos a) (wrapped-value (bits w) signed a)) (same_wrap w y (pos b) e))

pub product_in : (kind : Kind) (y : ℤ) (a b : ℕ) → wrapped (width_of kind) y ≡ b % 2 ^ width_of kind
    → wrapped (width_of kind) (to_z w128 ((a * b) % 2 ^ 64)) ≡ wrapped (width_of kind) (integer_of kind a *ℤ y)
product_in Byte y a b = product w8 false y a b (dvd_of_mod-eq-zero (2 ^ 8) refl)
product_in Sint y a b = product w16 true y a b (dvd_of_mod-eq-zero (2 ^ 16) refl)
product_in Usint y a b = product w16 false y a b (dvd_of_mod-eq-zero (2 ^ 16) refl)
product_in Int y a b = product w32 true y a b (dvd_of_mod-eq-zero (2 ^ 32) refl)
product_in Uint y a b = product w32 false y a b (dvd_of_mod-eq-zero (2 ^ 32) refl)
product_in Lint y a b = product w64 true y a b (dvd_of_mod-eq-zero (2 ^ 64) refl)
product_in Ulint y a b = product w64 false y a b (dvd_of_mod-eq-zero (2 ^ 64) refl)

power_in : (w k : ℕ) → (2 ^ w) ∣ (2 ^ 64) → 2 ^ k % 2 ^ w ≡ ((1 * 2 ^ k) % 2 ^ 64) % 2 ^ w
power_in w k d = ap (λ (n : ℕ). n % 2 ^ w) (omega arith) ∙ sym (mod-mod_of_dvd (2 ^ w) (1 * 2 ^ k) d)

powers : (kind : Kind) (k : ℕ) → 2 ^ k % 2 ^ width_of kind ≡ ((1 * 2 ^ k) % 2 ^ 64) % 2 ^ width_of kind
powers Byte k = power_in 8 k (dvd_of_mod-eq-zero (2 ^ 8) refl)
powers Sint k = power_in 16 k (dvd_of_mod-eq-zero (2 ^ 16) refl)
powers Usint k = power_in 16 k (dvd_of_mod-eq-zero (2 ^ 16) refl)
powers Int k = power_in 32 k (dvd_of_mod-eq-zero (2 ^ 32) refl)
powers Uint k = power_in 32 k (dvd_of_mod-eq-zero (2 ^ 32) refl)
powers Lint k = power_in 64 k (dvd_of_mod-eq-zero (2 ^ 64) refl)
powers Ulint k = power_in 64 k (dvd_of_mod-eq-zero (2 ^ 64) refl)

-- a shift to the left is a product with a power of two
pub shift_in : (kind : Kind) (a k k' : ℕ) → k ≡ k'
    → wrapped (width_of kind) (to_z w128 ((a * ((1 * 2 ^ k) % 2 ^ 64)) % 2 ^ 64)) ≡ wrapped (width_of kind) (integer_of kind a *ℤ pos (2 ^ k'))
shift_in kind a k k' e =
    product_in kind (pos (2 ^ k)) a ((1 * 2 ^ k) % 2 ^ 64) (powers kind k) ∙ ap (λ (n : ℕ). wrapped (width_of kind) (integer_of kind a *ℤ pos (2 ^ n))) e

-- ---- each operation in 128 bits is exact on numbers of 64 bits

bound_quotient : (x y : ℤ) → unsigned_abs x < 2 ^ 64 → unsigned_abs (int_div x y) < 2 ^ 127
bound_quotient (pos a) (pos b) p = omega (arith, div-le_self a b)
bound_quotient (pos a) (negsuc b) p = omega (arith, ints, div-le_self a (suc b))
bound_quotient (negsuc a) (pos b) p = omega (arith, ints, div-le_self (suc a) b)
bound_quotient (negsuc a) (negsuc b) p = omega (arith, div-le_self (suc a) (suc b))

bound_rest : (x y : ℤ) → unsigned_abs x < 2 ^ 64 → unsigned_abs (int_rem x y) < 2 ^ 127
bound_rest (pos a) y p = omega (arith, mod-le a (unsigned_abs y))
bound_rest (negsuc a) y p = omega (arith, ints, mod-le (suc a) (unsigned_abs y))

-- an operation whose exact result has at most 127 bits
stays : (w : ℕ) (f : ℤ → ℤ → ℤ) (x y x' y' : ℤ) → unsigned_abs x < 2 ^ 64 → unsigned_abs y < 2 ^ 64 → x ≡ x' → y ≡ y'
    → unsigned_abs (f x y) < 2 ^ 127
    → wrapped w (to_z w128 (of_z w128 (f (to_z w128 (of_z w128 x)) (to_z w128 (of_z w128 y))))) ≡ wrapped w (f x' y')
stays w f x y x' y' p q e e' bound =
    ap (wrapped w) (ap₂ (λ (u v : ℤ). to_z w128 (of_z w128 (f u v))) (kept x p) (kept y q)
    ∙ to_z-of_z w128 (f x y) (fits_signed_from_abs w128 _ bound) ∙ ap₂ f e e')

pub sum : (w : ℕ) (x y x' y' : ℤ) → unsigned_abs x < 2 ^ 64 → unsigned_abs y < 2 ^ 64 → x ≡ x' → y ≡ y'
    → wrapped w (to_z w128 (of_z w128 (to_z w128 (of_z w128 x) +ℤ to_z w128 (of_z w128 y)))) ≡ wrapped w (x' +ℤ y')
sum w x y x' y' p q e e' = stays w (λ (u v : ℤ). u +ℤ v) x y x' y' p q e e' (omega (arith, ints))

pub difference : (w : ℕ) (x y x' y' : ℤ) → unsigned_abs x < 2 ^ 64 → unsigned_abs y < 2 ^ 64 → x ≡ x' → y ≡ y'
    → wrapped w (to_z w128 (of_z w128 (to_z w128 (of_z w128 x) -ℤ to_z w128 (of_z w128 y)))) ≡ wrapped w (x' -ℤ y')
difference w x y x' y' p q e e' = stays w (λ (u v : ℤ). u -ℤ v) x y x' y' p q e e' (omega (arith, ints))

pub quotient : (w : ℕ) (x y x' y' : ℤ) → unsigned_abs x < 2 ^ 64 → unsigned_abs y < 2 ^ 64 → x ≡ x' → y ≡ y'
    → wrapped w (to_z w128 (of_z w128 (int_div (to_z w128 (of_z w128 x)) (to_z w128 (of_z w128 y))))) ≡ wrapped w (int_div x' y')
quotient w x y x' y' p q e e' = stays w int_div x y x' y' p q e e' (bound_quotient x y p)

pub rest : (w : ℕ) (x y x' y' : ℤ) → unsigned_abs x < 2 ^ 64 → unsigned_abs y < 2 ^ 64 → x ≡ x' → y ≡ y'
    → wrapped w (to_z w128 (of_z w128 (int_rem (to_z w128 (of_z w128 x)) (to_z w128 (of_z w128 y))))) ≡ wrapped w (int_rem x' y')
rest w x y x' y' p q e e' = stays w int_rem x y x' y' p q e e' (bound_rest x y p)

-- two numbers within a kind's bits give one of at most 64 bits
pub or_fits : (kind : Kind) (m n : ℕ) → m < 2 ^ width_of kind → n < 2 ^ width_of kind → bit_or m n < 2 ^ 64
or_fits Byte m n p q = or_lt 64 m n (omega arith) (omega arith)
or_fits Sint m n p q = or_lt 64 m n (omega arith) (omega arith)
or_fits Usint m n p q = or_lt 64 m n (omega arith) (omega arith)
or_fits Int m n p q = or_lt 64 m n (omega arith) (omega arith)
or_fits Uint m n p q = or_lt 64 m n (omega arith) (omega arith)
or_fits Lint m n p q = or_lt 64 m n (omega arith) (omega arith)
or_fits Ulint m n p q = or_lt 64 m n (omega arith) (omega arith)

pub or_in : (w : ℕ) (m n m' n' : ℕ) → bit_or m n < 2 ^ 64 → m ≡ m' → n ≡ n'
    → wrapped w (to_z w128 (bit_or m n)) ≡ wrapped w (pos (bit_or m' n'))
or_in w m n m' n' h e f = ap (wrapped w) (to_z_pos w128 (bit_or m n) (omega arith) ∙ ap₂ (λ (u v : ℕ). pos (bit_or u v)) e f)
