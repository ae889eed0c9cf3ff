-- The words that instructions compute are those of the operations, which are told in the integers.
use Rattle.std.proofs.Common.{◌≡◌, ◌≢◌, ℕ, zero, suc, ◌+◌, ◌-◌, ◌*◌, ◌/◌, ◌%◌, ◌^◌, ◌<◌, ◌≤◌, ◌==◌, Bool, true, false, ◌&&◌, not, nat_le, nat_lt, if◌then◌else◌, ℤ, pos, negsuc, ◌+ℤ◌, ◌-ℤ◌, ◌*ℤ◌, Some, None, refl, sym, ap, ap₂, ◌∙◌, arith, to_z, ◌⊎◌, inl, inr}
use Rattle.std.specs.Prelude.{unsigned_abs, bit_and, bit_or, bit_xor, int_div, int_rem, int_lt, int_le}
use Rattle.std.specs.Int.{w32, w128, int_shr}
use Rattle.std.proofs.Math.Nat.{div-le_self, mod-eq_of_lt, mod-le, add-mul, mul_right_comm}
use Rattle.std.proofs.lemmas.Nat.{pow_pos, pow-add, shr_le, div-add-mod', mod_below, div_below, div-mul-add}
use Rattle.std.proofs.lemmas.Bool.{cases_eq}
use Rattle.std.proofs.Math.Facts.{to_z-neg}
use Rattle.std.proofs.lemmas.Bool.Decides.{nat_tests}
use Rattle.std.proofs.lemmas.Int.{ints, to_z_pos}
use Rattle.al_base.specs.Arith.{applied, exact_of, wrapped, integer_of, one_where, divides}
use Rattle.al_base.specs.declared.arith.Op.{Op as Arith}
use Rattle.al_base.specs.declared.arith.Op.TheVariants as arith
use Rattle.al_base.specs.declared.arith.Kind.TheVariants as kind
use Rattle.al_base.proofs.Products.{product_in, wrapped-value}
use Rattle.rv_isa.specs.declared.instr.RegisterOp.TheVariants.{Add, Sub, Sll, Xor, Or, And, Mul}
use Rattle.rv_exec.specs.Words.{computed, sum_of, difference_of, signed, word, flag, sign_extended}
use Rattle.rv_exec.proofs.Values.{computed_below}
use Rattle.al_ir.specs.Step.{word_kind}
use Rattle.rv_form.specs.Words.{less, divided, remaining, shifted_right as right_op}

-- ---- words and integers

signed_high : (x : ℕ) → x < 2 ^ 32 → 2 ^ 31 ≤ x → signed x ≡ negsuc (2 ^ 32 - 1 - x)
signed_high x h more =
    let e : x ≡ 2 ^ 32 - suc (2 ^ 32 - 1 - x) = omega (arith, h) in
    ap signed e ∙ to_z-neg w32 (2 ^ 32 - 1 - x) (omega (arith, more))

pub signed_low : (x : ℕ) → x < 2 ^ 31 → signed x ≡ pos x
signed_low x less = to_z_pos w32 x less

-- a word with a sign
pub signed32 : (x : ℕ) → x < 2 ^ 32 → ((x < 2 ^ 31) × (integer_of kind.Int x ≡ pos x) × (signed x ≡ pos x)) ⊎ ((2 ^ 31 ≤ x) × (integer_of kind.Int x ≡ negsuc (2 ^ 32 - 1 - x)) × (signed x ≡ negsuc (2 ^ 32 - 1 - x)))
signed32 x h = on (nat_le (2 ^ 31) (x % 2 ^ 32)) refl where
  on : (b : Bool) → nat_le (2 ^ 31) (x % 2 ^ 32) ≡ b
      → ((x < 2 ^ 31) × ((if true && b then pos (x % 2 ^ 32) -ℤ pos (2 ^ 32) else pos (x % 2 ^ 32)) ≡ pos x) × (signed x ≡ pos x))
      ⊎ ((2 ^ 31 ≤ x) × ((if true && b then pos (x % 2 ^ 32) -ℤ pos (2 ^ 32) else pos (x % 2 ^ 32)) ≡ negsuc (2 ^ 32 - 1 - x)) × (signed x ≡ negsuc (2 ^ 32 - 1 - x)))
  on true e =
      let more : 2 ^ 31 ≤ x % 2 ^ 32 = grind (arith, nat_tests, e) in
      inr (omega arith, omega (arith, ints), signed_high x h (omega arith))
  on false e =
      let less : x % 2 ^ 32 < 2 ^ 31 = grind (arith, nat_tests, e) in
      inl (omega arith, omega (arith, ints), signed_low x (omega arith))

pub as_signed : (x : ℕ) → x < 2 ^ 32 → integer_of kind.Int x ≡ signed x
as_signed x h = on (signed32 x h) where
  on : ((x < 2 ^ 31) × (integer_of kind.Int x ≡ pos x) × (signed x ≡ pos x)) ⊎ ((2 ^ 31 ≤ x) × (integer_of kind.Int x ≡ negsuc (2 ^ 32 - 1 - x)) × (signed x ≡ negsuc (2 ^ 32 - 1 - x)))
      → integer_of kind.Int x ≡ signed x
  on (inl e) = e.1 ∙ sym e.2
  on (inr e) = e.1 ∙ sym e.2

pub as_unsigned : (x : ℕ) → x < 2 ^ 32 → integer_of kind.Uint x ≡ pos x
as_unsigned x h = ap pos (mod-eq_of_lt h)

pub as_word : (z : ℤ) → unsigned_abs z < 2 ^ 32 → wrapped 32 z ≡ word z
as_word (pos n) h = mod-eq_of_lt h
as_word (negsuc n) h = omega (arith, ints, h)

-- ---- sizes

pub signed_size : (x : ℕ) → x < 2 ^ 32 → unsigned_abs (signed x) ≤ 2 ^ 31
signed_size x h = omega (arith, ints)

pub div_size : (x y : ℤ) → unsigned_abs (int_div x y) ≤ unsigned_abs x
div_size (pos a) (pos b) = div-le_self a b
div_size (pos a) (negsuc b) = omega (arith, ints, div-le_self a (suc b))
div_size (negsuc a) (pos b) = omega (arith, ints, div-le_self (suc a) b)
div_size (negsuc a) (negsuc b) = div-le_self (suc a) (suc b)

rem_size : (x y : ℤ) → unsigned_abs (int_rem x y) ≤ unsigned_abs x
rem_size (pos a) y = mod-le a (unsigned_abs y)
rem_size (negsuc a) y = omega (arith, ints, mod-le (suc a) (unsigned_abs y))

wraps : (z : ℤ) (n k : ℕ) → z +ℤ pos (k * 2 ^ 32) ≡ pos n → wrapped 32 z ≡ n % 2 ^ 32
wraps (pos m) n k e = let f : m + k * 2 ^ 32 ≡ n = omega (arith, ints, e) in omega (arith, f)
wraps (negsuc m) n k e = let f : k * 2 ^ 32 ≡ n + (m + 1) = omega (arith, ints, e) in omega (arith, f)

-- ---- sums and differences

sums : (s : Bool) (x y : ℕ) → x < 2 ^ 32 → y < 2 ^ 32 → sum_of x y ≡ wrapped 32 (integer_of (word_kind s) x +ℤ integer_of (word_kind s) y)
sums true x y a b = sym (on (signed32 x a) (signed32 y b)) where
  on : ((x < 2 ^ 31) × (integer_of kind.Int x ≡ pos x) × (signed x ≡ pos x)) ⊎ ((2 ^ 31 ≤ x) × (integer_of kind.Int x ≡ negsuc (2 ^ 32 - 1 - x)) × (signed x ≡ negsuc (2 ^ 32 - 1 - x)))
      → ((y < 2 ^ 31) × (integer_of kind.Int y ≡ pos y) × (signed y ≡ pos y)) ⊎ ((2 ^ 31 ≤ y) × (integer_of kind.Int y ≡ negsuc (2 ^ 32 - 1 - y)) × (signed y ≡ negsuc (2 ^ 32 - 1 - y)))
      → wrapped 32 (integer_of kind.Int x +ℤ integer_of kind.Int y) ≡ sum_of x y
  on (inl p) (inl q) = rw (p.1, q.1) refl
  on (inl p) (inr q) = rw (p.1, q.1) (wraps (pos x +ℤ negsuc (2 ^ 32 - 1 - y)) (x + y) 1 (omega (arith, ints, b)))
  on (inr p) (inl q) = rw (p.1, q.1) (wraps (negsuc (2 ^ 32 - 1 - x) +ℤ pos y) (x + y) 1 (omega (arith, ints, a)))
  on (inr p) (inr q) = rw (p.1, q.1) (wraps (negsuc (2 ^ 32 - 1 - x) +ℤ negsuc (2 ^ 32 - 1 - y)) (x + y) 2 (omega (arith, ints, a, b)))
sums false x y a b = omega (arith, a, b)

differences : (s : Bool) (x y : ℕ) → x < 2 ^ 32 → y < 2 ^ 32 → difference_of x y ≡ wrapped 32 (integer_of (word_kind s) x -ℤ integer_of (word_kind s) y)
differences true x y a b = sym (on (signed32 x a) (signed32 y b)) where
  on : ((x < 2 ^ 31) × (integer_of kind.Int x ≡ pos x) × (signed x ≡ pos x)) ⊎ ((2 ^ 31 ≤ x) × (integer_of kind.Int x ≡ negsuc (2 ^ 32 - 1 - x)) × (signed x ≡ negsuc (2 ^ 32 - 1 - x)))
      → ((y < 2 ^ 31) × (integer_of kind.Int y ≡ pos y) × (signed y ≡ pos y)) ⊎ ((2 ^ 31 ≤ y) × (integer_of kind.Int y ≡ negsuc (2 ^ 32 - 1 - y)) × (signed y ≡ negsuc (2 ^ 32 - 1 - y)))
      → wrapped 32 (integer_of kind.Int x -ℤ integer_of kind.Int y) ≡ difference_of x y
  on (inl p) (inl q) = rw (p.1, q.1) (wraps (pos x -ℤ pos y) (x + (2 ^ 32 - y)) 1 (omega (arith, ints, b)))
  on (inl p) (inr q) = rw (p.1, q.1) (wraps (pos x -ℤ negsuc (2 ^ 32 - 1 - y)) (x + (2 ^ 32 - y)) 0 (omega (arith, ints, b)))
  on (inr p) (inl q) = rw (p.1, q.1) (wraps (negsuc (2 ^ 32 - 1 - x) -ℤ pos y) (x + (2 ^ 32 - y)) 2 (omega (arith, ints, a, b)))
  on (inr p) (inr q) = rw (p.1, q.1) (wraps (negsuc (2 ^ 32 - 1 - x) -ℤ negsuc (2 ^ 32 - 1 - y)) (x + (2 ^ 32 - y)) 1 (omega (arith, ints, a, b)))
differences false x y a b =
    sym (ap₂ (λ (i j : ℤ). wrapped 32 (i -ℤ j)) (as_unsigned x a) (as_unsigned y b) ∙ wraps (pos x -ℤ pos y) (x + (2 ^ 32 - y)) 1 (omega (arith, ints, b)))

-- ---- products

low_product : (x y : ℕ) → x * y % 2 ^ 32 ≡ wrapped 32 (to_z w128 ((x * y) % 2 ^ 64))
low_product x y =
    let e : to_z w128 ((x * y) % 2 ^ 64) ≡ pos ((x * y) % 2 ^ 64) = to_z_pos w128 ((x * y) % 2 ^ 64) (omega arith) in
    let f : (x * y) % 2 ^ 64 % 2 ^ 32 ≡ x * y % 2 ^ 32 = omega arith in
    sym (ap (wrapped 32) e ∙ f)

products : (s : Bool) (x y : ℕ) → x * y % 2 ^ 32 ≡ wrapped 32 (integer_of (word_kind s) x *ℤ integer_of (word_kind s) y)
products true x y = low_product x y ∙ product_in kind.Int (integer_of kind.Int y) x y (wrapped-value 32 true y)
products false x y = low_product x y ∙ product_in kind.Uint (integer_of kind.Uint y) x y (wrapped-value 32 false y)

-- a shift to the left is a product
left_shifts : (s : Bool) (x y : ℕ) → y < 2 ^ 32 → x * 2 ^ (y % 32) % 2 ^ 32 ≡ wrapped 32 (integer_of (word_kind s) x *ℤ pos (2 ^ (y % 2 ^ 32 % 32)))
left_shifts s x y b =
    let e : y % 32 ≡ y % 2 ^ 32 % 32 = omega (arith, b) in
    low_product x (2 ^ (y % 32)) ∙ of_kind s ∙ ap (λ n. wrapped 32 (integer_of (word_kind s) x *ℤ pos (2 ^ n))) e where
      of_kind : (s : Bool) → wrapped 32 (to_z w128 ((x * 2 ^ (y % 32)) % 2 ^ 64)) ≡ wrapped 32 (integer_of (word_kind s) x *ℤ pos (2 ^ (y % 32)))
      of_kind true = product_in kind.Int (pos (2 ^ (y % 32))) x (2 ^ (y % 32)) refl
      of_kind false = product_in kind.Uint (pos (2 ^ (y % 32))) x (2 ^ (y % 32)) refl

-- ---- shifts to the right

-- a number that is one below a multiple of p, less m more
turned_quotient : (p q m : ℕ) → 0 < p → m < q * p → (q * p - 1 - m) / p ≡ q - 1 - m / p
turned_quotient p q m some less =
    let parts : m / p * p + m % p ≡ m = div-add-mod' m p in
    let rest : m % p < p = mod_below m p some in
    let bound : m / p < q = div_below m p q some less in
    let t : ℕ = q - 1 - m / p in
    let is : q ≡ t + (1 + m / p) = omega (arith, bound) in
    let whole : q * p ≡ t * p + (1 + m / p) * p = ap (λ n. n * p) is ∙ add-mul t (1 + m / p) p in
    let one : (1 + m / p) * p ≡ p + m / p * p = add-mul 1 (m / p) p ∙ omega arith in
    let e : q * p - 1 - m ≡ t * p + (p - 1 - m % p) = omega (arith, whole, one, parts, rest) in
    ap (λ n. n / p) e ∙ div-mul-add t p (p - 1 - m % p) (omega (arith, rest))

mul_turn : (c p : ℕ) → c * 2 ^ 32 * p ≡ c * p * 2 ^ 32
mul_turn c p = mul_right_comm c (2 ^ 32) p

-- with copies of the sign at the left
right_shift_signed : (x k : ℕ) → x < 2 ^ 32 → k < 32 → sign_extended x / 2 ^ k % 2 ^ 32 ≡ wrapped 32 (int_shr (signed x) k)
right_shift_signed x k a few = on (nat_lt x (2 ^ 31)) refl where
  on : (b : Bool) → nat_lt x (2 ^ 31) ≡ b → (if b then x else x + (2 ^ 64 - 2 ^ 32)) / 2 ^ k % 2 ^ 32 ≡ wrapped 32 (int_shr (signed x) k)
  on true e =
      let less : x < 2 ^ 31 = grind (arith, nat_tests, e) in
      let is : signed x ≡ pos x = signed_low x less in
      ap (λ z. wrapped 32 (int_shr z k)) (sym is)
  on false e =
      let more : 2 ^ 31 ≤ x = grind (arith, nat_tests, e) in
      let m : ℕ = 2 ^ 32 - 1 - x in
      let is : signed x ≡ negsuc m = signed_high x a more in
      let c : ℕ = 2 ^ (32 - k) in
      let exponents : 32 - k + k ≡ 32 = omega (arith, few) in
      let powers : c * 2 ^ k ≡ 2 ^ 32 = sym (pow-add 2 (32 - k) k) ∙ ap (λ n. 2 ^ n) exponents in
      let all : c * 2 ^ 32 * 2 ^ k ≡ 2 ^ 64 = omega (arith, mul_turn c (2 ^ k), powers) in
      let below : m / 2 ^ k ≤ m = shr_le m k in
      let q : (2 ^ 64 - 1 - m) / 2 ^ k ≡ c * 2 ^ 32 - 1 - m / 2 ^ k =
      ap (λ n. (n - 1 - m) / 2 ^ k) (sym all) ∙ turned_quotient (2 ^ k) (c * 2 ^ 32) m (pow_pos k) (omega (arith, all, more)) in
      let some : 0 < c = pow_pos (32 - k) in
      let start : x + (2 ^ 64 - 2 ^ 32) ≡ 2 ^ 64 - 1 - m = omega (arith, a) in
      ap (λ n. n / 2 ^ k % 2 ^ 32) start ∙ ap (λ n. n % 2 ^ 32) q ∙ omega (arith, some, below, more) ∙ ap (λ z. wrapped 32 (int_shr z k)) (sym is)

right_shifts : (s : Bool) (x y : ℕ) → x < 2 ^ 32 → y < 2 ^ 32 → computed (right_op s) x y ≡ wrapped 32 (int_shr (integer_of (word_kind s) x) (y % 2 ^ 32 % 32))
right_shifts true x y a b =
    let e : y % 32 ≡ y % 2 ^ 32 % 32 = omega (arith, b) in
    right_shift_signed x (y % 32) a (omega arith) ∙ ap₂ (λ (z : ℤ) (n : ℕ). wrapped 32 (int_shr z n)) (sym (as_signed x a)) e
right_shifts false x y a b =
    let e : y % 32 ≡ y % 2 ^ 32 % 32 = omega (arith, b) in
    let small : x / 2 ^ (y % 32) ≤ x = shr_le x (y % 32) in
    sym (mod-eq_of_lt (omega (arith, small, a))) ∙ ap₂ (λ (z : ℤ) (n : ℕ). wrapped 32 (int_shr z n)) (sym (as_unsigned x a)) e

-- ---- divisions

quotients : (s : Bool) (x y : ℕ) → x < 2 ^ 32 → y < 2 ^ 32 → (y == 0) ≡ false → computed (divided s) x y ≡ wrapped 32 (int_div (integer_of (word_kind s) x) (integer_of (word_kind s) y))
quotients true x y a b some =
    ap (λ (c : Bool). if c then 2 ^ 32 - 1 else word (int_div (signed x) (signed y))) some
    ∙ sym (ap₂ (λ (i j : ℤ). wrapped 32 (int_div i j)) (as_signed x a) (as_signed y b) ∙ as_word (int_div (signed x) (signed y)) (omega (arith, div_size (signed x) (signed y), signed_size x a)))
quotients false x y a b some =
    let small : x / y ≤ x = div-le_self x y in
    ap (λ (c : Bool). if c then 2 ^ 32 - 1 else x / y) some
    ∙ sym (ap₂ (λ (i j : ℤ). wrapped 32 (int_div i j)) (as_unsigned x a) (as_unsigned y b) ∙ mod-eq_of_lt (omega (arith, small, a)))

remainders : (s : Bool) (x y : ℕ) → x < 2 ^ 32 → y < 2 ^ 32 → (y == 0) ≡ false → computed (remaining s) x y ≡ wrapped 32 (int_rem (integer_of (word_kind s) x) (integer_of (word_kind s) y))
remainders true x y a b some =
    ap (λ (c : Bool). if c then x else word (int_rem (signed x) (signed y))) some
    ∙ sym (ap₂ (λ (i j : ℤ). wrapped 32 (int_rem i j)) (as_signed x a) (as_signed y b) ∙ as_word (int_rem (signed x) (signed y)) (omega (arith, rem_size (signed x) (signed y), signed_size x a)))
remainders false x y a b some =
    let small : x % y ≤ x = mod-le x y in
    ap (λ (c : Bool). if c then x else x % y) some
    ∙ sym (ap₂ (λ (i j : ℤ). wrapped 32 (int_rem i j)) (as_unsigned x a) (as_unsigned y b) ∙ mod-eq_of_lt (omega (arith, small, a)))

-- ---- comparisons

flags : (b : Bool) → flag b ≡ wrapped 32 (one_where b)
flags true = refl
flags false = refl

turned : (b : Bool) → bit_xor (flag b) 1 ≡ flag (not b)
turned true = refl
turned false = refl

not_lt : (x y : ℕ) → nat_le x y ≡ not (nat_lt y x)
not_lt x y = on (nat_le x y) (nat_lt y x) refl refl where
  on : (b c : Bool) → nat_le x y ≡ b → nat_lt y x ≡ c → b ≡ not c
  on true true p q = absurd (grind (arith, nat_tests, p, q))
  on true false p q = refl
  on false true p q = refl
  on false false p q = absurd (grind (arith, nat_tests, p, q))

not_less : (x y : ℤ) → int_le x y ≡ not (int_lt y x)
not_less (pos m) (pos n) = not_lt m n
not_less (pos m) (negsuc n) = refl
not_less (negsuc m) (pos n) = refl
not_less (negsuc m) (negsuc n) = not_lt n m

lesses : (s : Bool) (x y : ℕ) → x < 2 ^ 32 → y < 2 ^ 32 → computed (less s) x y ≡ flag (int_lt (integer_of (word_kind s) x) (integer_of (word_kind s) y))
lesses true x y a b = sym (ap₂ (λ (i j : ℤ). flag (int_lt i j)) (as_signed x a) (as_signed y b))
lesses false x y a b = sym (ap₂ (λ (i j : ℤ). flag (int_lt i j)) (as_unsigned x a) (as_unsigned y b))

-- the difference of equal words alone is 0
same_words : (x y : ℕ) → x < 2 ^ 32 → y < 2 ^ 32 → (difference_of x y == 0) ≡ (x % 2 ^ 32 == y % 2 ^ 32)
same_words x y a b = on (cases_eq x y) where
  on : (x ≡ y) ⊎ (x ≢ y) → (difference_of x y == 0) ≡ (x % 2 ^ 32 == y % 2 ^ 32)
  on (inl e) =
      let p : (difference_of x y == 0) ≡ true = grind (arith, nat_tests, e, a) in
      let q : (x % 2 ^ 32 == y % 2 ^ 32) ≡ true = grind (arith, nat_tests, e) in
      p ∙ sym q
  on (inr e) =
      let d : difference_of x y ≢ 0 = λ z. e (omega (arith, z, a, b)) in
      let p : (difference_of x y == 0) ≡ false = grind (arith, nat_tests, d) in
      let r : x % 2 ^ 32 ≢ y % 2 ^ 32 = λ z. e (omega (arith, z, a, b)) in
      let q : (x % 2 ^ 32 == y % 2 ^ 32) ≡ false = grind (arith, nat_tests, r) in
      p ∙ sym q

below_one : (n : ℕ) → nat_lt n 1 ≡ (n == 0)
below_one zero = refl
below_one (suc n) = let p : nat_lt (suc n) 1 ≡ false = grind (arith, nat_tests) in let q : (suc n == 0) ≡ false = grind (arith, nat_tests) in p ∙ sym q

above_zero : (n : ℕ) → nat_lt 0 n ≡ not (n == 0)
above_zero zero = refl
above_zero (suc n) = let p : nat_lt 0 (suc n) ≡ true = grind (arith, nat_tests) in let q : (suc n == 0) ≡ false = grind (arith, nat_tests) in p ∙ sym (ap not q)

-- ---- each operation

-- what its instructions compute
abbrev pub word_value : Arith → Bool → ℕ → ℕ → ℕ
word_value arith.Add s x y = computed Add x y
word_value arith.Sub s x y = computed Sub x y
word_value arith.Mul s x y = computed Mul x y
word_value arith.Div s x y = computed (divided s) x y
word_value arith.Rem s x y = computed (remaining s) x y
word_value arith.And s x y = computed And x y
word_value arith.Or s x y = computed Or x y
word_value arith.Xor s x y = computed Xor x y
word_value arith.Shl s x y = computed Sll x y
word_value arith.Shr s x y = computed (right_op s) x y
word_value arith.Lt s x y = computed (less s) x y
word_value arith.Le s x y = bit_xor (computed (less s) y x) 1
word_value arith.Eq s x y = flag (nat_lt (computed Sub x y) 1)
word_value arith.Ne s x y = flag (nat_lt 0 (computed Sub x y))

bits_same : (x : ℕ) → x < 2 ^ 32 → x % 2 ^ 32 ≡ x
bits_same x a = mod-eq_of_lt a

bitwise : (f : ℕ → ℕ → ℕ) (x y : ℕ) → x < 2 ^ 32 → y < 2 ^ 32 → f x y < 2 ^ 32 → f x y ≡ wrapped 32 (pos (f (x % 2 ^ 32) (y % 2 ^ 32)))
bitwise f x y a b c = sym (ap₂ (λ (i j : ℕ). f i j % 2 ^ 32) (bits_same x a) (bits_same y b) ∙ mod-eq_of_lt c)

word_exact : (op : Arith) (s : Bool) (x y : ℕ) → x < 2 ^ 32 → y < 2 ^ 32 → (divides op ≡ true → (y == 0) ≡ false) → word_value op s x y ≡ wrapped 32 (exact_of op (word_kind s) x y)
word_exact op true x y a b some = on op some where
  on : (op : Arith) → (divides op ≡ true → (y == 0) ≡ false) → word_value op true x y ≡ wrapped 32 (exact_of op kind.Int x y)
  on arith.Add some = sums true x y a b
  on arith.Sub some = differences true x y a b
  on arith.Mul some = products true x y
  on arith.Div some = quotients true x y a b (some refl)
  on arith.Rem some = remainders true x y a b (some refl)
  on arith.And some = bitwise bit_and x y a b (computed_below x y a b And)
  on arith.Or some = bitwise bit_or x y a b (computed_below x y a b Or)
  on arith.Xor some = bitwise bit_xor x y a b (computed_below x y a b Xor)
  on arith.Shl some = left_shifts true x y b
  on arith.Shr some = right_shifts true x y a b
  on arith.Lt some = lesses true x y a b ∙ flags (int_lt (integer_of kind.Int x) (integer_of kind.Int y))
  on arith.Le some =
      ap (λ n. bit_xor n 1) (lesses true y x b a) ∙ turned (int_lt (integer_of kind.Int y) (integer_of kind.Int x))
      ∙ ap flag (sym (not_less (integer_of kind.Int x) (integer_of kind.Int y))) ∙ flags (int_le (integer_of kind.Int x) (integer_of kind.Int y))
  on arith.Eq some = ap flag (below_one (difference_of x y) ∙ same_words x y a b) ∙ flags (x % 2 ^ 32 == y % 2 ^ 32)
  on arith.Ne some = ap flag (above_zero (difference_of x y) ∙ ap not (same_words x y a b)) ∙ flags (not (x % 2 ^ 32 == y % 2 ^ 32))
word_exact op false x y a b some = on op some where
  on : (op : Arith) → (divides op ≡ true → (y == 0) ≡ false) → word_value op false x y ≡ wrapped 32 (exact_of op kind.Uint x y)
  on arith.Add some = sums false x y a b
  on arith.Sub some = differences false x y a b
  on arith.Mul some = products false x y
  on arith.Div some = quotients false x y a b (some refl)
  on arith.Rem some = remainders false x y a b (some refl)
  on arith.And some = bitwise bit_and x y a b (computed_below x y a b And)
  on arith.Or some = bitwise bit_or x y a b (computed_below x y a b Or)
  on arith.Xor some = bitwise bit_xor x y a b (computed_below x y a b Xor)
  on arith.Shl some = left_shifts false x y b
  on arith.Shr some = right_shifts false x y a b
  on arith.Lt some = lesses false x y a b ∙ flags (int_lt (integer_of kind.Uint x) (integer_of kind.Uint y))
  on arith.Le some =
      ap (λ n. bit_xor n 1) (lesses false y x b a) ∙ turned (int_lt (integer_of kind.Uint y) (integer_of kind.Uint x))
      ∙ ap flag (sym (not_less (integer_of kind.Uint x) (integer_of kind.Uint y))) ∙ flags (int_le (integer_of kind.Uint x) (integer_of kind.Uint y))
  on arith.Eq some = ap flag (below_one (difference_of x y) ∙ same_words x y a b) ∙ flags (x % 2 ^ 32 == y % 2 ^ 32)
  on arith.Ne some = ap flag (above_zero (difference_of x y) ∙ ap not (same_words x y a b)) ∙ flags (not (x % 2 ^ 32 == y % 2 ^ 32))

-- nothing is divided by 0
taken : (op : Arith) (y v z w : ℕ) → y < 2 ^ 32 → ((divides op ≡ true → (y == 0) ≡ false) → w ≡ v)
    → (if divides op && (y % 2 ^ 32 == 0) then None else Some v) ≡ Some z → w ≡ z
taken op y v z w b is e = on (divides op) (y % 2 ^ 32 == 0) refl refl e where
  some_is : {m n : ℕ} → Some m ≡ Some n → m ≡ n
  some_is e = cc

  on : (d q : Bool) → divides op ≡ d → (y % 2 ^ 32 == 0) ≡ q → (if d && q then None else Some v) ≡ Some z → w ≡ z
  on true true f g e = absurd (cc)
  on true false f g e = is (λ _. ap (λ n. n == 0) (sym (bits_same y b)) ∙ g) ∙ some_is e
  on false q f g e = is (λ t. absurd (cc)) ∙ some_is e

-- where an operation gives a word, its instructions compute it
pub word_is : (op : Arith) (s : Bool) (x y z : ℕ) → x < 2 ^ 32 → y < 2 ^ 32 → applied op (word_kind s) x y ≡ Some z → word_value op s x y ≡ z
word_is op true x y z a b e = taken op y (wrapped 32 (exact_of op kind.Int x y)) z (word_value op true x y) b (word_exact op true x y a b) e
word_is op false x y z a b e = taken op y (wrapped 32 (exact_of op kind.Uint x y)) z (word_value op false x y) b (word_exact op false x y a b) e

-- where it gives none, it divides by 0
none_at : (op : Arith) (y v : ℕ) → y < 2 ^ 32 → (if divides op && (y % 2 ^ 32 == 0) then None else Some v) ≡ None → (divides op ≡ true) × (y ≡ 0)
none_at op y v b e = on (divides op) (y % 2 ^ 32 == 0) refl refl e where
  on : (d q : Bool) → divides op ≡ d → (y % 2 ^ 32 == 0) ≡ q → (if d && q then None else Some v) ≡ None → (divides op ≡ true) × (y ≡ 0)
  on true true f g e = let z : y % 2 ^ 32 ≡ 0 = grind (arith, nat_tests, g) in (f, omega (arith, z, b))
  on true false f g e = absurd (cc)
  on false q f g e = absurd (cc)

pub none_divides : (op : Arith) (s : Bool) (x y : ℕ) → y < 2 ^ 32 → applied op (word_kind s) x y ≡ None → (divides op ≡ true) × (y ≡ 0)
none_divides op true x y b e = none_at op y (wrapped 32 (exact_of op kind.Int x y)) b e
none_divides op false x y b e = none_at op y (wrapped 32 (exact_of op kind.Uint x y)) b e

pub some_divides : (op : Arith) (s : Bool) (x y z : ℕ) → y < 2 ^ 32 → applied op (word_kind s) x y ≡ Some z → divides op ≡ true → y ≢ 0
some_divides op true x y z b e d w = on (divides op) (y % 2 ^ 32 == 0) d (grind (arith, nat_tests, w)) e where
  on : (d q : Bool) → d ≡ true → q ≡ true → (if d && q then None else Some (wrapped 32 (exact_of op kind.Int x y))) ≡ Some z → ⊥
  on d q f g e = absurd (cc)
some_divides op false x y z b e d w = on (divides op) (y % 2 ^ 32 == 0) d (grind (arith, nat_tests, w)) e where
  on : (d q : Bool) → d ≡ true → q ≡ true → (if d && q then None else Some (wrapped 32 (exact_of op kind.Uint x y))) ≡ Some z → ⊥
  on d q f g e = absurd (cc)
