-- What is left of sums, differences, products and quotients of words.
use Rattle.std.proofs.Common.{◌≡◌, ℕ, zero, suc, ◌+◌, ◌-◌, ◌*◌, ◌/◌, ◌%◌, ◌^◌, ◌<◌, ◌≤◌, ℤ, pos, negsuc, ◌-ℤ◌, neg_ℤ, Bool, true, false, arith, refl, sym, ap, ◌∙◌}
use Rattle.std.specs.Prelude.{int_div, Option, Some, IfSome}
use Rattle.std.proofs.Math.Nat.{add-mod-mod, mod-add-mod, mod-eq_of_lt, mod-le, div-zero, div-le_self, pow-le-pow_right}
use Rattle.std.proofs.lemmas.Nat.{mul-mod_first}
use Rattle.std.proofs.lemmas.Bool.Decides.{nat_tests}
use Rattle.std.proofs.lemmas.Int.{ints}
use Rattle.al_base.specs.Arith.{one_where, value_of, wrapped, integer_of, width_of}
use Rattle.al_base.specs.declared.arith.Kind.{Kind}
use Rattle.al_base.specs.declared.arith.Kind.TheVariants.{Byte, Sint, Usint, Int, Uint, Lint, Ulint}

pub rest_of_sum : (m a b : ℕ) → (a % m + b % m) % m ≡ (a + b) % m
rest_of_sum m a b = mod-add-mod a m (b % m) ∙ add-mod-mod a b m

-- a count of elements of so many bytes, of which only what is left of the count is known
pub rest_of_step : (m a count size : ℕ) → (a + count % m * size) % m ≡ (a + count * size) % m
rest_of_step m a count size =
    sym (add-mod-mod a (count % m * size) m) ∙ ap (λ r. (a + r) % m) (mul-mod_first count size m) ∙ add-mod-mod a (count * size) m

pub rest_of_step_back : (m a count size : ℕ) → (a + (m - (count % m * size) % m)) % m ≡ (a + (m - (count * size) % m)) % m
rest_of_step_back m a count size = ap (λ r. (a + (m - r)) % m) (mul-mod_first count size m)

-- ---- differences of words, as numbers with a sign

-- a quotient by 0 is 0
pub nothing_between : (z : ℤ) → wrapped 32 (int_div z (pos 0)) ≡ 0
nothing_between (pos a) = ap (λ (n : ℕ). wrapped 32 (pos n)) (div-zero a)
nothing_between (negsuc a) = ap (λ (n : ℕ). wrapped 32 (neg_ℤ (pos n))) (div-zero (suc a))

negative_word : (q : ℕ) → q < 4294967296 → (0 + (4294967296 - q % 4294967296)) % 4294967296 ≡ wrapped 32 (neg_ℤ (pos q))
negative_word zero h = refl
negative_word (suc r) h = omega arith

value_ahead : (n : ℕ) → n < 2147483648 → value_of true 32 n ≡ pos n
value_ahead n h = grind (arith, nat_tests)

value_behind : (n : ℕ) → 2147483648 ≤ n → n < 4294967296 → value_of true 32 n ≡ negsuc (4294967295 - n)
value_behind n h k = grind (arith, nat_tests, ints)

pub between_ahead : (size n : ℕ) → n < 2147483648 → n / size ≡ wrapped 32 (int_div (value_of true 32 n) (pos size))
between_ahead size n h =
    let less = div-le_self n size in
    sym (mod-eq_of_lt {m = 4294967296} (omega arith)) ∙ ap (λ z. wrapped 32 (int_div z (pos size))) (sym (value_ahead n h))

pub between_behind : (size n : ℕ) → 2147483648 ≤ n → n < 4294967296
    → (0 + (4294967296 - ((4294967296 - n) / size) % 4294967296)) % 4294967296 ≡ wrapped 32 (int_div (value_of true 32 n) (pos size))
between_behind size n h k =
    let less = div-le_self (4294967296 - n) size in
    negative_word ((4294967296 - n) / size) (omega arith)
    ∙ ap (λ m. wrapped 32 (neg_ℤ (pos (m / size)))) (omega arith)
    ∙ ap (λ z. wrapped 32 (int_div z (pos size))) (sym (value_behind n h k))

-- a word of 4 bytes or more keeps all of its bits
pub kept_whole : (word size : ℕ) → word < 4294967296 → 4 ≤ size → word ≡ word % 256 ^ size
kept_whole word size small h =
    let more : 256 ^ 4 ≤ 256 ^ size = pow-le-pow_right {n = 256} (omega arith) h in
    sym (mod-eq_of_lt (omega arith))

-- the value of a comparison is 0 or 1
pub comparison_small : (w : ℕ) (b : Bool) → wrapped w (one_where b) < 4294967296
comparison_small w true = let le = mod-le 1 (2 ^ w) in omega arith
comparison_small w false = let le = mod-le 0 (2 ^ w) in omega arith

pub integer_of_zero : (kind : Kind) → integer_of kind 0 ≡ pos 0
integer_of_zero Byte = refl
integer_of_zero Sint = refl
integer_of_zero Usint = refl
integer_of_zero Int = refl
integer_of_zero Uint = refl
integer_of_zero Lint = refl
integer_of_zero Ulint = refl
