-- Turns of iterators as words: the next one, and whether one is below another.
use Rattle.std.proofs.Common.{◌≡◌, ℕ, zero, suc, ◌+◌, ◌-◌, ◌<◌, ◌≤◌, ◌^◌, List, [], ◌∷◌, ◌++◌, take, length, Some, refl, sym, ap, ◌∙◌, ⊎_elim, arith, pos, negsuc}
use Rattle.std.specs.Prelude.{Bool, true, false, not, ◌==◌, slice_index, ◌+ℤ◌}
use Rattle.std.proofs.lemmas.Int.{ints}
use Rattle.std.proofs.lemmas.Bool.{cases_lt}
use Rattle.std.proofs.lemmas.Bool.Decides.{nat_tests}
use Rattle.al_base.specs.Arith.{applied, wrapped, one_where, value_of}
use Rattle.al_base.specs.declared.arith.Op.TheVariants as arith_op
use Rattle.al_meaning.specs.Words.{sum, is_below}
use Rattle.al_ir.specs.Step.{word_kind}

-- what a comparison gives is 0 where it does not hold
pub record Below (a b : ℕ) : Type 0 where
  pub gives : ℕ
  pub is : applied arith_op.Lt (word_kind true) a b ≡ Some gives
  pub zero : (gives == 0) ≡ not (is_below a b)

pub below : (a b : ℕ) → Below a b
below a b = on (is_below a b) refl
  where
    on : (c : Bool) → is_below a b ≡ c → Below a b
    on true e = record { gives = 1; is = ap (λ c. Some (wrapped 32 (one_where c))) e; zero = sym (ap not e) }
    on false e = record { gives = 0; is = ap (λ c. Some (wrapped 32 (one_where c))) e; zero = sym (ap not e) }

value_ahead : (n : ℕ) → n < 2147483648 → value_of true 32 n ≡ pos n
value_ahead n h = grind (arith, nat_tests)

value_behind : (n : ℕ) → 2147483648 ≤ n → n < 4294967296 → value_of true 32 n ≡ negsuc (4294967295 - n)
value_behind n h k = grind (arith, nat_tests, ints)

-- one more than a number from 0 on, and than one below 0
after_ahead : (a : ℕ) → wrapped 32 (pos a +ℤ pos 1) ≡ sum a 1
after_ahead a = let e : pos a +ℤ pos 1 ≡ pos (a + 1) = omega (arith, ints) in ap (wrapped 32) e ∙ refl

after_behind : (m a : ℕ) → a + m ≡ 4294967295 → wrapped 32 (negsuc m +ℤ pos 1) ≡ sum a 1
after_behind zero a h = let e : negsuc 0 +ℤ pos 1 ≡ pos 0 = omega (arith, ints) in ap (wrapped 32) e ∙ omega (arith, h)
after_behind (suc k) a h = let e : negsuc (suc k) +ℤ pos 1 ≡ negsuc k = omega (arith, ints) in ap (wrapped 32) e ∙ omega (arith, h)

-- one more
pub next_word : (a : ℕ) → a < 2 ^ 32 → applied arith_op.Add (word_kind true) a 1 ≡ Some (sum a 1)
next_word a lt = ap Some (⊎_elim
    (λ low. ap (λ z. wrapped 32 (z +ℤ pos 1)) (value_ahead a low) ∙ after_ahead a)
    (λ high. ap (λ z. wrapped 32 (z +ℤ pos 1)) (value_behind a high (omega (arith, lt))) ∙ after_behind (4294967295 - a) a (omega (arith, lt)))
    (cases_lt a 2147483648))

-- ---- turns that were set

pub set_before : (ts : List ℕ) (n i a : ℕ) → i < n → n ≤ length ts → slice_index (take n ts ++ a ∷ []) i ≡ slice_index ts i
set_before ts zero i a lt le = absurd (omega (arith, lt))
set_before [] (suc n) i a lt le = absurd (omega (arith, le))
set_before (t ∷ ts) (suc n) zero a lt le = refl
set_before (t ∷ ts) (suc n) (suc i) a lt le = set_before ts n i a (omega (arith, lt)) (omega (arith, le))

pub set_there : (ts : List ℕ) (n a : ℕ) → n ≤ length ts → slice_index (take n ts ++ a ∷ []) n ≡ a
set_there ts zero a le = refl
set_there [] (suc n) a le = absurd (omega (arith, le))
set_there (t ∷ ts) (suc n) a le = set_there ts n a (omega (arith, le))

pub set_long : (ts : List ℕ) (n a : ℕ) → n ≤ length ts → length (take n ts ++ a ∷ []) ≡ suc n
set_long ts zero a le = refl
set_long [] (suc n) a le = absurd (omega (arith, le))
set_long (t ∷ ts) (suc n) a le = ap suc (set_long ts n a (omega (arith, le)))
