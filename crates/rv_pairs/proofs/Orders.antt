-- Pairs of words that are compared.
use Rattle.std.proofs.Common.{◌≡◌, ◌≢◌, ℕ, zero, suc, ◌+◌, ◌-◌, ◌*◌, ◌%◌, ◌^◌, ◌<◌, ◌≤◌, ◌==◌, Bool, true, false, not, nat_lt, nat_le, ℤ, pos, negsuc, refl, sym, ap, ap₂, ◌∙◌, arith, ◌⊎◌, inl, inr}
use Rattle.std.specs.Prelude.{bit_and, bit_or, bit_xor, int_lt, int_le}
use Rattle.std.specs.Int.Bits.{xor_self, xor_add_and}
use Rattle.std.proofs.lemmas.Nat.{and_le_l, and_le_r, le_or_l, le_or_r}
use Rattle.std.proofs.lemmas.Bool.{cases_eq}
use Rattle.std.proofs.lemmas.Bool.Decides.{nat_tests}
use Rattle.al_base.specs.Arith.{integer_of, value_of}
use Rattle.al_base.specs.declared.arith.Kind.TheVariants as kind
use Rattle.rv_exec.specs.Words.{computed, flag, less_signed, signed}
use Rattle.rv_form.specs.Words.{less as less_op}
use Rattle.rv_long.proofs.Integers.{signed_value}
use Rattle.rv_long.proofs.Numbers.{less}
use Rattle.rv_words.proofs.Values.{signed32}
use Rattle.al_ir.specs.Step.{long_kind, pair}
use Rattle.rv_pairs.proofs.Numbers.{unsigned_value, pair_below}

-- tests that say the same
same_tests : (i j m n : ℕ) → (i < j → m < n) → (m < n → i < j) → nat_lt i j ≡ nat_lt m n
same_tests i j m n f g = on (nat_lt i j) (nat_lt m n) refl refl where
  on : (b d : Bool) → nat_lt i j ≡ b → nat_lt m n ≡ d → b ≡ d
  on true true p q = refl
  on false false p q = refl
  on true false p q =
      let l : i < j = grind (arith, nat_tests, p) in
      let k : n ≤ m = grind (arith, nat_tests, q) in
      absurd (omega (arith, f l, k))
  on false true p q =
      let l : m < n = grind (arith, nat_tests, q) in
      let k : j ≤ i = grind (arith, nat_tests, p) in
      absurd (omega (arith, g l, k))

-- no bit differs, or one does
pub xor_cases : (x y : ℕ) → ((x ≡ y) × (bit_xor x y ≡ 0)) ⊎ ((x ≢ y) × (bit_xor x y ≢ 0))
xor_cases x y = on (cases_eq x y) where
  on : (x ≡ y) ⊎ (x ≢ y) → ((x ≡ y) × (bit_xor x y ≡ 0)) ⊎ ((x ≢ y) × (bit_xor x y ≢ 0))
  on (inl e) = inl (e, ap (bit_xor x) (sym e) ∙ xor_self x)
  on (inr e) = inr (e, λ z. e (omega (arith, z, xor_add_and x y, and_le_l x y, and_le_r x y)))

below_one : (n : ℕ) → n ≢ 0 → nat_lt n 1 ≡ false
below_one n some = grind (arith, nat_tests, some)

above_zero : (n : ℕ) → n ≢ 0 → nat_lt 0 n ≡ true
above_zero n some = grind (arith, nat_tests, some)

-- ---- an order, by the high words, and by the low ones where those are equal

by_words : (xl xh yl yh : ℕ) → xl < 2 ^ 32 → yl < 2 ^ 32
    → bit_or (flag (nat_lt xh yh)) (bit_and (flag (nat_lt xl yl)) (flag (nat_lt (bit_xor xh yh) 1))) ≡ flag (nat_lt (pair xl xh) (pair yl yh))
by_words xl xh yl yh a d = on (less xh yh) (less xl yl) (xor_cases xh yh) (less (pair xl xh) (pair yl yh)) where
  joined : (i j k n : ℕ) → flag (nat_lt xh yh) ≡ i → flag (nat_lt xl yl) ≡ j → flag (nat_lt (bit_xor xh yh) 1) ≡ k → flag (nat_lt (pair xl xh) (pair yl yh)) ≡ n → bit_or i (bit_and j k) ≡ n
      → bit_or (flag (nat_lt xh yh)) (bit_and (flag (nat_lt xl yl)) (flag (nat_lt (bit_xor xh yh) 1))) ≡ flag (nat_lt (pair xl xh) (pair yl yh))
  joined i j k n p q r s e = ap₂ bit_or p (ap₂ bit_and q r) ∙ e ∙ sym s

  none : bit_xor xh yh ≡ 0 → flag (nat_lt (bit_xor xh yh) 1) ≡ 1
  none z = ap (λ n. flag (nat_lt n 1)) z

  some : bit_xor xh yh ≢ 0 → flag (nat_lt (bit_xor xh yh) 1) ≡ 0
  some z = ap flag (below_one (bit_xor xh yh) z)

  on : ((xh < yh) × (flag (nat_lt xh yh) ≡ 1)) ⊎ ((yh ≤ xh) × (flag (nat_lt xh yh) ≡ 0))
      → ((xl < yl) × (flag (nat_lt xl yl) ≡ 1)) ⊎ ((yl ≤ xl) × (flag (nat_lt xl yl) ≡ 0))
      → ((xh ≡ yh) × (bit_xor xh yh ≡ 0)) ⊎ ((xh ≢ yh) × (bit_xor xh yh ≢ 0))
      → ((pair xl xh < pair yl yh) × (flag (nat_lt (pair xl xh) (pair yl yh)) ≡ 1)) ⊎ ((pair yl yh ≤ pair xl xh) × (flag (nat_lt (pair xl xh) (pair yl yh)) ≡ 0))
      → bit_or (flag (nat_lt xh yh)) (bit_and (flag (nat_lt xl yl)) (flag (nat_lt (bit_xor xh yh) 1))) ≡ flag (nat_lt (pair xl xh) (pair yl yh))
  on (inl h) k (inl e) g = absurd (omega (arith, h.0, e.0))
  on (inl h) k (inr e) (inr g) = absurd (omega (arith, h.0, g.0, a, d))
  on (inl h) (inl k) (inr e) (inl g) = joined 1 1 0 1 h.1 k.1 (some e.1) g.1 refl
  on (inl h) (inr k) (inr e) (inl g) = joined 1 0 0 1 h.1 k.1 (some e.1) g.1 refl
  on (inr h) (inl k) (inl e) (inl g) = joined 0 1 1 1 h.1 k.1 (none e.1) g.1 refl
  on (inr h) (inl k) (inl e) (inr g) = absurd (omega (arith, e.0, k.0, g.0))
  on (inr h) (inr k) (inl e) (inl g) = absurd (omega (arith, e.0, k.0, g.0))
  on (inr h) (inr k) (inl e) (inr g) = joined 0 0 1 0 h.1 k.1 (none e.1) g.1 refl
  on (inr h) k (inr e) (inl g) = absurd (omega (arith, h.0, e.0, g.0, a, d))
  on (inr h) (inl k) (inr e) (inr g) = joined 0 1 0 0 h.1 k.1 (some e.1) g.1 refl
  on (inr h) (inr k) (inr e) (inr g) = joined 0 0 0 0 h.1 k.1 (some e.1) g.1 refl

-- ---- with signs: the same order, half of all numbers further up

abbrev up32 : ℕ → ℕ
up32 x = (x + 2 ^ 31) % 2 ^ 32

signed_words : (x y : ℕ) → x < 2 ^ 32 → y < 2 ^ 32 → less_signed x y ≡ nat_lt (up32 x) (up32 y)
signed_words x y a b = on (signed32 x a) (signed32 y b) where
  on : ((x < 2 ^ 31) × (integer_of kind.Int x ≡ pos x) × (signed x ≡ pos x)) ⊎ ((2 ^ 31 ≤ x) × (integer_of kind.Int x ≡ negsuc (2 ^ 32 - 1 - x)) × (signed x ≡ negsuc (2 ^ 32 - 1 - x)))
      → ((y < 2 ^ 31) × (integer_of kind.Int y ≡ pos y) × (signed y ≡ pos y)) ⊎ ((2 ^ 31 ≤ y) × (integer_of kind.Int y ≡ negsuc (2 ^ 32 - 1 - y)) × (signed y ≡ negsuc (2 ^ 32 - 1 - y)))
      → int_lt (signed x) (signed y) ≡ nat_lt (up32 x) (up32 y)
  on (inl p) (inl q) = ap₂ int_lt p.2 q.2 ∙ same_tests x y (up32 x) (up32 y) (λ l. omega (arith, p.0, q.0, l)) (λ l. omega (arith, p.0, q.0, l))
  on (inl p) (inr q) = ap₂ int_lt p.2 q.2 ∙ same_tests 1 0 (up32 x) (up32 y) (λ l. absurd (omega (arith, l))) (λ l. absurd (omega (arith, p.0, q.0, a, b, l)))
  on (inr p) (inl q) = ap₂ int_lt p.2 q.2 ∙ same_tests 0 1 (up32 x) (up32 y) (λ l. omega (arith, p.0, q.0, a, b)) (λ l. omega arith)
  on (inr p) (inr q) = ap₂ int_lt p.2 q.2 ∙ same_tests (2 ^ 32 - 1 - y) (2 ^ 32 - 1 - x) (up32 x) (up32 y) (λ l. omega (arith, p.0, q.0, a, b, l)) (λ l. omega (arith, p.0, q.0, a, b, l))

abbrev up64 : ℕ → ℕ
up64 x = (x + 2 ^ 63) % 2 ^ 64

signed_longs : (x y : ℕ) → x < 2 ^ 64 → y < 2 ^ 64 → int_lt (value_of true 64 x) (value_of true 64 y) ≡ nat_lt (up64 x) (up64 y)
signed_longs x y a b = on (signed_value x a) (signed_value y b) where
  on : ((x < 2 ^ 63) × (value_of true 64 x ≡ pos x)) ⊎ ((2 ^ 63 ≤ x) × (value_of true 64 x ≡ negsuc (2 ^ 64 - 1 - x)))
      → ((y < 2 ^ 63) × (value_of true 64 y ≡ pos y)) ⊎ ((2 ^ 63 ≤ y) × (value_of true 64 y ≡ negsuc (2 ^ 64 - 1 - y)))
      → int_lt (value_of true 64 x) (value_of true 64 y) ≡ nat_lt (up64 x) (up64 y)
  on (inl p) (inl q) = ap₂ int_lt p.1 q.1 ∙ same_tests x y (up64 x) (up64 y) (λ l. omega (arith, p.0, q.0, l)) (λ l. omega (arith, p.0, q.0, l))
  on (inl p) (inr q) = ap₂ int_lt p.1 q.1 ∙ same_tests 1 0 (up64 x) (up64 y) (λ l. absurd (omega (arith, l))) (λ l. absurd (omega (arith, p.0, q.0, a, b, l)))
  on (inr p) (inl q) = ap₂ int_lt p.1 q.1 ∙ same_tests 0 1 (up64 x) (up64 y) (λ l. omega (arith, p.0, q.0, a, b)) (λ l. omega arith)
  on (inr p) (inr q) = ap₂ int_lt p.1 q.1 ∙ same_tests (2 ^ 64 - 1 - y) (2 ^ 64 - 1 - x) (up64 x) (up64 y) (λ l. omega (arith, p.0, q.0, a, b, l)) (λ l. omega (arith, p.0, q.0, a, b, l))

module _ (xl xh yl yh : ℕ) (a : xl < 2 ^ 32) (b : xh < 2 ^ 32) (d : yl < 2 ^ 32) (e : yh < 2 ^ 32) where
  -- a bit differs in a word where one differs in the word moved up
  equal_up : flag (nat_lt (bit_xor xh yh) 1) ≡ flag (nat_lt (bit_xor (up32 xh) (up32 yh)) 1)
  equal_up = on (xor_cases xh yh) (xor_cases (up32 xh) (up32 yh)) where
    on : ((xh ≡ yh) × (bit_xor xh yh ≡ 0)) ⊎ ((xh ≢ yh) × (bit_xor xh yh ≢ 0)) → ((up32 xh ≡ up32 yh) × (bit_xor (up32 xh) (up32 yh) ≡ 0)) ⊎ ((up32 xh ≢ up32 yh) × (bit_xor (up32 xh) (up32 yh) ≢ 0))
        → flag (nat_lt (bit_xor xh yh) 1) ≡ flag (nat_lt (bit_xor (up32 xh) (up32 yh)) 1)
    on (inl p) (inl q) = ap (λ n. flag (nat_lt n 1)) (p.1 ∙ sym q.1)
    on (inl p) (inr q) = absurd (q.0 (ap up32 p.0))
    on (inr p) (inl q) = absurd (p.0 (omega (arith, q.0, b, e)))
    on (inr p) (inr q) = ap flag (below_one (bit_xor xh yh) p.1 ∙ sym (below_one (bit_xor (up32 xh) (up32 yh)) q.1))

  pub orders : (s : Bool) → bit_or (computed (less_op s) xh yh) (bit_and (flag (nat_lt xl yl)) (flag (nat_lt (bit_xor xh yh) 1)))
      ≡ flag (int_lt (integer_of (long_kind s) (pair xl xh)) (integer_of (long_kind s) (pair yl yh)))
  orders true =
      let px : up64 (pair xl xh) ≡ pair xl (up32 xh) = omega (arith, a, b) in
      let py : up64 (pair yl yh) ≡ pair yl (up32 yh) = omega (arith, d, e) in
      ap₂ (λ (i j : ℕ). bit_or i (bit_and (flag (nat_lt xl yl)) j)) (ap flag (signed_words xh yh b e)) equal_up
      ∙ by_words xl (up32 xh) yl (up32 yh) a d
      ∙ sym (ap flag (signed_longs (pair xl xh) (pair yl yh) (pair_below xl xh a b) (pair_below yl yh d e) ∙ ap₂ nat_lt px py))
  orders false =
      by_words xl xh yl yh a d ∙ sym (ap₂ (λ (i j : ℤ). flag (int_lt i j)) (unsigned_value (pair xl xh) (pair_below xl xh a b)) (unsigned_value (pair yl yh) (pair_below yl yh d e)))

  -- some bit differs in one word or the other
  abbrev differing : ℕ
  differing = bit_or (bit_xor xl yl) (bit_xor xh yh)

  differ : ((pair xl xh ≡ pair yl yh) × (differing ≡ 0)) ⊎ ((pair xl xh ≢ pair yl yh) × (differing ≢ 0))
  differ = on (xor_cases xl yl) (xor_cases xh yh) where
    on : ((xl ≡ yl) × (bit_xor xl yl ≡ 0)) ⊎ ((xl ≢ yl) × (bit_xor xl yl ≢ 0)) → ((xh ≡ yh) × (bit_xor xh yh ≡ 0)) ⊎ ((xh ≢ yh) × (bit_xor xh yh ≢ 0))
        → ((pair xl xh ≡ pair yl yh) × (differing ≡ 0)) ⊎ ((pair xl xh ≢ pair yl yh) × (differing ≢ 0))
    on (inl p) (inl q) = inl (ap₂ pair p.0 q.0, ap₂ bit_or p.1 q.1)
    on (inl p) (inr q) = inr (λ z. q.0 (omega (arith, z, a, d)), λ z. q.1 (omega (arith, z, le_or_r (bit_xor xl yl) (bit_xor xh yh))))
    on (inr p) q = inr (λ z. p.0 (omega (arith, z, a, d)), λ z. p.1 (omega (arith, z, le_or_l (bit_xor xl yl) (bit_xor xh yh))))

  same_modulo : (pair xl xh % 2 ^ 64 ≡ pair xl xh) × (pair yl yh % 2 ^ 64 ≡ pair yl yh)
  same_modulo = (omega (arith, a, b), omega (arith, d, e))

  pub equals : flag (nat_lt differing 1) ≡ flag (pair xl xh % 2 ^ 64 == pair yl yh % 2 ^ 64)
  equals = on differ where
    on : ((pair xl xh ≡ pair yl yh) × (differing ≡ 0)) ⊎ ((pair xl xh ≢ pair yl yh) × (differing ≢ 0)) → flag (nat_lt differing 1) ≡ flag (pair xl xh % 2 ^ 64 == pair yl yh % 2 ^ 64)
    on (inl q) =
        let t : (pair xl xh % 2 ^ 64 == pair yl yh % 2 ^ 64) ≡ true = is_equal (pair xl xh % 2 ^ 64) (pair yl yh % 2 ^ 64) (ap (λ n. n % 2 ^ 64) q.0) in
        ap (λ n. flag (nat_lt n 1)) q.1 ∙ sym (ap flag t) where
          is_equal : (i j : ℕ) → i ≡ j → (i == j) ≡ true
          is_equal i j f = grind (arith, nat_tests, f)
    on (inr q) =
        let t : (pair xl xh % 2 ^ 64 == pair yl yh % 2 ^ 64) ≡ false = not_equal (pair xl xh % 2 ^ 64) (pair yl yh % 2 ^ 64) (λ z. q.0 (sym same_modulo.0 ∙ z ∙ same_modulo.1)) in
        ap flag (below_one differing q.1) ∙ sym (ap flag t) where
          not_equal : (i j : ℕ) → i ≢ j → (i == j) ≡ false
          not_equal i j f = grind (arith, nat_tests, f)

  pub differs : flag (nat_lt 0 differing) ≡ flag (not (pair xl xh % 2 ^ 64 == pair yl yh % 2 ^ 64))
  differs = turned differing (pair xl xh % 2 ^ 64 == pair yl yh % 2 ^ 64) equals where
    turned : (n : ℕ) (t : Bool) → flag (nat_lt n 1) ≡ flag t → flag (nat_lt 0 n) ≡ flag (not t)
    turned zero true q = refl
    turned zero false q = absurd (cc)
    turned (suc n) t q = ap flag (above_zero (suc n) (λ z. absurd (omega (arith, z)))) ∙ only t (ap flag (sym (below_one (suc n) (λ z. absurd (omega (arith, z))))) ∙ q) where
      only : (t : Bool) → 0 ≡ flag t → 1 ≡ flag (not t)
      only true w = absurd (cc)
      only false w = refl

not_lt : (x y : ℕ) → nat_le x y ≡ not (nat_lt y x)
not_lt x y = on (nat_le x y) (nat_lt y x) refl refl where
  on : (b c : Bool) → nat_le x y ≡ b → nat_lt y x ≡ c → b ≡ not c
  on true true p q = absurd (grind (arith, nat_tests, p, q))
  on true false p q = refl
  on false true p q = refl
  on false false p q = absurd (grind (arith, nat_tests, p, q))

pub not_less : (x y : ℤ) → int_le x y ≡ not (int_lt y x)
not_less (pos m) (pos n) = not_lt m n
not_less (pos m) (negsuc n) = refl
not_less (negsuc m) (pos n) = refl
not_less (negsuc m) (negsuc n) = not_lt n m
