-- What whole routines do.
use Rattle.std.proofs.Common.{◌≡◌, ℕ, ◌-◌, ◌*◌, ◌/◌, ◌%◌, ◌^◌, ◌<◌, ◌≤◌, ◌==◌, Bool, true, false, if◌then◌else◌, List, ◌++◌, Some, None, ◌⊎◌, inl, inr, refl, sym, ap, ap₂, subst, ◌∙◌, arith, pos, negsuc, lit<}
use Rattle.std.specs.Prelude.{◌*ℤ◌}
use Rattle.std.specs.Int.{int_shr}
use Rattle.std.proofs.Math.Nat.{mod-lt, mod-eq_of_lt}
use Rattle.std.proofs.lemmas.Bool.Decides.{nat_tests}
use Rattle.std.specs.Int.{w128}
use Rattle.std.proofs.lemmas.Int.{to_z_pos}
use Rattle.std.proofs.lemmas.Nat.{one_shl, mod_below}
use Rattle.al_base.specs.Arith.{wrapped, value_of}
use Rattle.al_base.specs.declared.arith.Kind.TheVariants.{Lint}
use Rattle.al_base.proofs.Products.{product_in, shift_in, wrapped-value}
use Rattle.rv_long.specs.declared.step.Step.{Step}
use Rattle.rv_long.specs.declared.op.LongOp.{LongOp}
use Rattle.rv_long.specs.declared.op.LongOp.TheVariants.{Mul, Sll, Srl, Sra}
use Rattle.rv_long.specs.declared.blocks.TheConstants.{MULTIPLY, POWER, SHIFT_RIGHT, SIGN, COMPLEMENT}
use Rattle.rv_long.specs.Code.{lines_of}
use Rattle.rv_long.specs.Long.{Computes, HasOperands, may_change, result_of, two_words}
use Rattle.rv_long.proofs.Listing.{some_instructions}
use Rattle.rv_long.proofs.Running.{after, after_keeps, writes_only, runs}
use Rattle.rv_long.proofs.Integers.{signed_value, shr_pos, shr_negsuc}
use Rattle.rv_long.proofs.Pieces.{IsAt, multiply, power, shift_right, IsSign, sign_is, turned, complement}

-- what steps do to the operands of an operation
abbrev pub Does : LongOp → List Step → Type 0
Does op ss =
    (r : ℕ → ℕ) (value : ℕ) → HasOperands r → result_of op (two_words (r 10) (r 11)) (two_words (r 12) (r 13)) ≡ Some value
    → IsAt 10 11 (after ss r) value

halves : (low high value : ℕ) → low < 2 ^ 32 → two_words low high ≡ value → (low ≡ value % 2 ^ 32) × (high ≡ value / 2 ^ 32)
halves low high value h e = (omega (arith, e), omega (arith, e))

module _ (op : LongOp) (ss : List Step) (does : Does op ss) (only : writes_only may_change ss ≡ true) where
  pub computes : Computes op (lines_of ss)
  computes = record {
    runs = λ image before words rest h p value is reads at operands result.
        let there = does h.registers value operands result in
        let parts = halves (after ss h.registers 10) (after ss h.registers 11) value there.low_word there.is in
        record {
          registers = after ss h.registers;
          goes = runs ss image before words rest h p is (reads ∙ some_instructions ss) at;
          low = parts.0;
          high = parts.1;
          kept = λ n not. after_keeps may_change ss h.registers n only not;
        };
  }

-- ---- the operands

pub left_at : (r : ℕ → ℕ) → HasOperands r → IsAt 10 11 r (two_words (r 10) (r 11))
left_at r h = record { low_word = h.left_low; high_word = h.left_high; is = refl }

pub right_at : (r : ℕ → ℕ) → HasOperands r → IsAt 12 13 r (two_words (r 12) (r 13))
right_at r h = record { low_word = h.right_low; high_word = h.right_high; is = refl }

value_is : (x value : ℕ) → Some x ≡ Some value → x ≡ value
value_is x value e = cc

pub divided : (b x value : ℕ) → (if b == 0 then None else Some x) ≡ Some value → (0 < b) × (x ≡ value)
divided b x value = on (b == 0) refl where
  on : (t : Bool) → (b == 0) ≡ t → (if t then None else Some x) ≡ Some value → (0 < b) × (x ≡ value)
  on true f e = absurd (cc)
  on false f e = (grind (arith, nat_tests, f), cc)

-- the numbers of a result
pub same_at : (r : ℕ → ℕ) (x y : ℕ) → IsAt 10 11 r x → x ≡ y → IsAt 10 11 r y
same_at r x y h e = record { low_word = h.low_word; high_word = h.high_word; is = h.is ∙ e }

pub below_64 : (low high : ℕ) → low < 2 ^ 32 → high < 2 ^ 32 → two_words low high < 2 ^ 64
below_64 low high p q = omega arith

pub whole_bits : (a : ℕ) → a < 2 ^ 64 → a % 2 ^ 64 ≡ a
whole_bits a h = mod-eq_of_lt h

-- a count is taken modulo 64
count_is : (low high : ℕ) → two_words low high % 2 ^ 64 % 64 ≡ low % 64
count_is low high = omega arith

-- ---- products

product_bits : (a b : ℕ) → wrapped 64 (value_of true 64 a *ℤ value_of true 64 b) ≡ a * b % 2 ^ 64
product_bits a b =
    let small : a * b % 2 ^ 64 < 2 ^ 64 = mod-lt (a * b) (lit< tt) in
    let half : a * b % 2 ^ 64 < 2 ^ 127 = omega arith in
    sym (product_in Lint (value_of true 64 b) a b (wrapped-value 64 true b)) ∙ ap (wrapped 64) (to_z_pos w128 (a * b % 2 ^ 64) half) ∙ mod-eq_of_lt small

pub mul_does : Does Mul MULTIPLY
mul_does r value h e =
    same_at (after MULTIPLY r) _ value (multiply r _ _ (left_at r h) (right_at r h))
    (sym (product_bits (two_words (r 10) (r 11)) (two_words (r 12) (r 13))) ∙ value_is _ value e)

-- a shift to the left is a product with a power of two
shl_bits : (a k : ℕ) → k < 64 → wrapped 64 (value_of true 64 a *ℤ pos (2 ^ k)) ≡ a * 2 ^ k % 2 ^ 64
shl_bits a k h =
    let one : 1 * 2 ^ k % 2 ^ 64 ≡ 2 ^ k = one_shl k 64 h in
    let small : a * (1 * 2 ^ k % 2 ^ 64) % 2 ^ 64 < 2 ^ 64 = mod-lt (a * (1 * 2 ^ k % 2 ^ 64)) (lit< tt) in
    let half : a * (1 * 2 ^ k % 2 ^ 64) % 2 ^ 64 < 2 ^ 127 = omega arith in
    sym (shift_in Lint a k k refl) ∙ ap (wrapped 64) (to_z_pos w128 (a * (1 * 2 ^ k % 2 ^ 64) % 2 ^ 64) half) ∙ mod-eq_of_lt small
    ∙ ap (λ (x : ℕ). a * x % 2 ^ 64) one

pub sll_does : Does Sll (POWER ++ MULTIPLY)
sll_does r value h e =
    let a : ℕ = two_words (r 10) (r 11) in
    let k : ℕ = two_words (r 12) (r 13) % 2 ^ 64 % 64 in
    let left : IsAt 10 11 (after POWER r) a = record { low_word = h.left_low; high_word = h.left_high; is = refl } in
    same_at (after MULTIPLY (after POWER r)) (a * 2 ^ (r 12 % 64) % 2 ^ 64) value (multiply (after POWER r) a (2 ^ (r 12 % 64)) left (power r h.right_low))
    (ap (λ (n : ℕ). a * 2 ^ n % 2 ^ 64) (sym (count_is (r 12) (r 13))) ∙ sym (shl_bits a k (mod_below (two_words (r 12) (r 13) % 2 ^ 64) 64 (lit< tt))) ∙ value_is _ value e)

-- ---- shifts to the right

pub srl_does : Does Srl SHIFT_RIGHT
srl_does r value h e =
    let a : ℕ = two_words (r 10) (r 11) in
    let small : a < 2 ^ 64 = below_64 (r 10) (r 11) h.left_low h.left_high in
    let k : ℕ = two_words (r 12) (r 13) % 2 ^ 64 % 64 in
    same_at (after SHIFT_RIGHT r) (a / 2 ^ (r 12 % 64)) value (shift_right r a (left_at r h) h.right_low)
    (ap₂ (λ (x n : ℕ). x / 2 ^ n) (sym (whole_bits a small)) (sym (count_is (r 12) (r 13))) ∙ sym (shr_pos (a % 2 ^ 64) k (mod-lt a (lit< tt))) ∙ value_is _ value e)

sra_bits : (a s k : ℕ) → a < 2 ^ 64 → s ≡ a / 2 ^ 63 → turned s (turned s a / 2 ^ k) ≡ wrapped 64 (int_shr (value_of true 64 a) k)
sra_bits a s k small e = on (signed_value a small) where
  on : ((a < 2 ^ 63) × (value_of true 64 a ≡ pos a)) ⊎ ((2 ^ 63 ≤ a) × (value_of true 64 a ≡ negsuc (2 ^ 64 - 1 - a)))
      → turned s (turned s a / 2 ^ k) ≡ wrapped 64 (int_shr (value_of true 64 a) k)
  on (inl c) =
      let none : s ≡ 0 = omega arith in
      let less : a < 2 ^ 64 = omega arith in
      rw (none, c.1) (sym (shr_pos a k less))
  on (inr c) =
      let some : s ≡ 1 = omega arith in
      let less : 2 ^ 64 - 1 - a < 2 ^ 64 = omega arith in
      rw (some, c.1) (sym (shr_negsuc (2 ^ 64 - 1 - a) k less))

pub sra_does : Does Sra (SIGN ++ COMPLEMENT ++ SHIFT_RIGHT ++ COMPLEMENT)
sra_does r value h e =
    let a : ℕ = two_words (r 10) (r 11) in
    let small : a < 2 ^ 64 = below_64 (r 10) (r 11) h.left_low h.left_high in
    let s : ℕ = r 11 / 2 ^ 31 in
    let sign = sign_is (r 10) (r 11) a h.left_low h.left_high refl in
    let is_sign : IsSign s = subst IsSign (sym sign.0) sign.1 in
    let r1 : ℕ → ℕ = after SIGN r in
    let p1 : IsAt 10 11 r1 a = record { low_word = h.left_low; high_word = h.left_high; is = refl } in
    let r2 : ℕ → ℕ = after COMPLEMENT r1 in
    let p2 : IsAt 10 11 r2 (turned s a) = complement r1 a is_sign p1 in
    let r3 : ℕ → ℕ = after SHIFT_RIGHT r2 in
    let p3 : IsAt 10 11 r3 (turned s a / 2 ^ (r 12 % 64)) = shift_right r2 (turned s a) p2 h.right_low in
    same_at (after COMPLEMENT r3) _ value (complement r3 (turned s a / 2 ^ (r 12 % 64)) is_sign p3)
    (ap (λ (n : ℕ). turned s (turned s a / 2 ^ n)) (sym (count_is (r 12) (r 13))) ∙ sra_bits a s _ small sign.0 ∙ value_is _ value e)
