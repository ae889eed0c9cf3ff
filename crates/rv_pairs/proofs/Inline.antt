-- What the instructions of an operation on pairs compute that stand in line.
use Rattle.std.proofs.Common.{◌≡◌, ◌≢◌, ℕ, ◌+◌, ◌-◌, ◌/◌, ◌%◌, ◌^◌, ◌<◌, ◌≤◌, ◌==◌, Bool, true, false, not, nat_lt, pos, Option, Some, refl, sym, ap, ◌∙◌, arith, inl, inr}
use Rattle.std.specs.Prelude.{bit_and, bit_or, bit_xor, int_lt, int_le}
use Rattle.std.proofs.lemmas.Nat.{and_shr, or_shr, xor_shr, and_mod, or_mod, xor_mod}
use Rattle.al_base.specs.Arith.{applied, wrapped, integer_of, one_where}
use Rattle.al_base.specs.declared.arith.Op.{Op as Arith}
use Rattle.al_base.specs.declared.arith.Op.TheVariants as arith
use Rattle.rv_exec.specs.Words.{flag, computed}
use Rattle.al_ir.specs.Step.{long_kind, pair}
use Rattle.rv_code.proofs.Operands.{IsKept}
use Rattle.rv_form.specs.Longs.{long_instrs}
use Rattle.rv_form.specs.Words.{less as less_op}
use Rattle.rv_words.proofs.Straight.{AreStraight, after, Spares}
use Rattle.rv_pairs.proofs.Numbers.{pair_below, sums, differences, sum_low, sum_high, difference_low, difference_high, bits_low, bits_high, and_below, or_below, xor_below}
use Rattle.rv_pairs.proofs.Orders.{orders, equals, differs, not_less}

-- what the operation gives stands in registers 10 and 11, or in 10 where it compares
abbrev pub Gives : Arith → (z : ℕ) → (r : ℕ → ℕ) → Type 0
Gives arith.Lt z r = r 10 ≡ z
Gives arith.Le z r = r 10 ≡ z
Gives arith.Eq z r = r 10 ≡ z
Gives arith.Ne z r = r 10 ≡ z
Gives _ z r = (r 10 ≡ z % 2 ^ 32) × (r 11 ≡ z / 2 ^ 32)

-- operations whose instructions are no routine
abbrev pub IsInLine : Arith → Type 0
IsInLine arith.Mul = ⊥
IsInLine arith.Div = ⊥
IsInLine arith.Rem = ⊥
IsInLine arith.Shl = ⊥
IsInLine arith.Shr = ⊥
IsInLine _ = Unit {0}

pub in_line_straight : (o : Arith) (s : Bool) → IsInLine o → AreStraight (long_instrs o s)
in_line_straight arith.Add s i = (tt, (tt, (tt, (tt, tt))))
in_line_straight arith.Sub s i = (tt, (tt, (tt, (tt, tt))))
in_line_straight arith.And s i = (tt, (tt, tt))
in_line_straight arith.Or s i = (tt, (tt, tt))
in_line_straight arith.Xor s i = (tt, (tt, tt))
in_line_straight arith.Lt s i = (tt, (tt, (tt, (tt, (tt, (tt, tt))))))
in_line_straight arith.Le s i = (tt, (tt, (tt, (tt, (tt, (tt, (tt, tt)))))))
in_line_straight arith.Eq s i = (tt, (tt, (tt, (tt, tt))))
in_line_straight arith.Ne s i = (tt, (tt, (tt, (tt, tt))))
in_line_straight arith.Mul s i = absurd i
in_line_straight arith.Div s i = absurd i
in_line_straight arith.Rem s i = absurd i
in_line_straight arith.Shl s i = absurd i
in_line_straight arith.Shr s i = absurd i

pub scratch_apart : (k n : ℕ) → (5 ≤ k) × (k ≤ 17) → IsKept n → n ≢ k
scratch_apart k n s (inl f) e = absurd (omega (arith, s.0, f.1, e))
scratch_apart k n s (inr f) e = absurd (omega (arith, s.1, f.0, e))

pub in_line_spares : (o : Arith) (s : Bool) → IsInLine o → (n : ℕ) → IsKept n → Spares n (long_instrs o s)
in_line_spares o s i n k = on o i where
  five : n ≢ 5
  five = scratch_apart 5 n (omega arith, omega arith) k

  six : n ≢ 6
  six = scratch_apart 6 n (omega arith, omega arith) k

  seven : n ≢ 7
  seven = scratch_apart 7 n (omega arith, omega arith) k

  ten : n ≢ 10
  ten = scratch_apart 10 n (omega arith, omega arith) k

  eleven : n ≢ 11
  eleven = scratch_apart 11 n (omega arith, omega arith) k

  on : (o : Arith) → IsInLine o → Spares n (long_instrs o s)
  on arith.Add i = (ten, (five, (eleven, (eleven, tt))))
  on arith.Sub i = (five, (ten, (eleven, (eleven, tt))))
  on arith.And i = (ten, (eleven, tt))
  on arith.Or i = (ten, (eleven, tt))
  on arith.Xor i = (ten, (eleven, tt))
  on arith.Lt i = (five, (six, (six, (seven, (seven, (ten, tt))))))
  on arith.Le i = (five, (six, (six, (seven, (seven, (ten, (ten, tt)))))))
  on arith.Eq i = (ten, (eleven, (ten, (ten, tt))))
  on arith.Ne i = (ten, (eleven, (ten, (ten, tt))))
  on arith.Mul i = absurd i
  on arith.Div i = absurd i
  on arith.Rem i = absurd i
  on arith.Shl i = absurd i
  on arith.Shr i = absurd i

some_is : {i j : ℕ} → Some i ≡ Some j → i ≡ j
some_is e = cc

flags : (t : Bool) → flag t ≡ wrapped 64 (one_where t)
flags true = refl
flags false = refl

turned : (t : Bool) → bit_xor (flag t) 1 ≡ flag (not t)
turned true = refl
turned false = refl

module _ (r : ℕ → ℕ) (a : r 10 < 2 ^ 32) (b : r 11 < 2 ^ 32) (d : r 12 < 2 ^ 32) (e : r 13 < 2 ^ 32) where
  abbrev x : ℕ
  x = pair (r 10) (r 11)

  abbrev y : ℕ
  y = pair (r 12) (r 13)

  x_below : pair (r 10) (r 11) < 2 ^ 64
  x_below = pair_below (r 10) (r 11) a b

  y_below : pair (r 12) (r 13) < 2 ^ 64
  y_below = pair_below (r 12) (r 13) d e

  halves : (z v low high : ℕ) → v ≡ z → low ≡ v % 2 ^ 32 → high ≡ v / 2 ^ 32 → (low ≡ z % 2 ^ 32) × (high ≡ z / 2 ^ 32)
  halves z v low high f g k = (g ∙ ap (λ n. n % 2 ^ 32) f, k ∙ ap (λ n. n / 2 ^ 32) f)

  orders_back : (s : Bool) → bit_or (computed (less_op s) (r 13) (r 11)) (bit_and (flag (nat_lt (r 12) (r 10))) (flag (nat_lt (bit_xor (r 13) (r 11)) 1)))
      ≡ flag (int_lt (integer_of (long_kind s) y) (integer_of (long_kind s) x))
  orders_back s = orders (r 12) (r 13) (r 10) (r 11) d e a b s

  at_most : (s : Bool) → bit_xor (bit_or (computed (less_op s) (r 13) (r 11)) (bit_and (flag (nat_lt (r 12) (r 10))) (flag (nat_lt (bit_xor (r 13) (r 11)) 1)))) 1
      ≡ wrapped 64 (one_where (int_le (integer_of (long_kind s) x) (integer_of (long_kind s) y)))
  at_most s =
      ap (λ n. bit_xor n 1) (orders_back s) ∙ turned (int_lt (integer_of (long_kind s) y) (integer_of (long_kind s) x))
      ∙ ap flag (sym (not_less (integer_of (long_kind s) x) (integer_of (long_kind s) y))) ∙ flags (int_le (integer_of (long_kind s) x) (integer_of (long_kind s) y))

  less_is : (s : Bool) → bit_or (computed (less_op s) (r 11) (r 13)) (bit_and (flag (nat_lt (r 10) (r 12))) (flag (nat_lt (bit_xor (r 11) (r 13)) 1)))
      ≡ wrapped 64 (one_where (int_lt (integer_of (long_kind s) x) (integer_of (long_kind s) y)))
  less_is s = orders (r 10) (r 11) (r 12) (r 13) a b d e s ∙ flags (int_lt (integer_of (long_kind s) x) (integer_of (long_kind s) y))

  equal_is : flag (nat_lt (bit_or (bit_xor (r 10) (r 12)) (bit_xor (r 11) (r 13))) 1) ≡ wrapped 64 (one_where (x % 2 ^ 64 == y % 2 ^ 64))
  equal_is = equals (r 10) (r 11) (r 12) (r 13) a b d e ∙ flags (x % 2 ^ 64 == y % 2 ^ 64)

  different_is : flag (nat_lt 0 (bit_or (bit_xor (r 10) (r 12)) (bit_xor (r 11) (r 13)))) ≡ wrapped 64 (one_where (not (x % 2 ^ 64 == y % 2 ^ 64)))
  different_is = differs (r 10) (r 11) (r 12) (r 13) a b d e ∙ flags (not (x % 2 ^ 64 == y % 2 ^ 64))

  pub in_line_gives : (o : Arith) (s : Bool) → IsInLine o → (z : ℕ) → applied o (long_kind s) (pair (r 10) (r 11)) (pair (r 12) (r 13)) ≡ Some z → Gives o z (after (long_instrs o s) r)
  in_line_gives arith.Add true i z f = halves z ((x + y) % 2 ^ 64) _ _ (sym (sums true x y x_below y_below) ∙ some_is f) (sum_low (r 10) (r 11) (r 12) (r 13) a b d e) (sum_high (r 10) (r 11) (r 12) (r 13) a b d e)
  in_line_gives arith.Add false i z f = halves z ((x + y) % 2 ^ 64) _ _ (sym (sums false x y x_below y_below) ∙ some_is f) (sum_low (r 10) (r 11) (r 12) (r 13) a b d e) (sum_high (r 10) (r 11) (r 12) (r 13) a b d e)
  in_line_gives arith.Sub true i z f =
      halves z ((x + (2 ^ 64 - y)) % 2 ^ 64) _ _ (sym (differences true x y x_below y_below) ∙ some_is f) (difference_low (r 10) (r 11) (r 12) (r 13) a b d e) (difference_high (r 10) (r 11) (r 12) (r 13) a b d e)
  in_line_gives arith.Sub false i z f =
      halves z ((x + (2 ^ 64 - y)) % 2 ^ 64) _ _ (sym (differences false x y x_below y_below) ∙ some_is f) (difference_low (r 10) (r 11) (r 12) (r 13) a b d e) (difference_high (r 10) (r 11) (r 12) (r 13) a b d e)
  in_line_gives arith.And true i z f = halves z _ _ _ (some_is f) (bits_low (r 10) (r 11) (r 12) (r 13) a b d e bit_and and_mod and_shr (and_below (r 10) (r 11) (r 12) (r 13) a b d e))
      (bits_high (r 10) (r 11) (r 12) (r 13) a b d e bit_and and_mod and_shr (and_below (r 10) (r 11) (r 12) (r 13) a b d e))
  in_line_gives arith.And false i z f = halves z _ _ _ (some_is f) (bits_low (r 10) (r 11) (r 12) (r 13) a b d e bit_and and_mod and_shr (and_below (r 10) (r 11) (r 12) (r 13) a b d e))
      (bits_high (r 10) (r 11) (r 12) (r 13) a b d e bit_and and_mod and_shr (and_below (r 10) (r 11) (r 12) (r 13) a b d e))
  in_line_gives arith.Or true i z f = halves z _ _ _ (some_is f) (bits_low (r 10) (r 11) (r 12) (r 13) a b d e bit_or or_mod or_shr (or_below (r 10) (r 11) (r 12) (r 13) a b d e))
      (bits_high (r 10) (r 11) (r 12) (r 13) a b d e bit_or or_mod or_shr (or_below (r 10) (r 11) (r 12) (r 13) a b d e))
  in_line_gives arith.Or false i z f = halves z _ _ _ (some_is f) (bits_low (r 10) (r 11) (r 12) (r 13) a b d e bit_or or_mod or_shr (or_below (r 10) (r 11) (r 12) (r 13) a b d e))
      (bits_high (r 10) (r 11) (r 12) (r 13) a b d e bit_or or_mod or_shr (or_below (r 10) (r 11) (r 12) (r 13) a b d e))
  in_line_gives arith.Xor true i z f = halves z _ _ _ (some_is f) (bits_low (r 10) (r 11) (r 12) (r 13) a b d e bit_xor xor_mod xor_shr (xor_below (r 10) (r 11) (r 12) (r 13) a b d e))
      (bits_high (r 10) (r 11) (r 12) (r 13) a b d e bit_xor xor_mod xor_shr (xor_below (r 10) (r 11) (r 12) (r 13) a b d e))
  in_line_gives arith.Xor false i z f = halves z _ _ _ (some_is f) (bits_low (r 10) (r 11) (r 12) (r 13) a b d e bit_xor xor_mod xor_shr (xor_below (r 10) (r 11) (r 12) (r 13) a b d e))
      (bits_high (r 10) (r 11) (r 12) (r 13) a b d e bit_xor xor_mod xor_shr (xor_below (r 10) (r 11) (r 12) (r 13) a b d e))
  in_line_gives arith.Lt true i z f = less_is true ∙ some_is f
  in_line_gives arith.Lt false i z f = less_is false ∙ some_is f
  in_line_gives arith.Le true i z f = at_most true ∙ some_is f
  in_line_gives arith.Le false i z f = at_most false ∙ some_is f
  in_line_gives arith.Eq true i z f = equal_is ∙ some_is f
  in_line_gives arith.Eq false i z f = equal_is ∙ some_is f
  in_line_gives arith.Ne true i z f = different_is ∙ some_is f
  in_line_gives arith.Ne false i z f = different_is ∙ some_is f
  in_line_gives arith.Mul s i z f = absurd i
  in_line_gives arith.Div s i z f = absurd i
  in_line_gives arith.Rem s i z f = absurd i
  in_line_gives arith.Shl s i z f = absurd i
  in_line_gives arith.Shr s i z f = absurd i
