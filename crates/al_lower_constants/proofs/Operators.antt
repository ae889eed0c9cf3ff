-- Operators on constants, as on values.
use Rattle.std.proofs.Common.{◌≡◌, ℕ, ◌+◌, ◌-◌, ◌*◌, ◌/◌, ◌%◌, ◌^◌, ◌<◌, ◌≤◌, List, [], ◌∷◌, Option, Some, None, refl, sym, ap, ◌∙◌, subst, arith, ℤ, pos, negsuc, ◌-ℤ◌}
use Rattle.std.specs.Prelude.{Bool, true, false, ◌==◌, not, if◌then◌else◌, bit_and, bit_xor, unsigned_abs}
use Rattle.std.specs.Int.{int_rem_euclid}
use Rattle.std.specs.Int.Bits.{xor_add_and}
use Rattle.std.proofs.Math.Nat.{mod-eq_of_lt, mod-lt}
use Rattle.std.proofs.lemmas.Nat.{pow_pos, and_mask, xor_comm}
use Rattle.al_base.specs.Arith.{width_of, integer_of, wrapped, applied, exact_of, bits_in, one_where}
use Rattle.al_base.specs.declared.arith.Op.{Op as Arith}
use Rattle.al_base.specs.declared.arith.Op.TheVariants as alu
use Rattle.al_base.specs.declared.arith.Kind.{Kind}
use Rattle.al_base.specs.declared.arith.Kind.TheVariants as kind
use Rattle.al_typed.specs.declared.ty.Ty.{Ty}
use Rattle.al_typed.specs.declared.ty.Ty.TheVariants as ty
use Rattle.al_typed.specs.declared.ty.Ty.TheViews.{out-Ty}
use denote.Hole.Carrier.{out}
use Rattle.al_typed.specs.declared.expression.UnaryOp.{UnaryOp}
use Rattle.al_typed.specs.declared.expression.UnaryOp.TheVariants as unary
use Rattle.al_typed.specs.declared.expression.BinaryOp.{BinaryOp}
use Rattle.al_typed.specs.declared.expression.BinaryOp.TheVariants as binary
use Rattle.al_typed.specs.WellTyped.{result_kind}
use Rattle.al_convert.specs.Kinds.{kind_of}
use Rattle.al_constant.specs.Constants as constants
use Rattle.al_meaning.specs.Words.{bits_of, integer_words, computed, operated_once, complement, is_zero}
use Rattle.al_meaning.specs.Shown as shown

-- ---- integers

rem_below : (z : ℤ) (n : ℕ) → 0 < n → unsigned_abs (int_rem_euclid z (pos n)) < n
rem_below (pos a) n some = mod-lt a some
rem_below (negsuc a) n some = omega arith

pub wrapped_within : (w : ℕ) (z : ℤ) → wrapped w z < 2 ^ w
wrapped_within w z = rem_below z (2 ^ w) (pow_pos w)

pub bits_are : (j : Kind) (n : ℕ) → bits_of (integer_words j n) ≡ n
bits_are kind.Byte n = refl
bits_are kind.Sint n = refl
bits_are kind.Usint n = refl
bits_are kind.Int n = refl
bits_are kind.Uint n = refl
bits_are kind.Lint n = omega arith
bits_are kind.Ulint n = omega arith

pub zero_are : (j : Kind) (n : ℕ) → is_zero (integer_words j n) ≡ (n == 0)
zero_are j n = ap (λ m. m == 0) (bits_are j n)

pub kind_some : (j : Kind) → kind_of (ty.Integer j) ≡ Some j
unfolding kind_of out-Ty out
kind_some j = refl

pub kind_shown : (j : Kind) → shown.kind_of (ty.Integer j) ≡ j
unfolding shown.kind_of out-Ty out
kind_shown j = refl

pub some_is : (a b : ℕ) → Some a ≡ Some b → a ≡ b
some_is a b e = cc

-- ---- on one value

zero_is : (j : Kind) → integer_of j 0 ≡ pos 0
zero_is kind.Byte = refl
zero_is kind.Sint = refl
zero_is kind.Usint = refl
zero_is kind.Int = refl
zero_is kind.Uint = refl
zero_is kind.Lint = refl
zero_is kind.Ulint = refl

ones : (j : Kind) → bits_in (width_of j) (2 ^ 64 - 1) ≡ 2 ^ width_of j - 1
ones kind.Byte = refl
ones kind.Sint = refl
ones kind.Usint = refl
ones kind.Int = refl
ones kind.Uint = refl
ones kind.Lint = refl
ones kind.Ulint = refl

flipped : (w x : ℕ) → x < 2 ^ w → bit_xor (2 ^ w - 1) x ≡ 2 ^ w - 1 - x
flipped w x lt =
    let both : bit_xor x (2 ^ w - 1) + bit_and x (2 ^ w - 1) * 2 ≡ x + (2 ^ w - 1) = xor_add_and x (2 ^ w - 1) in
    let mask : bit_and x (2 ^ w - 1) ≡ x = and_mask x w ∙ mod-eq_of_lt lt in
    let turn : bit_xor (2 ^ w - 1) x ≡ bit_xor x (2 ^ w - 1) = xor_comm (2 ^ w - 1) x in
    omega (arith, both, mask, turn, lt)

complement_is : (j : Kind) (a : ℕ) → a < 2 ^ width_of j → wrapped (width_of j) (pos (bit_xor (bits_in (width_of j) (2 ^ 64 - 1)) (bits_in (width_of j) a))) ≡ complement j a
complement_is j a lt =
    let own : bits_in (width_of j) a ≡ a = mod-eq_of_lt lt in
    let is : bit_xor (bits_in (width_of j) (2 ^ 64 - 1)) (bits_in (width_of j) a) ≡ complement j a = ap (λ n. bit_xor n (bits_in (width_of j) a)) (ones j) ∙ (ap (bit_xor (2 ^ width_of j - 1)) own ∙ flipped (width_of j) a lt) in
    let small : complement j a < 2 ^ width_of j = omega (arith, lt) in
    ap (λ n. wrapped (width_of j) (pos n)) is ∙ mod-eq_of_lt small

pub once_is : (op : UnaryOp) (j : Kind) (a z : ℕ) → a < 2 ^ width_of j → constants.operated_once op j a ≡ Some z → (operated_once op j (integer_words j a) ≡ integer_words j z) × (z < 2 ^ width_of j)
unfolding constants.operated_once
once_is unary.Plus j a z lt e = let is = some_is a z e in (ap (integer_words j) is, subst (λ n. n < 2 ^ width_of j) is lt)
once_is unary.Minus j a z lt e =
    let is = some_is _ z e in
    let same : wrapped (width_of j) (pos 0 -ℤ integer_of j (bits_of (integer_words j a))) ≡ z = ap (λ n. wrapped (width_of j) (pos 0 -ℤ integer_of j n)) (bits_are j a) ∙ (ap (λ i. wrapped (width_of j) (i -ℤ integer_of j a)) (sym (zero_is j)) ∙ is) in
    (ap (integer_words j) same, subst (λ n. n < 2 ^ width_of j) same (wrapped_within (width_of j) (pos 0 -ℤ integer_of j (bits_of (integer_words j a)))))
once_is unary.Complement j a z lt e =
    let is = some_is _ z e in
    let same : complement j (bits_of (integer_words j a)) ≡ z = ap (complement j) (bits_are j a) ∙ (sym (complement_is j a lt) ∙ is) in
    (ap (integer_words j) same, subst (λ n. n < 2 ^ width_of j) is (wrapped_within (width_of j) (exact_of alu.Xor j (2 ^ 64 - 1) a)))

-- ---- on two values

pub computed_is : (op : BinaryOp) (j : Kind) (a b : ℕ) → constants.operated op j a b ≡ computed op j a b
unfolding constants.operated
computed_is binary.Multiply j a b = refl
computed_is binary.Divide j a b = refl
computed_is binary.Remainder j a b = refl
computed_is binary.Add j a b = refl
computed_is binary.Subtract j a b = refl
computed_is binary.ShiftLeft j a b = refl
computed_is binary.ShiftRight j a b = refl
computed_is binary.BitAnd j a b = refl
computed_is binary.BitXor j a b = refl
computed_is binary.BitOr j a b = refl
computed_is binary.Less j a b = refl
computed_is binary.Greater j a b = refl
computed_is binary.LessEqual j a b = refl
computed_is binary.GreaterEqual j a b = refl
computed_is binary.Equal j a b = refl
computed_is binary.NotEqual j a b = refl

applied_within : (op : Arith) (j : Kind) (a b z : ℕ) → applied op j a b ≡ Some z → z < 2 ^ width_of j
applied_within op j a b z q = on _ q
  where
    on : (c : Bool) → (if c then None else Some (wrapped (width_of j) (exact_of op j a b))) ≡ Some z → z < 2 ^ width_of j
    on true x = absurd (cc)
    on false x = subst (λ n. n < 2 ^ width_of j) (some_is _ _ x) (wrapped_within (width_of j) (exact_of op j a b))

one_small : (j : Kind) (b : Bool) → wrapped (width_of j) (one_where b) < 2 ^ 32
one_small kind.Byte true = omega arith
one_small kind.Byte false = omega arith
one_small kind.Sint true = omega arith
one_small kind.Sint false = omega arith
one_small kind.Usint true = omega arith
one_small kind.Usint false = omega arith
one_small kind.Int true = omega arith
one_small kind.Int false = omega arith
one_small kind.Uint true = omega arith
one_small kind.Uint false = omega arith
one_small kind.Lint true = omega arith
one_small kind.Lint false = omega arith
one_small kind.Ulint true = omega arith
one_small kind.Ulint false = omega arith

compared : (j : Kind) (b : Bool) (z : ℕ) → Some (wrapped (width_of j) (one_where b)) ≡ Some z → z < 2 ^ 32
compared j b z e = subst (λ n. n < 2 ^ 32) (some_is _ z e) (one_small j b)

pub computed_within : (op : BinaryOp) (j : Kind) (a b z : ℕ) → computed op j a b ≡ Some z → z < 2 ^ width_of (result_kind op j)
computed_within binary.Less j a b z e = compared j _ z e
computed_within binary.Greater j a b z e = compared j _ z e
computed_within binary.LessEqual j a b z e = compared j _ z e
computed_within binary.GreaterEqual j a b z e = compared j _ z e
computed_within binary.Equal j a b z e = compared j _ z e
computed_within binary.NotEqual j a b z e = compared j _ z e
computed_within binary.Multiply j a b z e = applied_within alu.Mul j a b z e
computed_within binary.Divide j a b z e = applied_within alu.Div j a b z e
computed_within binary.Remainder j a b z e = applied_within alu.Rem j a b z e
computed_within binary.Add j a b z e = applied_within alu.Add j a b z e
computed_within binary.Subtract j a b z e = applied_within alu.Sub j a b z e
computed_within binary.ShiftLeft j a b z e = applied_within alu.Shl j a b z e
computed_within binary.ShiftRight j a b z e = applied_within alu.Shr j a b z e
computed_within binary.BitAnd j a b z e = applied_within alu.And j a b z e
computed_within binary.BitXor j a b z e = applied_within alu.Xor j a b z e
computed_within binary.BitOr j a b z e = applied_within alu.Or j a b z e
