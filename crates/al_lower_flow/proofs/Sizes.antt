-- How many operations a statement has depends neither on where jumps lead nor on where it stands.
use Rattle.std.proofs.Common.{◌≡◌, ℕ, zero, suc, ◌+◌, List, [], ◌∷◌, ◌++◌, length, Option, Some, None, refl, sym, ap, ◌∙◌, arith, length-append}
use Rattle.std.specs.Prelude.{◌==◌, Bool, true, false, if◌then◌else◌, ◌&&◌, not}
use Rattle.al_base.specs.declared.arith.Kind.{Kind}
use Rattle.al_typed.specs.declared.ty.Ty.{Ty, Integer, Tuple', Void, Pointer', Array', Chan', Aggregate, Function'}
use Rattle.al_typed.specs.declared.expression.Logic.TheVariants as logic
use Rattle.al_typed.specs.declared.expression.UnaryOp.{UnaryOp}
use Rattle.al_typed.specs.declared.expression.UnaryOp.TheVariants as unary
use Rattle.al_typed.specs.declared.expression.BinaryOp.{BinaryOp}
use Rattle.al_base.specs.Arith.{is_signed}
use Rattle.al_ir.specs.declared.ir.Operation.{Operation}
use Rattle.al_ir.specs.declared.op.Op.TheVariants.{IsLongSet, Skip, SkipIfZero, SkipIfSet, SkipUnless}
use Rattle.al_lower_code.specs.Homes.{Spot, words, operation, here}
use Rattle.al_lower_code.specs.Operators.{arith_of, is_swapped, compares, is_long, skip_if_zero, skip_if_set, keeps_bits, all_stay}
use Rattle.al_lower_code.specs.Coded.{Coded, operand_slot, operand_code, first_slot, plain, constant_coded, folded, skips_known}
use Rattle.al_lower_code.specs.Values.{negation_coded, binary_coded, and_coded, or_coded, unary_coded, less_than_constant, complement_coded, converted_coded, pair_code, binary_value, skip_unless}

pub lengths : (a b c d : List Operation) → length a ≡ length c → length b ≡ length d → length (a ++ b) ≡ length (c ++ d)
lengths a b c d e h = length-append a b ∙ (ap (λ n. n + length b) e ∙ (ap (λ n. length c + n) h ∙ sym (length-append c d)))

-- the jump over so many operations takes as many as over none
pub record Sized (c : Coded) : Type 0 where
  pub by : (to count : ℕ) → length (c.unless to count) ≡ length (c.unless to 0)

pub if_length : (b : Bool) (p q r t : List Operation) → length p ≡ length r → length q ≡ length t → length (if b then p else q) ≡ length (if b then r else t)
if_length true p q r t e h = e
if_length false p q r t e h = h

zero_sized : (s : Spot) (n at free count : ℕ) → length (skip_if_zero s n at free count) ≡ length (skip_if_zero s n at free 0)
zero_sized s n at free count =
    if_length (n == 2) (operation s.line (IsLongSet free at) ∷ operation s.line (SkipIfZero free count) ∷ []) (here s (SkipIfZero at count)) (operation s.line (IsLongSet free at) ∷ operation s.line (SkipIfZero free 0) ∷ []) (here s (SkipIfZero at 0)) refl refl

set_sized : (s : Spot) (n at free count : ℕ) → length (skip_if_set s n at free count) ≡ length (skip_if_set s n at free 0)
set_sized s n at free count =
    if_length (n == 2) (operation s.line (IsLongSet free at) ∷ operation s.line (SkipIfSet free count) ∷ []) (here s (SkipIfSet at count)) (operation s.line (IsLongSet free at) ∷ operation s.line (SkipIfSet free 0) ∷ []) (here s (SkipIfSet at 0)) refl refl

-- ---- each form

pub plain_sized : (s : Spot) (t : Ty) (stands : Option ℕ) (keeps is_truth : Bool) (value : (dest to : ℕ) → List Operation) → Sized (plain s t stands keeps is_truth value)
plain_sized s t None keeps is_truth value = record { by = λ to count. lengths (value to to) (skip_if_zero s (words s t) to to count) (value to to) (skip_if_zero s (words s t) to to 0) refl (zero_sized s (words s t) to to count) }
plain_sized s t (Some home) keeps is_truth value = record { by = λ to count. zero_sized s (words s t) home to count }

constant_sized : (s : Spot) (t : Ty) (bits : ℕ) → Sized (constant_coded s t bits)
constant_sized s t bits = record { by = λ to count. if_length (bits == 0) (here s (Skip count)) [] (here s (Skip 0)) [] refl refl }

pub folded_sized : (s : Spot) (t : Ty) (o : Option ℕ) (c : Coded) → Sized c → Sized (folded s t o c)
folded_sized s t (Some bits) c h = constant_sized s t bits
folded_sized s t None c h = h

pub negation_sized : (s : Spot) (t : Ty) (n : ℕ) (c : Coded) → Sized (negation_coded s t n c)
negation_sized s t n c = record { by = λ to count. lengths (operand_code c to) (skip_if_set s n (operand_slot c to) to count) (operand_code c to) (skip_if_set s n (operand_slot c to) to 0) refl (set_sized s n (operand_slot c to) to count) }

pub and_sized : (s : Spot) (t : Ty) (n : ℕ) (left right : Coded) → Sized left → Sized right → Sized (and_coded s t n left right)
and_sized s t n left right h k = record { by = λ to count. lengths (left.unless to (length (right.unless to count) + count)) (right.unless to count) (left.unless to (length (right.unless to 0) + 0)) (right.unless to 0) (h.by to (length (right.unless to count) + count) ∙ sym (h.by to (length (right.unless to 0) + 0))) (k.by to count) }

pub or_sized : (s : Spot) (t : Ty) (n : ℕ) (left right : Coded) → Sized left → Sized right → Sized (or_coded s t n left right)
or_sized s t n left right h k = record { by = λ to count. lengths (left.unless to 1) (operation s.line (Skip (length (right.unless to count))) ∷ right.unless to count) (left.unless to 1) (operation s.line (Skip (length (right.unless to 0))) ∷ right.unless to 0) refl (ap suc (k.by to count)) }

unless_length : (s : Spot) (op : BinaryOp) (k : Kind) (left right count : ℕ) → length (skip_unless s op k left right count) ≡ length (skip_unless s op k left right 0)
unless_length s op k left right count =
    if_length (is_swapped op) (here s (SkipUnless (arith_of op) (is_signed k) right left count)) (here s (SkipUnless (arith_of op) (is_signed k) left right count)) (here s (SkipUnless (arith_of op) (is_signed k) right left 0)) (here s (SkipUnless (arith_of op) (is_signed k) left right 0)) refl refl

if_sized : (b : Bool) (c d : Coded) → Sized c → Sized d → Sized (if b then c else d)
if_sized true c d h k = h
if_sized false c d h k = k

pub binary_sized : (s : Spot) (t : Ty) (op : BinaryOp) (k : Kind) (n : ℕ) (left right : Coded) → Sized (binary_coded s t op k n left right)
binary_sized s t op k n left right = on (compares op && not (is_long k))
  where
    c : Coded
    c = plain s t None (left.keeps && right.keeps) (compares op) (binary_value s op k n left right)

    on : (b : Bool) → Sized (if b then record c { unless = λ to count. pair_code n left right to ++ skip_unless s op k (first_slot left right to) (operand_slot right (to + n)) count } else c)
    on true = record { by = λ to count. lengths (pair_code n left right to) (skip_unless s op k (first_slot left right to) (operand_slot right (to + n)) count) (pair_code n left right to) (skip_unless s op k (first_slot left right to) (operand_slot right (to + n)) 0) refl (unless_length s op k (first_slot left right to) (operand_slot right (to + n)) count) }
    on false = plain_sized s t None (left.keeps && right.keeps) (compares op) (binary_value s op k n left right)

pub unary_sized : (s : Spot) (t : Ty) (op : UnaryOp) (c : Coded) → Sized c → Sized (unary_coded s t op c)
unary_sized s t unary.Plus c h = h
unary_sized s t unary.Minus c h = plain_sized s t None _ _ _
unary_sized s t unary.Complement c h = if_sized (is_long _) _ _ (plain_sized s t None _ _ _) (plain_sized s t None _ _ _)

pub converted_sized : (s : Spot) (from into : Ty) (c : Coded) → Sized c → Sized (converted_coded s from into c)
converted_sized s (Integer k) (Integer j) c h = if_sized (keeps_bits k j) _ _ h (plain_sized s (Integer j) None _ _ _)
converted_sized s (Tuple' m from) (Tuple' n into) c h = if_sized (all_stay from into) _ _ h (plain_sized s (Tuple' n into) None _ _ _)
converted_sized s Void into c h = h
converted_sized s (Pointer' a b) into c h = h
converted_sized s (Array' a b d) into c h = h
converted_sized s (Chan' a b d) into c h = h
converted_sized s (Aggregate a) into c h = h
converted_sized s (Function' a b d e) into c h = h
converted_sized s (Integer i) Void c h = h
converted_sized s (Integer i) (Pointer' a b) c h = h
converted_sized s (Integer i) (Array' a b d) c h = h
converted_sized s (Integer i) (Chan' a b d) c h = h
converted_sized s (Integer i) (Tuple' a b) c h = h
converted_sized s (Integer i) (Aggregate a) c h = h
converted_sized s (Integer i) (Function' a b d e) c h = h
converted_sized s (Tuple' i j) Void c h = h
converted_sized s (Tuple' i j) (Integer k) c h = h
converted_sized s (Tuple' i j) (Pointer' a b) c h = h
converted_sized s (Tuple' i j) (Array' a b d) c h = h
converted_sized s (Tuple' i j) (Chan' a b d) c h = h
converted_sized s (Tuple' i j) (Aggregate a) c h = h
converted_sized s (Tuple' i j) (Function' a b d e) c h = h
