-- Operators, conversions and changes of values that stand in slots.
use Rattle.std.specs.Prelude.{ℕ, ◌+◌, ◌-◌, ◌*◌, ◌/◌, ◌%◌, ◌^◌, ◌==◌, nat_le, nat_lt, Bool, true, false, not, ◌&&◌, ◌||◌, if◌then◌else◌, List, [], ◌∷◌, ◌++◌}
use Rattle.al_base.specs.Arith.{width_of, is_signed, divides}
use Rattle.al_base.specs.declared.arith.Kind.{Kind}
use Rattle.al_base.specs.declared.arith.Op.{Op as Arith}
use Rattle.al_base.specs.declared.arith.Op.TheVariants as arith
use Rattle.al_typed.specs.declared.ty.Ty.{Ty, out-Ty, Integer, Tuple', Row_of-Ty, more_of-Ty}
use Rattle.al_typed.specs.declared.ty.Ty.TheOpen.{Ty-F}
use Rattle.al_typed.specs.declared.expression.BinaryOp.{BinaryOp}
use Rattle.al_typed.specs.declared.expression.BinaryOp.TheVariants as binary
use Rattle.al_meaning.specs.Words.{negated}
use Rattle.al_ir.specs.declared.ir.Operation.{Operation}
use Rattle.al_ir.specs.declared.op.Op.{Op}
use Rattle.al_ir.specs.declared.op.Op.TheVariants.{Word, WordBy, Long, IsZero, IsLongSet, Convert, Extract, Offset, SkipIfZero, SkipIfSet}
use Rattle.al_lower_code.specs.Homes.{Spot, words, size, operation, here}
use Rattle.al_lower_code.specs.Moving.{constants, copies}

-- ---- operators

abbrev pub arith_of : BinaryOp → Arith
arith_of binary.Multiply = arith.Mul
arith_of binary.Divide = arith.Div
arith_of binary.Remainder = arith.Rem
arith_of binary.Add = arith.Add
arith_of binary.Subtract = arith.Sub
arith_of binary.ShiftLeft = arith.Shl
arith_of binary.ShiftRight = arith.Shr
arith_of binary.BitAnd = arith.And
arith_of binary.BitXor = arith.Xor
arith_of binary.BitOr = arith.Or
arith_of binary.Less = arith.Lt
arith_of binary.Greater = arith.Lt
arith_of binary.LessEqual = arith.Le
arith_of binary.GreaterEqual = arith.Le
arith_of binary.Equal = arith.Eq
arith_of binary.NotEqual = arith.Ne

-- a greater than b is b less than a
abbrev pub is_swapped : BinaryOp → Bool
is_swapped binary.Greater = true
is_swapped binary.GreaterEqual = true
is_swapped _ = false

abbrev pub compares : BinaryOp → Bool
compares binary.Less = true
compares binary.Greater = true
compares binary.LessEqual = true
compares binary.GreaterEqual = true
compares binary.Equal = true
compares binary.NotEqual = true
compares _ = false

abbrev pub is_long : Kind → Bool
is_long k = width_of k == 64

abbrev pub arithmetic : Kind → Arith → (to left right : ℕ) → Op
arithmetic k op to left right = if is_long k then Long op (is_signed k) to left right else Word op (is_signed k) to left right

abbrev pub operator : BinaryOp → Kind → (to left right : ℕ) → Op
operator op k to left right =
    if is_swapped op then arithmetic k (arith_of op) to right left else arithmetic k (arith_of op) to left right

-- a word whose upper bits are those of its sign in 12 bits
abbrev pub is_short : ℕ → Bool
is_short n = nat_lt n (2 ^ 11) || (nat_le (2 ^ 32 - 2 ^ 11) n && nat_lt n (2 ^ 32))

-- the right side may be a constant of the operation
abbrev pub takes_constant : BinaryOp → Kind → ℕ → Bool
takes_constant op k n = not (is_long k) && not (is_swapped op) && is_short n && not (divides (arith_of op) && n == 0)

abbrev pub operator_by : BinaryOp → Kind → (to left n : ℕ) → Op
operator_by op k to left n = WordBy (arith_of op) (is_signed k) to left n

-- ---- conditions

-- Leaves so many operations out where a value of so many words is 0, or where it is not. A word of a pair goes into `free`.
abbrev pub skip_if_zero : Spot → (words at free count : ℕ) → List Operation
skip_if_zero s n at free count =
    if n == 2 then operation s.line (IsLongSet free at) ∷ operation s.line (SkipIfZero free count) ∷ [] else here s (SkipIfZero at count)

abbrev pub skip_if_set : Spot → (words at free count : ℕ) → List Operation
skip_if_set s n at free count =
    if n == 2 then operation s.line (IsLongSet free at) ∷ operation s.line (SkipIfSet free count) ∷ [] else here s (SkipIfSet at count)

-- 1 where a value of so many words is not 0, else 0
abbrev pub truth_code : Spot → (words to at : ℕ) → List Operation
truth_code s n to at =
    if n == 2 then here s (IsLongSet to at) else operation s.line (IsZero to at) ∷ operation s.line (IsZero to to) ∷ []

-- 1 where it is 0, else 0
abbrev pub negation_code : Spot → (words to at free : ℕ) → List Operation
negation_code s n to at free =
    if n == 2 then operation s.line (IsLongSet free at) ∷ operation s.line (IsZero to free) ∷ [] else here s (IsZero to at)

-- ---- conversions

-- the bits of an integer stay as they are
abbrev pub keeps_bits : (from into : Kind) → Bool
keeps_bits from into = (width_of from == width_of into) || (nat_lt (width_of from) (width_of into) && not (is_long into) && not (is_signed from))

abbrev mutual
  -- a value of one type is one of another as it is
  pub stays : Ty → Ty → Bool
  stays (Integer k) (Integer j) = keeps_bits k j
  stays (Tuple' _ from) (Tuple' _ into) = all_stay from into
  stays _ _ = true

  pub all_stay : {m n : _} → Row_of-Ty m → Row_of-Ty n → Bool
  all_stay (more_of-Ty from more) (more_of-Ty into others) = stays from into && all_stay more others
  all_stay _ _ = true

abbrev mutual
  -- a value of one type as one of another, in slots apart from its own
  pub convert_code : Spot → (from into : Ty) → (to at : ℕ) → List Operation
  convert_code s (Integer k) (Integer j) to at = here s (Convert k j to at)
  convert_code s (Tuple' _ from) (Tuple' _ into) to at = convert_parts s from into to at
  convert_code s from into to at = copies s.line to at (words s from)

  pub convert_parts : Spot → {m n : _} → Row_of-Ty m → Row_of-Ty n → (to at : ℕ) → List Operation
  convert_parts s (more_of-Ty from more) (more_of-Ty into others) to at =
      convert_code s from into to at ++ convert_parts s more others (to + words s into) (at + words s from)
  convert_parts s _ _ to at = []

-- ---- steps

-- what is added to a pointer that moves by so many elements
abbrev pub step_bytes : (back : Bool) → (size count : ℕ) → ℕ
step_bytes back size count = (if back then negated (count * size) else count * size) % 2 ^ 32

abbrev pub step_operator : (back : Bool) → Arith
step_operator back = if back then arith.Sub else arith.Add

-- one more or less, in slots from `to` on; two slots from `free` on serve it
abbrev pub step_integer : Spot → (back : Bool) → Kind → (to from free : ℕ) → List Operation
step_integer s back k to from free =
    if is_long k then constants s.line free (1 ∷ 0 ∷ []) ++ here s (Long (step_operator back) (is_signed k) to from free)
    else (if width_of k == 32 then here s (WordBy (step_operator back) (is_signed k) to from 1)
    else operation s.line (WordBy (step_operator back) false to from 1) ∷ operation s.line (Extract to to 0 (width_of k / 8)) ∷ [])

abbrev pub step_at : Spot → (back : Bool) → Ty-F Ty → (to from free : ℕ) → List Operation
step_at s back (Ty-F.Integer k) to from free = step_integer s back k to from free
step_at s back (Ty-F.Pointer to_type) to from free = here s (Offset to from (step_bytes back (size s to_type) 1))
step_at s back _ to from free = []

unfoldable pub step_code : Spot → (back : Bool) → Ty → (to from free : ℕ) → List Operation
step_code s back t to from free = step_at s back (out-Ty t) to from free
