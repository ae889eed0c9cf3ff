-- Values as words. A value has one word for each of its units, zero-extended; the value of an array is the word of its
-- address. A lint or ulint has two, the low one first.
use Rattle.std.specs.Prelude.{ℕ, ◌+◌, ◌-◌, ◌*◌, ◌/◌, ◌%◌, ◌^◌, ◌==◌, Bool, true, false, if◌then◌else◌, List, [], ◌∷◌, ◌++◌, map, take, drop, replicate, Option, Some, None, option_map, slice_index, pos, ◌-ℤ◌, int_div, int_lt}
use Rattle.al_base.specs.Arith.{width_of, applied, wrapped, integer_of, value_of}
use Rattle.al_base.specs.declared.arith.Op.TheVariants as alu
use Rattle.al_base.specs.declared.arith.Kind.{Kind}
use Rattle.al_base.specs.declared.arith.Kind.TheVariants as kind
use Rattle.al_event.specs.Store.{bytes_of, number_of, overwritten}
use Rattle.al_typed.specs.declared.layout.Unit.{Unit}
use Rattle.al_typed.specs.declared.program.Aggregate.{Aggregate}
use Rattle.al_typed.specs.declared.ty.Ty.{Ty, Integer, Tuple', Row_of-Ty, more_of-Ty}
use Rattle.al_typed.specs.declared.expression.UnaryOp.{UnaryOp}
use Rattle.al_typed.specs.declared.expression.UnaryOp.TheVariants as unary
use Rattle.al_typed.specs.declared.expression.BinaryOp.{BinaryOp}
use Rattle.al_typed.specs.declared.expression.BinaryOp.TheVariants as binary
use Rattle.al_typed.specs.Layout.{Member, moved, size_of, units_of, words_of, member}
use Rattle.al_typed.specs.WellTyped.{result_kind}

-- ---- integers

-- the bits of an integer, which has one word or two
abbrev pub bits_of : List ℕ → ℕ
bits_of [] = 0
bits_of (w ∷ []) = w
bits_of (low ∷ high ∷ _) = low + 2 ^ 32 * high

-- the words of an integer of a kind
abbrev pub words_with : ℕ → ℕ → List ℕ
words_with width n = if width == 64 then n % 2 ^ 32 ∷ n / 2 ^ 32 ∷ [] else n ∷ []

abbrev pub integer_words : Kind → ℕ → List ℕ
integer_words k n = words_with (width_of k) n

-- what a condition asks
abbrev pub is_zero : List ℕ → Bool
is_zero ws = bits_of ws == 0

abbrev pub truth : Bool → List ℕ
truth true = 1 ∷ []
truth false = 0 ∷ []

-- an int as an integer
abbrev pub is_below : ℕ → ℕ → Bool
is_below a b = int_lt (integer_of kind.Int a) (integer_of kind.Int b)

-- ---- operators

-- none for a division by 0
abbrev pub computed : BinaryOp → Kind → ℕ → ℕ → Option ℕ
computed binary.Multiply k a b = applied alu.Mul k a b
computed binary.Divide k a b = applied alu.Div k a b
computed binary.Remainder k a b = applied alu.Rem k a b
computed binary.Add k a b = applied alu.Add k a b
computed binary.Subtract k a b = applied alu.Sub k a b
computed binary.ShiftLeft k a b = applied alu.Shl k a b
computed binary.ShiftRight k a b = applied alu.Shr k a b
computed binary.BitAnd k a b = applied alu.And k a b
computed binary.BitXor k a b = applied alu.Xor k a b
computed binary.BitOr k a b = applied alu.Or k a b
computed binary.Less k a b = applied alu.Lt k a b
computed binary.Greater k a b = applied alu.Lt k b a
computed binary.LessEqual k a b = applied alu.Le k a b
computed binary.GreaterEqual k a b = applied alu.Le k b a
computed binary.Equal k a b = applied alu.Eq k a b
computed binary.NotEqual k a b = applied alu.Ne k a b

-- an operator on two values of a kind
abbrev pub operated : BinaryOp → Kind → List ℕ → List ℕ → Option (List ℕ)
operated op k a b = option_map (integer_words (result_kind op k)) (computed op k (bits_of a) (bits_of b))

abbrev pub complement : Kind → ℕ → ℕ
complement k n = 2 ^ width_of k - 1 - n

-- an operator on a value of a kind
abbrev pub operated_once : UnaryOp → Kind → List ℕ → List ℕ
operated_once unary.Plus k a = a
operated_once unary.Minus k a = integer_words k (wrapped (width_of k) (pos 0 -ℤ integer_of k (bits_of a)))
operated_once unary.Complement k a = integer_words k (complement k (bits_of a))

-- ---- addresses

-- a word so many further on
abbrev pub sum : ℕ → ℕ → ℕ
sum a b = (a + b) % 2 ^ 32

-- what is to be added for a count less
abbrev pub negated : ℕ → ℕ
negated n = 2 ^ 32 - n % 2 ^ 32

-- a pointer that moves by a count of elements of so many bytes, forward or back
abbrev pub stepped_by : (back : Bool) → ℕ → ℕ → ℕ → ℕ
stepped_by true size pointer count = sum pointer (negated (count * size))
stepped_by false size pointer count = sum pointer (count * size)

-- how many elements of so many bytes one pointer is behind another: the signed difference, truncated
abbrev pub elements_between : ℕ → ℕ → ℕ → ℕ
elements_between size a b = wrapped 32 (int_div (value_of true 32 (sum a (negated b))) (pos size))

-- ---- conversions

-- A value of one type as one of another. Integers wrap; tuples go part by part; all else stays as it is.
abbrev mutual
  pub converted : List Aggregate → Ty → Ty → List ℕ → List ℕ
  converted rows (Integer k) (Integer j) ws = integer_words j (wrapped (width_of j) (integer_of k (bits_of ws)))
  converted rows (Tuple' _ from) (Tuple' _ to) ws = converted_parts rows from to ws
  converted rows _ _ ws = ws

  pub converted_parts : List Aggregate → {m n : _} → Row_of-Ty m → Row_of-Ty n → List ℕ → List ℕ
  converted_parts rows (more_of-Ty from more) (more_of-Ty to others) ws =
      converted rows from to (take (words_of rows from) ws) ++ converted_parts rows more others (drop (words_of rows from) ws)
  converted_parts rows _ _ ws = []

-- ---- parts of values

-- the bytes of a value: its units where they stand, and 0 in the padding
abbrev pub spelled : List Unit → List ℕ → List ℕ → List ℕ
spelled [] ws bytes = bytes
spelled (u ∷ units) ws bytes = spelled units (drop 1 ws) (overwritten bytes u.at (bytes_of u.size (slice_index ws 0)))

abbrev pub unit_in : List ℕ → Unit → ℕ
unit_in bytes u = number_of (take u.size (drop u.at bytes))

abbrev pub value_bytes : List Aggregate → Ty → List ℕ → List ℕ
value_bytes rows t ws = spelled (units_of rows t) ws (replicate (size_of rows t) 0)

-- the units of a member, where they stand
abbrev pub member_units : List Aggregate → Option Member → List Unit
member_units rows (Some m) = moved m.at (units_of rows m.ty)
member_units rows None = []

-- the member of a value that a path leads to. A union's members are read from the bytes of its units.
abbrev pub part_of : List Aggregate → Ty → List ℕ → List ℕ → List ℕ
part_of rows t path ws = map (unit_in (value_bytes rows t ws)) (member_units rows (member rows path t))

-- words of which each keeps the bytes of its unit
abbrev pub fitted_to : List Unit → List ℕ → List ℕ
fitted_to [] ws = []
fitted_to (u ∷ units) ws = slice_index ws 0 % 256 ^ u.size ∷ fitted_to units (drop 1 ws)

abbrev pub zero_words : ℕ → List ℕ
zero_words n = replicate n 0
