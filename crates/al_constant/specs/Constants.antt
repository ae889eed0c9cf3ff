-- The values of constant expressions, in cases and in the initializers of globals (typing rules 21 and 22).
--
-- Integers, enum constants, casts between integers, sizeof, and operators on them are constant, where nothing divides by 0,
-- also in a part that does not decide an `&&` or `||`. A value is the bits of its type's kind.
use Rattle.std.specs.Prelude.{ℕ, ◌-◌, ◌-ℤ◌, ◌^◌, ◌==◌, pos, nat_le, Bool, not, ◌&&◌, ◌||◌, if◌then◌else◌, List, Option, Some, None, option_and_then}
use Rattle.al_base.specs.Arith.{width_of, integer_of, wrapped, applied}
use Rattle.al_base.specs.declared.arith.Kind.{Kind}
use Rattle.al_base.specs.declared.arith.Op.TheVariants as alu
use Rattle.al_typed.specs.declared.program.Aggregate.{Aggregate}
use Rattle.al_typed.specs.declared.ty.Ty.{Ty}
use Rattle.al_typed.specs.declared.expression.UnaryOp.{UnaryOp}
use Rattle.al_typed.specs.declared.expression.UnaryOp.TheVariants as unary
use Rattle.al_typed.specs.declared.expression.BinaryOp.{BinaryOp}
use Rattle.al_typed.specs.declared.expression.BinaryOp.TheVariants as binary
use Rattle.al_typed.specs.declared.expression.Logic.{Logic}
use Rattle.al_typed.specs.declared.expression.Logic.TheVariants as logic
use Rattle.al_typed.specs.declared.expression.TExpr.{TExpr, Constant, SizeofType}
use Rattle.al_typed.specs.ExpressionForms as form
use Rattle.al_typed.specs.Layout.{size_of}
use Rattle.al_typed.specs.Typed.{type_of, place_type}
use Rattle.al_convert.specs.Kinds.{kind_of}

-- ---- operators

-- of two values of a kind; none for a division by 0
unfoldable pub operated : BinaryOp → Kind → ℕ → ℕ → Option ℕ
operated binary.Multiply k a b = applied alu.Mul k a b
operated binary.Divide k a b = applied alu.Div k a b
operated binary.Remainder k a b = applied alu.Rem k a b
operated binary.Add k a b = applied alu.Add k a b
operated binary.Subtract k a b = applied alu.Sub k a b
operated binary.ShiftLeft k a b = applied alu.Shl k a b
operated binary.ShiftRight k a b = applied alu.Shr k a b
operated binary.BitAnd k a b = applied alu.And k a b
operated binary.BitXor k a b = applied alu.Xor k a b
operated binary.BitOr k a b = applied alu.Or k a b
operated binary.Less k a b = applied alu.Lt k a b
operated binary.Greater k a b = applied alu.Lt k b a
operated binary.LessEqual k a b = applied alu.Le k a b
operated binary.GreaterEqual k a b = applied alu.Le k b a
operated binary.Equal k a b = applied alu.Eq k a b
operated binary.NotEqual k a b = applied alu.Ne k a b

-- of one value of a kind; each bit of a complement differs from that of -1
unfoldable pub operated_once : UnaryOp → Kind → ℕ → Option ℕ
operated_once unary.Plus k a = Some a
operated_once unary.Minus k a = applied alu.Sub k 0 a
operated_once unary.Complement k a = applied alu.Xor k (2 ^ 64 - 1) a

abbrev pub truth : Bool → ℕ
truth holds = if holds then 1 else 0

abbrev pub is_true : ℕ → Bool
is_true a = not (a == 0)

unfoldable pub decided : Logic → ℕ → ℕ → Option ℕ
decided logic.And a b = Some (truth (is_true a && is_true b))
decided logic.Or a b = Some (truth (is_true a || is_true b))

unfoldable pub negated : ℕ → Option ℕ
negated a = Some (truth (a == 0))

-- ---- casts

abbrev pub cast_between : Option Kind → Option Kind → ℕ → Option ℕ
cast_between None to a = None
cast_between (Some from) None a = None
cast_between (Some from) (Some to) a = Some (wrapped (width_of to) (integer_of from a))

-- from one type to another; only integers are constant
unfoldable pub cast : Ty → Ty → ℕ → Option ℕ
cast from to a = cast_between (kind_of from) (kind_of to) a

-- ---- expressions

-- a type of more than 2^28 bytes breaks rule 18, and has no size
unfoldable pub size_constant : List Aggregate → Ty → Option ℕ
size_constant rows t = if nat_le (size_of rows t) 268435456 then Some (size_of rows t) else None

-- an operator on a value of a type that is one of integers
unfoldable pub operated_at : UnaryOp → Option Kind → ℕ → Option ℕ
operated_at op None a = None
operated_at op (Some k) a = operated_once op k a

abbrev pub both : (ℕ → ℕ → Option ℕ) → Option ℕ → Option ℕ → Option ℕ
both f None b = None
both f (Some a) None = None
both f (Some a) (Some b) = f a b

unfoldable pub constant : List Aggregate → TExpr → Option ℕ
constant rows (Constant t bits) = Some bits
constant rows (SizeofType t of) = size_constant rows of
constant rows (form.sizeof_place t place) = size_constant rows (place_type place)
constant rows (form.sizeof_value t value) = size_constant rows (type_of value)
constant rows (form.unary t op of) = option_and_then (operated_at op (kind_of t)) (constant rows of)
constant rows (form.negation t of) = option_and_then negated (constant rows of)
constant rows (form.binary t op k left right) = both (operated op k) (constant rows left) (constant rows right)
constant rows (form.logical t op left right) = both (decided op) (constant rows left) (constant rows right)
constant rows (form.cast t of) = option_and_then (cast (type_of of) t) (constant rows of)
constant rows (form.convert t of) = option_and_then (cast (type_of of) t) (constant rows of)
constant rows _ = None
