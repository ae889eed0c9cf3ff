-- Arithmetic on integers that are known when a text is compiled.
use Rattle.std.specs.Prelude.{ℕ, ◌-◌, ◌^◌, nat_lt, if◌then◌else◌, Option, Some, None, option_map, option_and_then}
use Rattle.al_base.specs.Arith.{width_of, integer_of, wrapped, applied}
use Rattle.al_base.specs.declared.arith.Kind.{Kind}
use Rattle.al_base.specs.declared.arith.Kind.TheVariants.{Byte, Sint, Usint, Int, Uint, Lint, Ulint}
use Rattle.al_base.specs.declared.arith.Op.{Op}
use Rattle.al_base.specs.declared.arith.Op.TheVariants as op
use Rattle.al_tree.specs.declared.integer.Integer.{Integer}
use Rattle.al_tree.specs.declared.expression.UnaryOp.{UnaryOp}
use Rattle.al_tree.specs.declared.expression.UnaryOp.TheVariants as un
use Rattle.al_tree.specs.declared.expression.BinaryOp.{BinaryOp}
use Rattle.al_tree.specs.declared.expression.BinaryOp.TheVariants as bin

abbrev pub integer : Kind → ℕ → Integer
integer kind bits = record { kind = kind; bits = bits }

abbrev pub int : ℕ → Integer
int = integer Int

-- in arithmetic byte, sint and usint become int
unfoldable pub promoted : Kind → Kind
promoted Byte = Int
promoted Sint = Int
promoted Usint = Int
promoted Int = Int
promoted Uint = Uint
promoted Lint = Lint
promoted Ulint = Ulint

-- wider kinds stand higher, and of equal widths the unsigned one
unfoldable pub rank : Kind → ℕ
rank Byte = 0
rank Sint = 0
rank Usint = 0
rank Int = 0
rank Uint = 1
rank Lint = 2
rank Ulint = 3

-- the kind of arithmetic on two integers
unfoldable pub common : Kind → Kind → Kind
common a b = if nat_lt (rank a) (rank b) then promoted b else promoted a

-- the integer in another kind
unfoldable pub in_kind : Kind → Integer → Integer
in_kind kind i = integer kind (wrapped (width_of kind) (integer_of i.kind i.bits))

unfoldable pub arithmetic : Op → Integer → Integer → Option Integer
arithmetic o a b = let kind = common a.kind b.kind in option_map (integer kind) (applied o kind (in_kind kind a).bits (in_kind kind b).bits)

-- a comparison gives the int 0 or 1
unfoldable pub compared : Op → Integer → Integer → Option Integer
compared o a b = let kind = common a.kind b.kind in option_map int (applied o kind (in_kind kind a).bits (in_kind kind b).bits)

-- a shift has the promoted kind of its left operand, and takes its count modulo the width
unfoldable pub shifted : Op → Integer → Integer → Option Integer
shifted o a b = let kind = promoted a.kind in option_map (integer kind) (applied o kind (in_kind kind a).bits b.bits)

-- whether it is not 0
unfoldable pub truth : Integer → Option Integer
truth a = compared op.Ne a (int 0)

-- `&&` and `||` on two integers that are both known
unfoldable pub joined : Op → Integer → Integer → Option Integer
joined o a b = option_and_then (λ x. option_and_then (λ y. arithmetic o x y) (truth b)) (truth a)

unfoldable pub unary : UnaryOp → Integer → Option Integer
unary un.Plus a = Some (in_kind (promoted a.kind) a)
unary un.Minus a = arithmetic op.Sub (int 0) a
unary un.Not a = compared op.Eq a (int 0)
-- each bit differs from that of -1
unary un.Complement a = arithmetic op.Xor a (int (2 ^ 32 - 1))
unary _ a = None

-- there is none where a division's right operand is 0
unfoldable pub binary : BinaryOp → Integer → Integer → Option Integer
binary bin.Multiply a b = arithmetic op.Mul a b
binary bin.Divide a b = arithmetic op.Div a b
binary bin.Remainder a b = arithmetic op.Rem a b
binary bin.Add a b = arithmetic op.Add a b
binary bin.Subtract a b = arithmetic op.Sub a b
binary bin.ShiftLeft a b = shifted op.Shl a b
binary bin.ShiftRight a b = shifted op.Shr a b
binary bin.Less a b = compared op.Lt a b
binary bin.Greater a b = compared op.Lt b a
binary bin.LessEqual a b = compared op.Le a b
binary bin.GreaterEqual a b = compared op.Le b a
binary bin.Equal a b = compared op.Eq a b
binary bin.NotEqual a b = compared op.Ne a b
binary bin.BitAnd a b = arithmetic op.And a b
binary bin.BitXor a b = arithmetic op.Xor a b
binary bin.BitOr a b = arithmetic op.Or a b
binary bin.And a b = joined op.And a b
binary bin.Or a b = joined op.Or a b

-- from 0 to 2^32 - 1: a number below 0 is at least 2^63 as a ulint
unfoldable pub small : Integer → Option ℕ
small i = let n = (in_kind Ulint i).bits in if nat_lt n (2 ^ 32) then Some n else None
