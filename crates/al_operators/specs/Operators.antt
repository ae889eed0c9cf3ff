-- What operators, casts, channel operations, print and sizeof give, by the types of their operands, with every conversion as a node.
use Rattle.std.specs.Prelude.{ℕ, Bool, true, false, if◌then◌else◌, List, Option, Some, None}
use Rattle.std.specs.Option.{unwrap_or}
use Rattle.al_base.specs.declared.arith.Kind.{Kind}
use Rattle.al_base.specs.declared.arith.Kind.TheVariants as kind
use Rattle.al_base.specs.declared.place.Place.{Place}
use Rattle.al_rules.specs.Outcome.{Outcome, Good, Bad, ask, judge, and_then, pair}
use Rattle.al_tree.specs.declared.expression.BinaryOp.{BinaryOp as Written}
use Rattle.al_tree.specs.declared.expression.BinaryOp.TheVariants as written
use Rattle.al_typed.specs.declared.program.Aggregate.{Aggregate}
use Rattle.al_typed.specs.declared.ty.Ty.{Ty}
use Rattle.al_typed.specs.declared.ty.Ty.TheVariants as ty
use Rattle.al_typed.specs.declared.expression.UnaryOp.{UnaryOp}
use Rattle.al_typed.specs.declared.expression.BinaryOp.{BinaryOp}
use Rattle.al_typed.specs.declared.expression.BinaryOp.TheVariants as op
use Rattle.al_typed.specs.declared.expression.Logic.{Logic}
use Rattle.al_typed.specs.declared.expression.Logic.TheVariants as logic
use Rattle.al_typed.specs.declared.expression.Movement.{Movement}
use Rattle.al_typed.specs.declared.expression.Movement.TheVariants as movement
use Rattle.al_typed.specs.declared.expression.PrintPiece.{PrintPiece}
use Rattle.al_typed.specs.declared.expression.TExpr.{TExpr}
use Rattle.al_typed.specs.declared.expression.TExpr.TheVariants as expr
use Rattle.al_typed.specs.Types.{int}
use Rattle.al_typed.specs.Typed.{type_of}
use Rattle.al_typed.specs.WellTyped.{result_kind}
use Rattle.al_convert.specs.Kinds.{is_integer, element_of}
use Rattle.al_operands.specs.declared.operand.Operand.{Operand}
use Rattle.al_operands.specs.Rules as rule
use Rattle.al_operands.specs.Operands.{converted, in_kind, promoted_kind, arithmetic_kind, taken, plain, plains}

-- ---- operators on integers

abbrev pub binary_node : Kind → BinaryOp → TExpr → TExpr → TExpr
binary_node k how a b = expr.Binary (ty.Integer (result_kind how k)) how k a b

-- an operator on two values that are converted to that kind
unfoldable pub operated_in : Kind → BinaryOp → TExpr → TExpr → TExpr
operated_in k how a b = binary_node k how (in_kind k a) (in_kind k b)

unfoldable pub operated : BinaryOp → TExpr → TExpr → TExpr
operated how a b = operated_in (arithmetic_kind (type_of a) (type_of b)) how a b

-- the type of a shift is that of its left operand
unfoldable pub shifted : BinaryOp → TExpr → TExpr → TExpr
shifted how a b = operated_in (promoted_kind (type_of a)) how a b

-- of plain values, and of operands
unfoldable pub multiplied : Place → BinaryOp → TExpr → TExpr → Outcome TExpr
multiplied at how a b = judge (ask 24 at (rule.rule_24_multiplies (type_of a) (type_of b))) (operated how a b)

unfoldable pub multiplication : Place → BinaryOp → Operand → Operand → Outcome TExpr
multiplication at how x y = and_then (plains x y) (λ p. multiplied at how p.0 p.1)

unfoldable pub combined : Place → BinaryOp → TExpr → TExpr → Outcome TExpr
combined at how a b = judge (ask 25 at (rule.rule_25_has_integers (type_of a) (type_of b))) (operated how a b)

unfoldable pub bitwise : Place → BinaryOp → Operand → Operand → Outcome TExpr
bitwise at how x y = and_then (plains x y) (λ p. combined at how p.0 p.1)

unfoldable pub shifted_by : Place → BinaryOp → TExpr → TExpr → Outcome TExpr
shifted_by at how a b = judge (ask 25 at (rule.rule_25_has_integers (type_of a) (type_of b))) (shifted how a b)

unfoldable pub shift : Place → BinaryOp → Operand → Operand → Outcome TExpr
shift at how x y = and_then (plains x y) (λ p. shifted_by at how p.0 p.1)

-- the promoted operand
unfoldable pub signed_in : Kind → UnaryOp → TExpr → TExpr
signed_in k how a = expr.Unary (ty.Integer k) how (in_kind k a)

unfoldable pub promoted_by : UnaryOp → TExpr → TExpr
promoted_by how a = signed_in (promoted_kind (type_of a)) how a

unfoldable pub signed_value : Place → UnaryOp → TExpr → Outcome TExpr
signed_value at how a = judge (ask 24 at (rule.rule_24_signs (type_of a))) (promoted_by how a)

unfoldable pub signed : Place → UnaryOp → Operand → Outcome TExpr
signed at how x = and_then (plain x) (signed_value at how)

unfoldable pub complement_value : Place → UnaryOp → TExpr → Outcome TExpr
complement_value at how a = judge (ask 25 at (rule.rule_25_complements (type_of a))) (promoted_by how a)

unfoldable pub complement : Place → UnaryOp → Operand → Outcome TExpr
complement at how x = and_then (plain x) (complement_value at how)

-- ---- sums, and pointers that move

abbrev pub move_node : Movement → TExpr → TExpr → TExpr
move_node how pointer count = expr.Move (type_of pointer) how pointer count

-- a pointer moves by a count, which is an int
unfoldable pub moved : Movement → TExpr → TExpr → TExpr
moved how pointer count = move_node how pointer (in_kind kind.Int count)

abbrev pub difference_node : TExpr → TExpr → TExpr
difference_node a b = expr.Difference int a b

unfoldable pub difference : TExpr → TExpr → TExpr
difference a b = difference_node a (converted (type_of a) b)

unfoldable pub sum : TExpr → TExpr → TExpr
sum a b =
    if is_integer (type_of a) then (if is_integer (type_of b) then operated op.Add a b else moved movement.CountFirst b a)
    else moved movement.Forward a b

unfoldable pub remaining : TExpr → TExpr → TExpr
remaining a b =
    if is_integer (type_of b) then (if is_integer (type_of a) then operated op.Subtract a b else moved movement.Back a b)
    else difference a b

unfoldable pub added : List Aggregate → Place → TExpr → TExpr → Outcome TExpr
added rows at a b = judge (ask 24 at (rule.rule_24_adds rows (type_of a) (type_of b))) (sum a b)

unfoldable pub addition : List Aggregate → Place → Operand → Operand → Outcome TExpr
addition rows at x y = and_then (plains x y) (λ p. added rows at p.0 p.1)

unfoldable pub subtracted : List Aggregate → Place → TExpr → TExpr → Outcome TExpr
subtracted rows at a b = judge (ask 24 at (rule.rule_24_subtracts rows (type_of a) (type_of b))) (remaining a b)

unfoldable pub subtraction : List Aggregate → Place → Operand → Operand → Outcome TExpr
subtraction rows at x y = and_then (plains x y) (λ p. subtracted rows at p.0 p.1)

-- ---- comparisons

-- pointers and channels are compared as uints
abbrev pub compared_kind : Ty → Ty → Kind
compared_kind a b = if is_integer a then arithmetic_kind a b else kind.Uint

unfoldable pub compared : BinaryOp → TExpr → TExpr → TExpr
compared how a b = operated_in (compared_kind (type_of a) (type_of b)) how a b

unfoldable pub order : Place → BinaryOp → Operand → Operand → Outcome TExpr
order at how x y = judge (ask 26 at (rule.rule_26_orders x y)) (compared how x.value y.value)

unfoldable pub equality : Place → BinaryOp → Operand → Operand → Outcome TExpr
equality at how x y = judge (ask 26 at (rule.rule_26_equates x y)) (compared how x.value y.value)

-- ---- conditions

-- a value that is asked whether it is 0
unfoldable pub condition : Place → Operand → Outcome TExpr
condition at x = and_then (plain x) (λ a. judge (ask 27 at (rule.rule_27_is_condition (type_of a))) a)

unfoldable pub negation : Place → Operand → Outcome TExpr
negation at x = and_then (condition at x) (λ a. Good (expr.Not int a))

abbrev pub conditions : Place → Operand → Operand → Outcome (TExpr × TExpr)
conditions at x y = pair (condition at x) (condition at y)

abbrev pub logical : Logic → TExpr → TExpr → TExpr
logical how a b = expr.Logical int how a b

unfoldable pub decision : Place → Logic → Operand → Operand → Outcome TExpr
decision at how x y = and_then (conditions at x y) (λ p. Good (logical how p.0 p.1))

-- ---- operators between two operands

unfoldable pub binary : List Aggregate → Place → Written → Operand → Operand → Outcome TExpr
binary rows at written.Multiply x y = multiplication at op.Multiply x y
binary rows at written.Divide x y = multiplication at op.Divide x y
binary rows at written.Remainder x y = bitwise at op.Remainder x y
binary rows at written.Add x y = addition rows at x y
binary rows at written.Subtract x y = subtraction rows at x y
binary rows at written.ShiftLeft x y = shift at op.ShiftLeft x y
binary rows at written.ShiftRight x y = shift at op.ShiftRight x y
binary rows at written.Less x y = order at op.Less x y
binary rows at written.Greater x y = order at op.Greater x y
binary rows at written.LessEqual x y = order at op.LessEqual x y
binary rows at written.GreaterEqual x y = order at op.GreaterEqual x y
binary rows at written.Equal x y = equality at op.Equal x y
binary rows at written.NotEqual x y = equality at op.NotEqual x y
binary rows at written.BitAnd x y = bitwise at op.BitAnd x y
binary rows at written.BitXor x y = bitwise at op.BitXor x y
binary rows at written.BitOr x y = bitwise at op.BitOr x y
binary rows at written.And x y = decision at logic.And x y
binary rows at written.Or x y = decision at logic.Or x y

-- ---- casts

-- nil may be cast
unfoldable pub castable : Operand → Outcome TExpr
castable x = if rule.is_nil x.written then Good x.value else plain x

unfoldable pub cast_value : Place → Ty → Operand → Outcome TExpr
cast_value at to x = and_then (castable x) (λ a. judge (ask 38 at (rule.rule_38_casts x to)) a)

abbrev pub cast_node : Ty → TExpr → TExpr
cast_node to a = expr.Cast to a

unfoldable pub cast : Place → Ty → Operand → Outcome TExpr
cast at to x = and_then (cast_value at to x) (λ a. Good (cast_node to a))

-- ---- channels

-- the element of a channel
abbrev pub carried : Ty → Ty
carried t = unwrap_or (element_of t) t

unfoldable pub channel : Place → Operand → Outcome TExpr
channel at x = and_then (plain x) (λ a. judge (ask 43 at (rule.rule_43_is_channel (type_of a))) a)

abbrev pub receive : TExpr → TExpr
receive c = expr.Receive (carried (type_of c)) c

unfoldable pub received : Place → Operand → Outcome TExpr
received at x = and_then (channel at x) (λ c. Good (receive c))

-- whether a receive, or a send, could go at once
unfoldable pub can_receive : Place → Operand → Outcome TExpr
can_receive at x = and_then (channel at x) (λ c. Good (expr.CanReceive int c))

unfoldable pub can_send : Place → Operand → Outcome TExpr
can_send at x = and_then (channel at x) (λ c. Good (expr.CanSend int c))

abbrev pub send_node : TExpr → TExpr → TExpr
send_node c e = expr.Send ty.Void c e

abbrev pub send_as : Ty → TExpr → TExpr → TExpr
send_as element c e = send_node c (converted element e)

abbrev pub send : TExpr → TExpr → TExpr
send c e = send_as (carried (type_of c)) c e

unfoldable pub sent_through : Place → TExpr → Operand → Outcome TExpr
sent_through at c y = judge (ask 43 at (rule.rule_43_sends (type_of c) y)) (send c y.value)

unfoldable pub sent : Place → Operand → Operand → Outcome TExpr
sent at x y = and_then (plain x) (λ c. sent_through at c y)

-- ---- print and terminate

-- an argument of a print: an integer is promoted
unfoldable pub printable : TExpr → TExpr
printable e = if is_integer (type_of e) then in_kind (promoted_kind (type_of e)) e else e

-- 36. print has a string constant first; each `%` is followed by one of `d u x c s %`.
unfoldable pub printed_as : Place → List PrintPiece → List TExpr → Outcome TExpr
printed_as at ps es = judge (ask 36 at (rule.rule_36_prints ps es)) (expr.Print ty.Void ps es)

unfoldable pub printed : Place → Option (List PrintPiece) → List TExpr → Outcome TExpr
printed at None es = Bad (ask 36 at false)
printed at (Some ps) es = printed_as at ps es

-- 37. terminate has one argument, which converts to int.
unfoldable pub terminated : Place → Operand → Outcome TExpr
terminated at x = and_then (taken 37 at int x) (λ e. Good (expr.Terminate ty.Void e))

-- ---- sizes and values

unfoldable pub size_of_type : List Aggregate → Place → Ty → Outcome TExpr
size_of_type rows at of = judge (ask 39 at (rule.rule_39_has_size rows of)) (expr.SizeofType int of)

unfoldable pub size_of_plain : List Aggregate → Place → TExpr → Outcome TExpr
size_of_plain rows at a = judge (ask 39 at (rule.rule_39_has_size rows (type_of a))) (expr.SizeofValue int a)

unfoldable pub size_of_value : List Aggregate → Place → Operand → Outcome TExpr
size_of_value rows at x = and_then (plain x) (size_of_plain rows at)

-- a value that is used
unfoldable pub used : Place → TExpr → Outcome TExpr
used at e = judge (ask 44 at (rule.rule_44_is_no_void (type_of e))) e
