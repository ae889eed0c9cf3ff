-- The typing rules of expressions that the types of their parts decide, one predicate for each sentence, in the order of their
-- numbers. Of which nodes they are asked the definitions of the nodes say.
use Rattle.std.specs.Prelude.{Bool, true, false, not, ◌&&◌, ◌||◌, if◌then◌else◌, List, [], ◌∷◌, Option, Some, None, is_some}
use Rattle.al_base.specs.declared.arith.Kind.TheVariants as kind
use Rattle.al_typed.specs.declared.program.Aggregate.{Aggregate}
use Rattle.al_typed.specs.declared.ty.Ty.{Ty}
use Rattle.al_typed.specs.declared.expression.TExpr.{TExpr}
use Rattle.al_typed.specs.declared.expression.BinaryOp.{BinaryOp}
use Rattle.al_typed.specs.declared.expression.BinaryOp.TheVariants as op
use Rattle.al_typed.specs.declared.expression.PrintPiece.{PrintPiece}
use Rattle.al_typed.specs.declared.expression.PrintPiece.TheVariants as print
use Rattle.al_typed.specs.Types.{is_void, is_array, is_scalar, is_complete, points_to_complete}
use Rattle.al_typed.specs.Typed.{type_of}
use Rattle.al_typed.specs.WellTyped.{is_arithmetic}
use Rattle.al_convert.specs.declared.literal.Literal.{Literal, out-Literal}
use Rattle.al_convert.specs.declared.literal.Literal.TheOpen.{Literal-F}
use Rattle.al_convert.specs.Same.{same, is_of_kind, pointed}
use Rattle.al_convert.specs.Kinds.{is_integer, is_channel, is_function, element_of}
use Rattle.al_convert.specs.Conversions.{type_converts, converts}
use Rattle.al_operands.specs.declared.operand.Operand.{Operand}

-- ---- forms of types and of values

abbrev pub is_pointer : Ty → Bool
is_pointer t = is_some (pointed t)

-- an integer that has room for an address
abbrev pub is_address_sized : Ty → Bool
is_address_sized t = is_of_kind kind.Int t || is_of_kind kind.Uint t

abbrev pub is_nil_at : Literal-F Literal → Bool
is_nil_at (Literal-F.Nil at) = true
is_nil_at _ = false

-- it is written as nil
unfoldable pub is_nil : Literal → Bool
is_nil l = is_nil_at (out-Literal l)

-- ---- the rules

-- 7. A type used by value is complete.
unfoldable pub rule_7_is_complete : List Aggregate → Ty → Bool
rule_7_is_complete rows t = is_complete rows t

-- 24. `+` and `-` have integers, or a pointer to a complete type and an integer (the pointer on the left of `-`), or `-` has
-- two equal pointers to a complete type; `*` and `/` and unary `+` and `-` have integers.
unfoldable pub rule_24_adds : List Aggregate → Ty → Ty → Bool
rule_24_adds rows a b = (is_integer a && (is_integer b || points_to_complete rows b)) || (points_to_complete rows a && is_integer b)

unfoldable pub rule_24_subtracts : List Aggregate → Ty → Ty → Bool
rule_24_subtracts rows a b = (is_integer a && is_integer b) || (points_to_complete rows a && (is_integer b || same false a b))

unfoldable pub rule_24_multiplies : Ty → Ty → Bool
rule_24_multiplies a b = is_integer a && is_integer b

unfoldable pub rule_24_signs : Ty → Bool
rule_24_signs a = is_integer a

-- 25. `% & | ^ ~ << >>` have integers.
unfoldable pub rule_25_has_integers : Ty → Ty → Bool
rule_25_has_integers a b = is_integer a && is_integer b

unfoldable pub rule_25_complements : Ty → Bool
rule_25_complements a = is_integer a

-- integers, or pointers that convert
abbrev pub are_ordered : Ty → Ty → Bool
are_ordered a b = (is_integer a && is_integer b) || (is_pointer a && type_converts a b)

abbrev pub is_channel_or_nil : Operand → Bool
is_channel_or_nil x = is_channel (type_of x.value) || is_nil x.written

-- 26. Order is between integers or pointers that convert; equality also between channels, and with nil.
unfoldable pub rule_26_orders : Operand → Operand → Bool
rule_26_orders x y = not (is_nil x.written) && (not (is_nil y.written) && are_ordered (type_of x.value) (type_of y.value))

unfoldable pub rule_26_equates : Operand → Operand → Bool
rule_26_equates x y = are_ordered (type_of x.value) (type_of y.value) || (is_channel_or_nil x && is_channel_or_nil y)

-- 27. A condition, and an operand of `!`, `&&`, `||`, is an integer, pointer or channel.
unfoldable pub rule_27_is_condition : Ty → Bool
rule_27_is_condition t = is_scalar t

-- 28. `++` and `--` have an integer or a pointer to a complete type.
unfoldable pub rule_28_steps : List Aggregate → Ty → Bool
rule_28_steps rows t = is_integer t || points_to_complete rows t

-- 29. An array is not assigned, and is no operand of zerox.
unfoldable pub rule_29_is_no_array : Ty → Bool
rule_29_is_no_array t = not (is_array t)

abbrev pub is_aimed_at : Option Ty → Bool
is_aimed_at None = false
is_aimed_at (Some t) = not (is_void t) && not (is_function t)

-- 30. `*` has a pointer to a type that is neither void nor a function type.
unfoldable pub rule_30_points : Ty → Bool
rule_30_points t = is_aimed_at (pointed t)

-- 31. An index has an array or pointer to a complete type, and an integer. (An array as a value is a pointer.)
unfoldable pub rule_31_indexes : List Aggregate → Ty → Ty → Bool
rule_31_indexes rows a b = points_to_complete rows a && is_integer b

-- 33. What is assigned converts.
unfoldable pub rule_33_converts : Operand → Ty → Bool
rule_33_converts x to = converts x.written (type_of x.value) to

-- `+` and `-`
abbrev pub moves : BinaryOp → Bool
moves op.Add = true
moves op.Subtract = true
moves _ = false

-- 34. `a op= b` obeys the rule of op, and its result converts to the type of a: any op but the comparisons on integers, and
-- `+` and `-` of a pointer to a complete type and an integer.
unfoldable pub rule_34_updates : List Aggregate → BinaryOp → Ty → Ty → Bool
rule_34_updates rows how a b = is_integer b && ((is_integer a && is_arithmetic how) || (points_to_complete rows a && moves how))

abbrev pub takes_none : PrintPiece → Bool
takes_none (print.Byte b) = true
takes_none print.Percent = true
takes_none _ = false

abbrev pub is_byte_at : Option Ty → Bool
is_byte_at None = false
is_byte_at (Some t) = is_of_kind kind.Byte t

-- a `byte*`
abbrev pub is_text : Ty → Bool
is_text t = is_byte_at (pointed t)

-- a piece that takes no argument leaves it to the rest
abbrev pub printed_by : (takes_none fits : Bool) → (same_left one_less : Bool) → Bool
printed_by true fits same_left one_less = same_left
printed_by false fits same_left one_less = fits && one_less

abbrev pub is_printed : PrintPiece → Ty → Bool
is_printed print.Text t = is_text t
is_printed _ t = is_integer t

-- 36. There is one argument per verb but `%%`, an integer, or a `byte*` for `s`.
abbrev pub rule_36_prints : List PrintPiece → List TExpr → Bool
rule_36_prints [] [] = true
rule_36_prints [] (e ∷ es) = false
rule_36_prints (p ∷ ps) [] = takes_none p && rule_36_prints ps []
rule_36_prints (p ∷ ps) (e ∷ es) = printed_by (takes_none p) (is_printed p (type_of e)) (rule_36_prints ps (e ∷ es)) (rule_36_prints ps es)

-- 38. A cast is between integers, between pointers, between a pointer and int or uint, or to the same type. nil is cast as a
-- pointer, and to channels too.
abbrev pub are_cast : Ty → Ty → Bool
are_cast from to =
    (is_integer from && is_integer to) || ((is_pointer from && (is_pointer to || is_address_sized to))
    || ((is_address_sized from && is_pointer to) || same false from to))

abbrev pub nil_is_cast : Ty → Bool
nil_is_cast to = is_pointer to || (is_channel to || is_address_sized to)

unfoldable pub rule_38_casts : Operand → Ty → Bool
rule_38_casts x to = if is_nil x.written then nil_is_cast to else are_cast (type_of x.value) to

-- 39. sizeof has a complete type or a value that is not void.
unfoldable pub rule_39_has_size : List Aggregate → Ty → Bool
rule_39_has_size rows t = is_complete rows t

-- 43. `<-`, `?` and the left of `<-=` have a channel; what is sent converts to its element.
unfoldable pub rule_43_is_channel : Ty → Bool
rule_43_is_channel t = is_channel t

abbrev pub is_taken : Operand → Option Ty → Bool
is_taken x None = false
is_taken x (Some element) = rule_33_converts x element

unfoldable pub rule_43_sends : Ty → Operand → Bool
rule_43_sends chan x = is_taken x (element_of chan)

-- 44. A void value is not used.
unfoldable pub rule_44_is_no_void : Ty → Bool
rule_44_is_no_void t = not (is_void t)
