-- Expressions that are made as constants: those that are one, and those to which the rules give a constant value.
use Rattle.std.specs.Prelude.{ℕ, Option, Some, None}
use Rattle.al_typed.specs.declared.expression.TExpr.{TExpr, Constant, Text, Nil, Function, SizeofType}
use Rattle.al_typed.specs.ExpressionForms as form
use Rattle.al_typed.specs.Typed.{type_of, place_type}
use Rattle.al_meaning.specs.Places.{text_place, function_address}
use Rattle.al_lower_code.specs.Homes.{Spot, size}
use Rattle.al_lower_code.specs.Expressions.{constant_in}

abbrev pub folded_bits : Spot → TExpr → Option ℕ
folded_bits s (Constant t bits) = Some bits
folded_bits s (Text t number) = Some (text_place s.program number)
folded_bits s (Nil t) = Some 0
folded_bits s (Function t number) = Some (function_address number)
folded_bits s (SizeofType t of) = Some (size s of)
folded_bits s (form.sizeof_place t place) = Some (size s (place_type place))
folded_bits s (form.sizeof_value t value) = Some (size s (type_of value))
folded_bits s (form.unary t op of) = constant_in s (form.unary t op of)
folded_bits s (form.negation t of) = constant_in s (form.negation t of)
folded_bits s (form.binary t op kind left right) = constant_in s (form.binary t op kind left right)
folded_bits s (form.logical t op left right) = constant_in s (form.logical t op left right)
folded_bits s (form.cast t of) = constant_in s (form.cast t of)
folded_bits s (form.convert t of) = constant_in s (form.convert t of)
folded_bits s _ = None
