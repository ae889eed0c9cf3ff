-- What is done with places: how they are read, assigned and changed, and what makes a place.
use Rattle.std.specs.Prelude.{Bool, true, false, if◌then◌else◌, List, ◌++◌, Option, Some, None}
use Rattle.std.specs.Option.{unwrap_or}
use Rattle.al_base.specs.declared.arith.Kind.{Kind}
use Rattle.al_base.specs.declared.arith.Kind.TheVariants as kind
use Rattle.al_base.specs.declared.place.Place.{Place}
use Rattle.al_rules.specs.Outcome.{Outcome, Bad, ask, judge, and_then}
use Rattle.al_tree.specs.declared.expression.BinaryOp.{BinaryOp as Written}
use Rattle.al_tree.specs.declared.expression.BinaryOp.TheVariants as written
use Rattle.al_typed.specs.declared.program.Aggregate.{Aggregate}
use Rattle.al_typed.specs.declared.ty.Ty.{Ty}
use Rattle.al_typed.specs.declared.ty.Ty.TheVariants as ty
use Rattle.al_typed.specs.declared.expression.BinaryOp.{BinaryOp}
use Rattle.al_typed.specs.declared.expression.BinaryOp.TheVariants as op
use Rattle.al_typed.specs.declared.expression.Change.{Change}
use Rattle.al_typed.specs.declared.expression.Change.TheVariants as change
use Rattle.al_typed.specs.declared.expression.StepOp.{StepOp}
use Rattle.al_typed.specs.declared.expression.TExpr.{TExpr}
use Rattle.al_typed.specs.declared.expression.TExpr.TheVariants as expr
use Rattle.al_typed.specs.declared.expression.TPlace.{TPlace}
use Rattle.al_typed.specs.declared.expression.TPlace.TheVariants as place
use Rattle.al_typed.specs.declared.expression.TTarget.{TTarget}
use Rattle.al_typed.specs.declared.expression.TTarget.TheVariants as target
use Rattle.al_typed.specs.Types.{int}
use Rattle.al_typed.specs.Typed.{type_of, place_type}
use Rattle.al_convert.specs.Same.{pointed}
use Rattle.al_convert.specs.Kinds.{is_integer, items_of}
use Rattle.al_operands.specs.declared.operand.Operand.{Operand}
use Rattle.al_operands.specs.Rules as rule
use Rattle.al_operands.specs.Operands.{converted, in_kind, promoted_kind, arithmetic_kind, plain, plains}

-- ---- reading

abbrev pub pointer_to : Ty → Ty
pointer_to t = ty.Pointer t

abbrev pub load : TPlace → TExpr
load p = expr.Load (place_type p) p

abbrev pub decayed : Ty → TPlace → TExpr
decayed t p = expr.Decay t p

-- an array as a value is the address of its first element
abbrev pub read_as : Option Ty → TPlace → TExpr
read_as None p = load p
read_as (Some element) p = decayed (pointer_to element) p

unfoldable pub read : TPlace → TExpr
read p = read_as (items_of (place_type p)) p

-- a place used by value
unfoldable pub loaded : List Aggregate → Place → TPlace → Outcome TExpr
loaded rows at p = judge (ask 7 at (rule.rule_7_is_complete rows (place_type p))) (read p)

unfoldable pub address : TPlace → TExpr
address p = expr.Address (pointer_to (place_type p)) p

unfoldable pub size_of_place : List Aggregate → Place → TPlace → Outcome TExpr
size_of_place rows at p = judge (ask 39 at (rule.rule_39_has_size rows (place_type p))) (expr.SizeofPlace int p)

-- ---- what makes a place

-- what a pointer points to
abbrev pub aimed : Ty → Ty
aimed t = unwrap_or (pointed t) t

abbrev pub pointed_node : TExpr → TPlace
pointed_node a = place.Pointed (aimed (type_of a)) a

-- of a plain value, and of an operand
unfoldable pub pointed_by : Place → TExpr → Outcome TPlace
pointed_by at a = judge (ask 30 at (rule.rule_30_points (type_of a))) (pointed_node a)

unfoldable pub indirection : Place → Operand → Outcome TPlace
indirection at x = and_then (plain x) (pointed_by at)

abbrev pub element_node : TExpr → TExpr → TPlace
element_node a b = place.Element (aimed (type_of a)) a b

unfoldable pub element : TExpr → TExpr → TPlace
element a b = element_node a (in_kind kind.Int b)

unfoldable pub indexed : List Aggregate → Place → TExpr → TExpr → Outcome TPlace
indexed rows at a b = judge (ask 31 at (rule.rule_31_indexes rows (type_of a) (type_of b))) (element a b)

unfoldable pub index : List Aggregate → Place → Operand → Operand → Outcome TPlace
index rows at x y = and_then (plains x y) (λ p. indexed rows at p.0 p.1)

-- ---- changes

abbrev pub into : TPlace → TTarget
into p = target.Into p

abbrev pub assign_node : TPlace → TExpr → TExpr
assign_node p e = expr.Assign (place_type p) (into p) e

unfoldable pub assignment : TPlace → TExpr → TExpr
assignment p e = assign_node p (converted (place_type p) e)

unfoldable pub assigned : Place → TPlace → Operand → Outcome TExpr
assigned at p x =
    judge (ask 29 at (rule.rule_29_is_no_array (place_type p)) ++ ask 33 at (rule.rule_33_converts x (place_type p))) (assignment p x.value)

abbrev pub is_shift : BinaryOp → Bool
is_shift op.ShiftLeft = true
is_shift op.ShiftRight = true
is_shift _ = false

abbrev pub is_back : BinaryOp → Bool
is_back op.Subtract = true
is_back _ = false

-- the kind of the arithmetic of an operator on two types
abbrev pub operator_kind : BinaryOp → Ty → Ty → Kind
operator_kind how a b = if is_shift how then promoted_kind a else arithmetic_kind a b

abbrev pub changed : Change → TPlace → TExpr → TExpr
changed how p e = expr.Update (place_type p) p how e

-- by a value in that kind
unfoldable pub changed_in : Kind → Change → TPlace → TExpr → TExpr
changed_in k how p e = changed how p (in_kind k e)

abbrev pub apply_in : Kind → BinaryOp → TPlace → TExpr → TExpr
apply_in k how p e = changed_in k (change.Apply how k) p e

unfoldable pub update : BinaryOp → TPlace → TExpr → TExpr
update how p e =
    if is_integer (place_type p) then apply_in (operator_kind how (place_type p) (type_of e)) how p e
    else changed_in kind.Int (change.Move (is_back how)) p e

-- the operator before `=`, on two values: `&&` and `||` are none
abbrev pub operator : Written → Option BinaryOp
operator written.Multiply = Some op.Multiply
operator written.Divide = Some op.Divide
operator written.Remainder = Some op.Remainder
operator written.Add = Some op.Add
operator written.Subtract = Some op.Subtract
operator written.ShiftLeft = Some op.ShiftLeft
operator written.ShiftRight = Some op.ShiftRight
operator written.Less = Some op.Less
operator written.Greater = Some op.Greater
operator written.LessEqual = Some op.LessEqual
operator written.GreaterEqual = Some op.GreaterEqual
operator written.Equal = Some op.Equal
operator written.NotEqual = Some op.NotEqual
operator written.BitAnd = Some op.BitAnd
operator written.BitXor = Some op.BitXor
operator written.BitOr = Some op.BitOr
operator written.And = None
operator written.Or = None

unfoldable pub updated_with : List Aggregate → Place → BinaryOp → TPlace → TExpr → Outcome TExpr
updated_with rows at how p e = judge (ask 34 at (rule.rule_34_updates rows how (place_type p) (type_of e))) (update how p e)

unfoldable pub updated_by : List Aggregate → Place → Option BinaryOp → TPlace → TExpr → Outcome TExpr
updated_by rows at None p e = Bad (ask 34 at false)
updated_by rows at (Some how) p e = updated_with rows at how p e

unfoldable pub updated : List Aggregate → Place → Written → TPlace → Operand → Outcome TExpr
updated rows at how p x = and_then (plain x) (updated_by rows at (operator how) p)

abbrev pub step_node : StepOp → TPlace → TExpr
step_node how p = expr.Step (place_type p) how p

unfoldable pub stepped : List Aggregate → Place → StepOp → TPlace → Outcome TExpr
stepped rows at how p = judge (ask 28 at (rule.rule_28_steps rows (place_type p))) (step_node how p)

abbrev pub zero_node : TPlace → TExpr
zero_node p = expr.Zerox (place_type p) p

unfoldable pub zeroed : List Aggregate → Place → TPlace → Outcome TExpr
zeroed rows at p =
    judge (ask 29 at (rule.rule_29_is_no_array (place_type p)) ++ ask 7 at (rule.rule_7_is_complete rows (place_type p))) (zero_node p)
