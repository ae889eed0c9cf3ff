-- Operands: how they are converted, by nodes, and which of them are plain values.
use Rattle.std.specs.Prelude.{ℕ, true, false, if◌then◌else◌, List, [], Option, Some, None}
use Rattle.std.specs.Option.{unwrap_or}
use Rattle.al_base.specs.declared.arith.Kind.{Kind}
use Rattle.al_base.specs.declared.arith.Kind.TheVariants as kind
use Rattle.al_base.specs.declared.place.Place.{Place}
use Rattle.al_rules.specs.declared.fault.TypeFault.{TypeFault}
use Rattle.al_rules.specs.Outcome.{Outcome, ask, judge, pair}
use Rattle.al_typed.specs.declared.ty.Ty.{Ty}
use Rattle.al_typed.specs.declared.ty.Ty.TheVariants as ty
use Rattle.al_typed.specs.declared.expression.TExpr.{TExpr}
use Rattle.al_typed.specs.declared.expression.TExpr.TheVariants as expr
use Rattle.al_typed.specs.Types.{promoted}
use Rattle.al_typed.specs.Typed.{type_of}
use Rattle.al_convert.specs.Same.{same}
use Rattle.al_convert.specs.Kinds.{kind_of, common}
use Rattle.al_convert.specs.Conversions.{nil_in}
use Rattle.al_operands.specs.declared.operand.Operand.{Operand}
use Rattle.al_operands.specs.Rules as rule

-- ---- conversions

abbrev pub conversion : Ty → TExpr → TExpr
conversion to e = expr.Convert to e

-- A value as one of a type. It is converted by a node, unless it has the type, capacities of channels counted.
unfoldable pub converted : Ty → TExpr → TExpr
converted to e = if same true (type_of e) to then e else conversion to e

-- a value as an integer of that kind
unfoldable pub in_kind : Kind → TExpr → TExpr
in_kind k e = converted (ty.Integer k) e

-- the kind of an integer type
abbrev pub number_kind : Ty → Kind
number_kind t = unwrap_or (kind_of t) kind.Int

-- the kind of arithmetic on one integer, and on two: the wider one's, and of equal widths the unsigned one
abbrev pub promoted_kind : Ty → Kind
promoted_kind t = promoted (number_kind t)

abbrev pub arithmetic_kind : Ty → Ty → Kind
arithmetic_kind a b = common (number_kind a) (number_kind b)

-- what is assigned, passed, sent or returned; the rule of what takes it is asked of the node that takes it
unfoldable pub taken : ℕ → Place → Ty → Operand → Outcome TExpr
taken number at to x = judge (ask number at (rule.rule_33_converts x to)) (converted to x.value)

-- ---- nil

abbrev pub nil_faults : Option Place → List TypeFault
nil_faults None = []
nil_faults (Some at) = ask 41 at false

-- 41. nil stands only where it converts, is compared, cast or dropped by a tuple: not as any other operand.
unfoldable pub plain : Operand → Outcome TExpr
plain x = judge (nil_faults (nil_in x.written)) x.value

unfoldable pub plains : Operand → Operand → Outcome (TExpr × TExpr)
plains x y = pair (plain x) (plain y)
