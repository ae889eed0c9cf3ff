-- Cases of a switch and of an alt.
use Rattle.std.specs.Prelude.{if◌then◌else◌, ℕ, true, false, List, [], ◌∷◌, ◌++◌, Option, Some, None, option_and_then}
use Rattle.al_base.specs.declared.arith.Kind.{Kind}
use Rattle.al_base.specs.declared.place.Place.{Place}
use Rattle.al_rules.specs.declared.fault.TypeFault.{TypeFault}
use Rattle.al_rules.specs.Outcome.{Outcome, Good, Bad, ask, and_then}
use Rattle.al_typed.specs.declared.program.Aggregate.{Aggregate}
use Rattle.al_typed.specs.declared.ty.Ty.{Ty}
use Rattle.al_typed.specs.declared.expression.TExpr.{TExpr}
use Rattle.al_typed.specs.declared.expression.TTarget.{TTarget}
use Rattle.al_typed.specs.declared.statement.TCommunication.{TCommunication}
use Rattle.al_typed.specs.declared.statement.TCommunication.TheVariants as communication
use Rattle.al_typed.specs.declared.statement.TStmt.{TStmt}
use Rattle.al_typed.specs.declared.statement.TStmt.TheVariants as stmt
use Rattle.al_typed.specs.ExpressionForms as expr
use Rattle.al_typed.specs.Typed.{type_of}
use Rattle.al_convert.specs.Kinds.{kind_of}
use Rattle.al_constant.specs.Constants.{constant, cast_between}
use Rattle.al_operands.specs.declared.operand.Operand.{Operand}
use Rattle.al_operands.specs.Operands.{plain}
use Rattle.al_statements.specs.declared.cases.Cases.{Cases}
use Rattle.al_statements.specs.declared.form.Form.{Form}
use Rattle.al_statements.specs.declared.form.Form.TheVariants as form
use Rattle.al_statements.specs.declared.label.Label.{Label}
use Rattle.al_statements.specs.declared.label.Label.TheVariants as label
use Rattle.al_statements.specs.Rules as rule

-- ---- of a switch

-- the value of a case in the kind of the switch, where it is constant
unfoldable pub case_bits : List Aggregate → Kind → TExpr → Option ℕ
case_bits rows k e = option_and_then (cast_between (kind_of (type_of e)) (Some k)) (constant rows e)

-- 22. A case is constant.
abbrev pub labelled : Place → TExpr → Option ℕ → Outcome TStmt
labelled at e None = Bad (ask 22 at false)
labelled at e (Some bits) = Good (stmt.Case e bits)

unfoldable pub case_label : List Aggregate → Kind → Place → Operand → Outcome TStmt
case_label rows k at x = and_then (plain x) (λ e. labelled at e (case_bits rows k e))

-- the values with one more, which goes last where it is new
abbrev pub with_value : List ℕ → ℕ → List ℕ
with_value values n = if rule.is_among values n then values else values ++ n ∷ []

-- no label stands before
abbrev pub no_cases : Cases
no_cases = record { values = []; has_default = false }

unfoldable pub with_label : Cases → Label → Cases
with_label c (label.Case bits) = record c { values = with_value c.values bits }
with_label c label.Default = record c { has_default = true }

-- a label that stands behind those
unfoldable pub label_fault : Cases → Place → Label → List TypeFault
label_fault c at (label.Case bits) = ask 52 at (rule.rule_52_is_new c.values bits)
label_fault c at label.Default = ask 52 at (rule.rule_52_is_first c.has_default)

-- ---- of an alt

-- what an expression is to an alt
unfoldable pub form_of : TExpr → Form
form_of (expr.receive t chan) = form.Receive t chan
form_of (expr.convert t e) = form.Convert e
form_of (expr.assign t target value) = form.Assign target value
form_of (expr.send t chan value) = form.Send chan value
form_of _ = form.Other

-- `<-c`: the type of what comes, and the channel
abbrev pub received : Form → Option (Ty × TExpr)
received (form.Receive t chan) = Some (t, chan)
received _ = None

-- it may be converted for its target
abbrev pub received_for : Form → Option (Ty × TExpr)
received_for (form.Receive t chan) = Some (t, chan)
received_for (form.Convert e) = received (form_of e)
received_for _ = None

abbrev pub into : TTarget → Option (Ty × TExpr) → Option TCommunication
into target None = None
into target (Some (t, chan)) = Some (communication.ReceiveInto t target chan)

-- the communication that an expression is
abbrev pub communication_of : Form → Option TCommunication
communication_of (form.Receive t chan) = Some (communication.Receive t chan)
communication_of (form.Assign target value) = into target (received_for (form_of value))
communication_of (form.Send chan value) = Some (communication.Send chan value)
communication_of _ = None

-- 53. Each case of an alt is `<-c`, `place = <-c`, a tuple `= <-c`, or `c <-= e`.
abbrev pub communicating : Place → Option TCommunication → Outcome TStmt
communicating at None = Bad (ask 53 at false)
communicating at (Some c) = Good (stmt.AltCase c)

unfoldable pub alt_case : Place → TExpr → Outcome TStmt
alt_case at e = communicating at (communication_of (form_of e))

unfoldable pub case_faults : Place → ℕ → List TypeFault
case_faults at n = ask 53 at (rule.rule_53_has_cases n)
