-- What an expression is, before it is known how it is used, and what uses make of it.
use Rattle.std.specs.Prelude.{Bool, false, List}
use Rattle.al_base.specs.declared.place.Place.{Place}
use Rattle.al_rules.specs.Outcome.{Outcome, Good, Bad, ask, judge, and_then}
use Rattle.al_typed.specs.declared.program.Aggregate.{Aggregate}
use Rattle.al_typed.specs.declared.expression.TExpr.{TExpr}
use Rattle.al_typed.specs.declared.expression.TPlace.{TPlace}
use Rattle.al_convert.specs.declared.literal.Literal.{Literal}
use Rattle.al_convert.specs.declared.literal.Literal.TheVariants as literal
use Rattle.al_operands.specs.declared.operand.Operand.{Operand}
use Rattle.al_operands.specs.Operands.{plain}
use Rattle.al_operators.specs.Operators.{used, size_of_value}
use Rattle.al_places.specs.Places.{loaded, address, size_of_place}
use Rattle.al_type_nodes.specs.declared.found.Found.{Found}
use Rattle.al_type_nodes.specs.declared.found.Found.TheVariants as found
use Rattle.al_type_nodes.specs.Rules as rule

-- a value that is written as neither 0 nor nil
abbrev pub written_as : Literal → TExpr → Operand
written_as l e = record { value = e; written = l }

abbrev pub value : TExpr → Found
value e = found.Value (written_as literal.Other e)

abbrev pub place_of : TPlace → Found
place_of p = found.Place p false

-- as a value
unfoldable pub loaded_operand : List Aggregate → Place → TPlace → Outcome Operand
loaded_operand rows at p = and_then (loaded rows at p) (λ e. Good (written_as literal.Other e))

unfoldable pub used_operand : Place → Operand → Outcome Operand
used_operand at x = and_then (used at x.value) (λ e. Good (written_as x.written e))

unfoldable pub operand : List Aggregate → Place → Found → Outcome Operand
operand rows at (found.Place p is_private) = loaded_operand rows at p
operand rows at (found.Value x) = used_operand at x

-- as a value that is dropped: it may be void
unfoldable pub dropped : List Aggregate → Place → Found → Outcome TExpr
dropped rows at (found.Place p is_private) = loaded rows at p
dropped rows at (found.Value x) = plain x

unfoldable pub sized : List Aggregate → Place → Found → Outcome TExpr
sized rows at (found.Place p is_private) = size_of_place rows at p
sized rows at (found.Value x) = size_of_value rows at x

-- 28. The operand of `++ -- zerox &` and alloc, and the left of `op=`, is a place.
unfoldable pub placed : Place → Found → Outcome TPlace
placed at (found.Place p is_private) = Good p
placed at (found.Value x) = Bad (ask 28 at false)

unfoldable pub address_of : Place → TPlace → (is_private : Bool) → Outcome TExpr
address_of at p is_private = judge (ask 19 at (rule.rule_19_is_shared is_private)) (address p)

unfoldable pub addressed : Place → Found → Outcome TExpr
addressed at (found.Place p is_private) = address_of at p is_private
addressed at (found.Value x) = Bad (ask 28 at false)
