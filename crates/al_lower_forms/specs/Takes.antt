-- What is taken of a value that stands apart as a whole.
use Rattle.std.specs.Prelude.{ℕ, ◌+◌, List, ◌++◌}
use Rattle.al_typed.specs.declared.ty.Ty.{Ty}
use Rattle.al_typed.specs.Layout.{member}
use Rattle.al_meaning.specs.Here.{member_type}
use Rattle.al_meaning.specs.Words.{member_units}
use Rattle.al_ir.specs.declared.ir.Operation.{Operation}
use Rattle.al_lower_code.specs.Homes.{Spot, words, units}
use Rattle.al_lower_code.specs.Moving.{extracts}
use Rattle.al_lower_code.specs.Operators.{convert_code}
use Rattle.al_lower_code.specs.Coded.{Coded}
use Rattle.al_lower_forms.specs.declared.takes.Take.{Take}
use Rattle.al_lower_forms.specs.declared.takes.Take.TheVariants as take

-- where a value of a type comes to stand
abbrev pub whole_at : Spot → Ty → Take → (to : ℕ) → ℕ
whole_at s t (take.Member part path) to = to + words s part.now
whole_at s t (take.Object path) to = to + words s (member_type s.program t path.now)
whole_at s t (take.Converted into) to = to + words s into.now

-- of a value of a type, which stands from `from` on
abbrev pub take_code : Spot → Ty → Take → (dest from : ℕ) → List Operation
take_code s t (take.Member part path) dest from =
    extracts s.line dest from (units s t) (member_units s.program.aggregates (member s.program.aggregates path.now t))
take_code s t (take.Object path) dest from =
    extracts s.line dest from (units s t) (member_units s.program.aggregates (member s.program.aggregates path.now t))
take_code s t (take.Converted into) dest from = convert_code s t into.now dest from

-- the same with the operations of the value
abbrev pub taken_code : Spot → Ty → Take → Coded → (dest to : ℕ) → List Operation
taken_code s t what c dest to = c.value (whole_at s t what to) (whole_at s t what to) ++ take_code s t what dest (whole_at s t what to)
