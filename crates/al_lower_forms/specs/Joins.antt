-- What is done with two values that were found.
use Rattle.std.specs.Prelude.{ℕ, ◌+◌, false, List, ◌++◌}
use Rattle.al_typed.specs.declared.ty.Ty.{Ty}
use Rattle.al_meaning.specs.Here.{pointee}
use Rattle.al_ir.specs.declared.ir.Operation.{Operation}
use Rattle.al_ir.specs.declared.op.Op.TheVariants.{Advance, Between}
use Rattle.al_lower_code.specs.Homes.{Spot, words, size, here}
use Rattle.al_lower_code.specs.Operators.{operator}
use Rattle.al_lower_code.specs.Coded.{Coded, first_slot, operand_slot}
use Rattle.al_lower_code.specs.Values.{pair_code, skip_unless}
use Rattle.al_lower_parts.specs.Parts.{sends}
use Rattle.al_lower_forms.specs.declared.joins.Join.{Join}
use Rattle.al_lower_forms.specs.declared.joins.Join.TheVariants as join

-- how many words the first takes, which is of a type
abbrev pub first_words : Spot → Ty → Join → ℕ
first_words s t (join.Operator op kind) = words s t
first_words s t (join.SkipUnless op kind count) = words s t
first_words s t (join.Advance back bytes) = 1
first_words s t (join.AdvanceCounted bytes) = 1
first_words s t join.Between = 1
first_words s t join.Send = 1

-- values of types, which stand from `left` and `right` on
abbrev pub join_code : Spot → (first second : Ty) → Join → (left right dest to : ℕ) → List Operation
join_code s t u (join.Operator op kind) left right dest to = here s (operator op kind dest left right)
join_code s t u (join.SkipUnless op kind count) left right dest to = skip_unless s op kind left right count
join_code s t u (join.Advance back bytes) left right dest to = here s (Advance back bytes dest left right)
join_code s t u (join.AdvanceCounted bytes) left right dest to = here s (Advance false bytes dest right left)
join_code s t u join.Between left right dest to = here s (Between (size s (pointee t)) dest left right)
join_code s t u join.Send left right dest to = sends s u left right to

-- the same with the operations of both
abbrev pub joined_code : Spot → (first second : Ty) → Join → (left right : Coded) → (dest to : ℕ) → List Operation
joined_code s t u how left right dest to =
    pair_code (first_words s t how) left right to
    ++ join_code s t u how (first_slot left right to) (operand_slot right (to + first_words s t how)) dest to
