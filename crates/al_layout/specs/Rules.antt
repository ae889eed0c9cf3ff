-- Typing rules 7, 16 and 18 of types with members, one predicate for each sentence.
use Rattle.std.specs.Prelude.{nat_le, Bool, true, false, not, ◌||◌, List, Option, Some, None}
use Rattle.al_typed.specs.declared.program.Aggregate.{Aggregate}
use Rattle.al_typed.specs.declared.ty.Ty.{Ty}
use Rattle.al_typed.specs.Types.{is_complete, is_void}
use Rattle.al_typed.specs.Layout.{Layout}

-- 7. A type used by value is complete. That of a member is complete without the type in which it stands, so none contains
-- itself. A type that has no meaning is not complete. Of void rule 16 is asked.
abbrev pub rule_7_member : (before : List Aggregate) → Option Ty → Bool
rule_7_member before None = false
rule_7_member before (Some t) = is_void t || is_complete before t

-- 16. A member is not void.
abbrev pub rule_16_member : Option Ty → Bool
rule_16_member None = true
rule_16_member (Some t) = not (is_void t)

-- 18. A type has at most 2^28 bytes.
abbrev pub rule_18_size : Layout → Bool
rule_18_size l = nat_le l.size 268435456
