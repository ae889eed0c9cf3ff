-- Typing rules 7, 16, 18 and 20 of types, one predicate for each sentence.
--
-- A type is missing where what is written has no meaning.
use Rattle.std.specs.Prelude.{nat_le, Bool, true, false, not, ◌&&◌, ◌||◌, List, Option, Some, None}
use Rattle.al_typed.specs.declared.program.Aggregate.{Aggregate}
use Rattle.al_typed.specs.declared.ty.Ty.{Ty}
use Rattle.al_typed.specs.Types.{is_complete, is_void, is_array}
use Rattle.al_typed.specs.Layout.{size_of}

-- 7. A type used by value is complete. One that has no meaning is not. Of void rule 16 is asked.
abbrev pub rule_7_value : List Aggregate → Option Ty → Bool
rule_7_value rows None = false
rule_7_value rows (Some t) = is_void t || is_complete rows t

-- 7. An array stands in a type with its elements by value.
abbrev pub rule_7_array : List Aggregate → Option Ty → Bool
rule_7_array rows None = false
rule_7_array rows (Some t) = not (is_array t) || is_complete rows t

-- 16. void is only a function's result, the whole of an empty parameter list, or behind `*`.
abbrev pub rule_16_value : Option Ty → Bool
rule_16_value None = true
rule_16_value (Some t) = not (is_void t)

-- 18. A type has at most 2^28 bytes.
abbrev pub rule_18_size : List Aggregate → Option Ty → Bool
rule_18_size rows None = true
rule_18_size rows (Some t) = nat_le (size_of rows t) 268435456

-- 20. A result is no array.
abbrev pub rule_20_result : Option Ty → Bool
rule_20_result None = true
rule_20_result (Some t) = not (is_array t)

-- 20. A channel's element and a part of a tuple are no array and not void.
abbrev pub rule_20_part : Option Ty → Bool
rule_20_part None = true
rule_20_part (Some t) = not (is_array t) && not (is_void t)
