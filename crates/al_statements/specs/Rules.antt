-- The typing rules of statements that the types of their parts decide, one predicate for each sentence, in the order of their
-- numbers. `Parts` and `Cases` say of which nodes they are asked.
use Rattle.std.specs.Prelude.{ℕ, ◌==◌, nat_le, Bool, false, not, ◌&&◌, ◌||◌, List, is_some}
use Rattle.std.specs.List.{list_any}
use Rattle.al_typed.specs.declared.program.Aggregate.{Aggregate}
use Rattle.al_typed.specs.declared.ty.Ty.{Ty}
use Rattle.al_typed.specs.declared.expression.TExpr.{TExpr}
use Rattle.al_typed.specs.Types.{is_void, is_array, points_to_complete}
use Rattle.al_typed.specs.Typed.{type_of, callee_of}
use Rattle.al_convert.specs.Same.{same}
use Rattle.al_convert.specs.Kinds.{is_integer, is_channel}
use Rattle.al_operands.specs.declared.operand.Operand.{Operand}
use Rattle.al_operands.specs.Rules.{rule_33_converts, is_pointer}

-- 23. A local's initialiser converts to its type, and the local is no array.
unfoldable pub rule_23_initializes : Operand → Ty → Bool
rule_23_initializes x t = not (is_array t) && rule_33_converts x t

-- 42. The bounds of an iterator are integers.
unfoldable pub rule_42_has_integers : Ty → Ty → Bool
rule_42_has_integers a b = is_integer a && is_integer b

-- 45. alloc has a pointer to a complete type that is not void, or a channel.
unfoldable pub rule_45_allocates : List Aggregate → Ty → Bool
rule_45_allocates rows t = points_to_complete rows t || is_channel t

-- 46. unalloc has a pointer or channel.
unfoldable pub rule_46_gives_back : Ty → Bool
rule_46_gives_back t = is_pointer t || is_channel t

-- 47. return has no value in a void function alone.
unfoldable pub rule_47_is_void : Ty → Bool
rule_47_is_void returns = is_void returns

-- 48. become of a call has a function by its name, other than print and terminate, with the same result type.
unfoldable pub rule_48_goes_on : Ty → TExpr → Bool
rule_48_goes_on returns call = is_some (callee_of call) && same false (type_of call) returns

abbrev pub is_among : List ℕ → ℕ → Bool
is_among values n = list_any (λ m. n == m) values

-- 52. Cases of a switch are distinct. These are the values of the cases before it.
unfoldable pub rule_52_is_new : (before : List ℕ) → ℕ → Bool
rule_52_is_new before bits = not (is_among before bits)

-- 52. There is at most one default.
unfoldable pub rule_52_is_first : (has_default : Bool) → Bool
rule_52_is_first has_default = not has_default

-- 53. An alt has 1 to 64 cases.
unfoldable pub rule_53_has_cases : ℕ → Bool
rule_53_has_cases n = nat_le 1 n && nat_le n 64

-- 55. proc and task have calls of functions by their names, other than print and terminate.
unfoldable pub rule_55_starts : TExpr → Bool
rule_55_starts call = is_some (callee_of call)

-- 56. A switch has an integer.
unfoldable pub rule_56_is_integer : Ty → Bool
rule_56_is_integer t = is_integer t
