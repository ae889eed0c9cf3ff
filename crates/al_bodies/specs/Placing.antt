-- Par branches in the order of their numbers.
use Rattle.std.specs.Prelude.{ℕ, ◌+◌, ◌==◌, Bool, List, map, length, find, Option, option_map}
use Rattle.std.specs.List.{flat_map, range_with_len}
use Rattle.std.specs.Option.{option_to_list}
use Rattle.al_typed.specs.declared.program.Function.{Function}
use Rattle.al_type_function.specs.declared.branch.NumberedBranch.{NumberedBranch}

abbrev pub function_of : NumberedBranch → Function
function_of b = b.function

abbrev pub has_number : ℕ → NumberedBranch → Bool
has_number n b = b.number == n

-- the branch of that number
unfoldable pub branch_of : List NumberedBranch → ℕ → Option Function
branch_of bs n = option_map function_of (find (has_number n) bs)

-- those of so many numbers, of which the first is `from`
abbrev pub by_number : (from count : ℕ) → List NumberedBranch → List (Option Function)
by_number from count bs = map (λ i. branch_of bs (from + i)) (range_with_len 0 count)

-- Branches in the order of their numbers, of which the first is `from`. There are as many numbers as branches.
unfoldable pub in_order : (from : ℕ) → List NumberedBranch → List Function
in_order from bs = flat_map option_to_list (by_number from (length bs) bs)
