-- Typing rules 49 to 51 and 54, one predicate for each sentence. `Flow` says which statements they are asked of.
use Rattle.std.specs.Prelude.{ℕ, ◌-◌, nat_le, Bool, true, not, ◌&&◌, ◌||◌, List, Option, Some, None, is_some, is_none}
use Rattle.al_flow.specs.declared.mark.Mark.{Mark}
use Rattle.al_flow.specs.Marks.{label_named, rescue_named}

-- 49. break n and continue n have n at least 1 and that many targets.
unfoldable pub has_targets : ℕ → ℕ → Bool
has_targets n count = nat_le 1 n && nat_le n count

-- 50. A goto's label is in the same function.
abbrev pub has_label : List Mark → ℕ → Bool
has_label marks name = is_some (label_named marks name)

-- 50. Labels are unique there: none of its name stands before it.
abbrev pub is_new_label : List Mark → ℕ → Bool
is_new_label earlier name = is_none (label_named earlier name)

-- 51. A raise has a target: with a name the rescue of that name, without one the closest earlier rescue.
abbrev pub has_rescue : Option ℕ → Bool
has_rescue target = is_some target

-- 51. Names of rescues are unique in a function: none of its name stands before it.
abbrev pub is_new_rescue : List Mark → Option ℕ → Bool
is_new_rescue earlier None = true
is_new_rescue earlier (Some name) = is_none (rescue_named earlier name)

-- 54. A par has 1 to 64 branches.
unfoldable pub has_branches : ℕ → Bool
has_branches n = nat_le 1 n && nat_le n 64

-- 54. A break or continue inside a branch stays inside it: what it has for a target is not among those round the branch.
-- (A branch is a function of its own for gotos and raises, so these stay inside it by rules 50 and 51. A return inside it
-- ends the branch.)
unfoldable pub stays_inside : ℕ → ℕ → ℕ → Bool
stays_inside n count outside = nat_le n (count - outside) || not (has_targets n count)
