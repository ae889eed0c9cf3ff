-- Typing rule 8, one predicate for each sentence.
use Rattle.std.specs.Prelude.{ℕ, ◌==◌, Bool, not, List, Option, is_some}
use Rattle.std.specs.List.{list_any}

abbrev pub is_among : List ℕ → ℕ → Bool
is_among names name = list_any (λ n. n == name) names

-- 8. A member's name is found once, through unnamed members too. These are the names that stand before it.
abbrev pub rule_8_once : (before : List ℕ) → ℕ → Bool
rule_8_once before name = not (is_among before name)

-- 8. An unnamed member is an aggr, union or adt. Its type has a number among these, if it is one.
abbrev pub rule_8_unnamed : (number : Option ℕ) → Bool
rule_8_unnamed number = is_some number
