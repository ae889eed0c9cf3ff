-- Typing rule 9 of print and terminate: the language has these two functions, and their names are only called.
use Rattle.std.specs.Prelude.{ℕ, bytes_eq, Bool, false, not, ◌||◌, List, Option, Some, None, slice_get, codes}

-- a name that has these bytes
abbrev pub is_written : List ℕ → Option (List ℕ) → Bool
is_written text None = false
is_written text (Some name) = bytes_eq name text

-- a name of a text that is `print` or `terminate`
unfoldable pub is_built_in : List (List ℕ) → ℕ → Bool
is_built_in names name = is_written (codes "print") (slice_get names name) || is_written (codes "terminate") (slice_get names name)

-- 9. A name whose value is used is not print and not terminate. By rule 3 nothing else has these names.
abbrev pub rule_9_is_value : List (List ℕ) → ℕ → Bool
rule_9_is_value names name = not (is_built_in names name)
