-- The string constants of a function that have blocks.
use Rattle.std.specs.Prelude.{ℕ, ◌+◌, List, [], ◌∷◌, ◌++◌}
use Rattle.al_environment.specs.declared.numbered.Numbered.{Numbered}
use Rattle.al_body_parts.specs.declared.parts.WrittenText.{WrittenText}
use Rattle.al_type_stmt.specs.Iterators.{numbered_at}

abbrev pub bytes_in : WrittenText → List ℕ
bytes_in t = t.bytes

-- their numbers, the first of which is `from`
unfoldable pub numbered : (from : ℕ) → List WrittenText → List Numbered
numbered from [] = []
numbered from (t ∷ ts) = numbered_at from t.at ++ numbered (from + 1) ts
