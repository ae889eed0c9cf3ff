-- Numbers that a program keeps in 32 bits, and lists by the numbers of their elements.
use Rattle.std.specs.Prelude.{ℕ, ◌+◌, nat_le, if◌then◌else◌, List, [], ◌∷◌}

-- numbers past 2^32 - 1 count as that
abbrev pub capped : ℕ → ℕ
capped n = if nat_le n 4294967295 then n else 4294967295

-- what is made of each element by its number, the first of which is `from`
unfoldable pub indexed : {A B : Type 0} → (ℕ → A → B) → (from : ℕ) → List A → List B
indexed f from [] = []
indexed f from (x ∷ xs) = f from x ∷ indexed f (from + 1) xs
