-- A line of the log that names a line of the text.
use Rattle.std.specs.Prelude.{ℕ, zero, suc, ◌-◌, List, ◌++◌, length, take, codes, decimal}

-- before its line feed; 0 names none
abbrev pub naming : (line : ℕ) → List ℕ → List ℕ
naming zero text = text
naming (suc n) text = take (length text - 1) text ++ codes ", line " ++ decimal (suc n) ++ codes "\n"
