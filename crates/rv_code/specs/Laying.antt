-- Pieces of code that stand behind one another, and the line rows of an image for them.
use Rattle.std.specs.Prelude.{ℕ, zero, suc, ◌+◌, List, [], ◌∷◌, ◌++◌, length}
use Rattle.rv_isa.specs.declared.image.LineRow.{LineRow}
use Rattle.rv_isa.specs.declared.instr.Instr.{Instr}

-- a piece, and the line of the text that its words belong to
pub record Piece : Type 0 where
  pub line : ℕ
  pub code : List Instr

abbrev pub all_code : List Piece → List Instr
all_code [] = []
all_code (p ∷ ps) = p.code ++ all_code ps

-- how many words stand before piece number k
abbrev pub before : List Piece → ℕ → ℕ
before [] k = 0
before (p ∷ ps) zero = 0
before (p ∷ ps) (suc k) = length p.code + before ps k

-- a row for a piece that has a word; a piece without one has no row, since rows rise strictly
abbrev pub with_row : (at line : ℕ) → List Instr → List LineRow → List LineRow
with_row at line [] rows = rows
with_row at line (i ∷ is) rows = record { word = at; line = line } ∷ rows

abbrev pub rows_from : (at : ℕ) → List Piece → List LineRow
rows_from at [] = []
rows_from at (p ∷ ps) = with_row at p.line p.code (rows_from (at + length p.code) ps)
