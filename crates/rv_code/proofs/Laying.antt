-- Pieces of code one behind the other: where each stands, and which line its words have.
use Rattle.std.proofs.Common.{◌≡◌, ℕ, zero, suc, ◌+◌, ◌<◌, ◌≤◌, Bool, true, false, nat_le, if◌then◌else◌, List, [], ◌∷◌, length, slice_get, Some, refl, ap, ◌∙◌, arith, subst}
use Rattle.std.specs.Prelude.{fold}
use Rattle.std.proofs.lemmas.Bool.Decides.{nat_tests}
use Rattle.rv_isa.specs.declared.image.LineRow.{LineRow}
use Rattle.rv_isa.specs.declared.instr.Instr.{Instr}
use Rattle.rv_code.specs.Laying.{Piece, all_code, before, with_row, rows_from}
use Rattle.rv_code.specs.Runs.{Stands}
use Rattle.rv_code.proofs.Leading.{stands_front, stands_back}

pub piece_stands : (code : List ℕ) (at : ℕ) (ps : List Piece) (k : ℕ) (p : Piece) → Stands code at (all_code ps) → slice_get ps k ≡ Some p → Stands code (at + before ps k) p.code
piece_stands code at [] k p h e = absurd (cc)
piece_stands code at (q ∷ ps) zero p h e =
    let same : q ≡ p = cc in
    let none : at ≡ at + 0 = omega arith in
    subst (λ n. Stands code n p.code) none (subst (λ (r : Piece). Stands code at r.code) same (stands_front code at q.code (all_code ps) h))
piece_stands code at (q ∷ ps) (suc k) p h e =
    let more = piece_stands code (at + length q.code) ps k p (stands_back code at q.code (all_code ps) h) e in
    let far : at + length q.code + before ps k ≡ at + (length q.code + before ps k) = omega arith in
    subst (λ n. Stands code n p.code) far more

-- ---- lines

abbrev line_from : (first j : ℕ) → List LineRow → ℕ
line_from first j rows = fold (λ line (row : LineRow). if nat_le row.word j then row.line else line) first rows

row_past : (j at line first : ℕ) → j < at → (if nat_le at j then line else first) ≡ first
row_past j at line first less = let e : nat_le at j ≡ false = grind (arith, nat_tests, less) in ap (λ (b : Bool). if b then line else first) e

row_here : (j at line first : ℕ) → at ≤ j → (if nat_le at j then line else first) ≡ line
row_here j at line first less = let e : nat_le at j ≡ true = grind (arith, nat_tests, less) in ap (λ (b : Bool). if b then line else first) e

-- rows past a word say nothing of it
past_rows : (ps : List Piece) (at j first : ℕ) → j < at → line_from first j (rows_from at ps) ≡ first
past_rows [] at j first less = refl
past_rows (p ∷ ps) at j first less = on p.code (rows_from (at + length p.code) ps) (past_rows ps (at + length p.code) j first (omega (arith, less))) where
  on : (is : List Instr) (rows : List LineRow) → line_from first j rows ≡ first → line_from first j (with_row at p.line is rows) ≡ first
  on [] rows a = a
  on (i ∷ is) rows a = ap (λ n. line_from n j rows) (row_past j at p.line first less) ∙ a

-- each word of a piece has its line
pub line_is : (ps : List Piece) (at k j first : ℕ) (p : Piece) → slice_get ps k ≡ Some p → at + before ps k ≤ j → j < at + before ps k + length p.code
    → line_from first j (rows_from at ps) ≡ p.line
line_is [] at k j first p e a b = absurd (cc)
line_is (q ∷ ps) at zero j first p e a b =
    let same : q ≡ p = cc in
    on q.code (ap (λ (r : Piece). r.line) same) (ap (λ (r : Piece). length r.code) same) (rows_from (at + length q.code) ps) (past_rows ps (at + length q.code) j q.line (omega (arith, b, ap (λ (r : Piece). length r.code) same))) where
      on : (is : List Instr) → q.line ≡ p.line → length is ≡ length p.code → (rows : List LineRow) → line_from q.line j rows ≡ q.line → line_from first j (with_row at q.line is rows) ≡ p.line
      on [] s t rows past = absurd (omega (arith, a, b, t))
      on (i ∷ is) s t rows past = ap (λ n. line_from n j rows) (row_here j at q.line first (omega (arith, a))) ∙ past ∙ s
line_is (q ∷ ps) at (suc k) j first p e a b =
    on q.code (rows_from (at + length q.code) ps) (λ first. line_is ps (at + length q.code) k j first p e (omega (arith, a)) (omega (arith, b))) where
      on : (is : List Instr) (rows : List LineRow) → ((first : ℕ) → line_from first j rows ≡ p.line) → line_from first j (with_row at q.line is rows) ≡ p.line
      on [] rows more = more first
      on (i ∷ is) rows more = ap (λ n. line_from n j rows) (row_here j at q.line first (omega (arith, a))) ∙ more q.line
