-- Pieces that are emitted one behind the other.
use Rattle.std.proofs.Common.{◌≡◌, ℕ, ◌+◌, ◌<◌, Bool, true, false, List, [], ◌∷◌, ◌++◌, length, nat_lt, refl, sym, ap, ◌∙◌, arith, append_assoc, length-append}
use Rattle.std.proofs.lemmas.Bool.Decides.{nat_tests}
use Rattle.rv_isa.specs.declared.image.LineRow.{LineRow}
use Rattle.rv_isa.specs.declared.instr.Instr.{Instr}
use Rattle.rv_code.specs.Laying.{Piece, all_code, with_row, rows_from}
use Rattle.rv_form.specs.Program.{places_from}
use Rattle.rv_gen.specs.Emitting.{row_if}

-- ---- lists of pieces that are joined

pub all_code-append : (ps qs : List Piece) → all_code (ps ++ qs) ≡ all_code ps ++ all_code qs
all_code-append [] qs = refl
all_code-append (p ∷ ps) qs = ap (λ (c : List Instr). p.code ++ c) (all_code-append ps qs) ∙ sym (append_assoc p.code (all_code ps) (all_code qs))

with_row-append : (at line : ℕ) (code : List Instr) (xs ys : List LineRow) → with_row at line code (xs ++ ys) ≡ with_row at line code xs ++ ys
with_row-append at line [] xs ys = refl
with_row-append at line (i ∷ is) xs ys = refl

pub rows_from-append : (at : ℕ) (ps qs : List Piece) → rows_from at (ps ++ qs) ≡ rows_from at ps ++ rows_from (at + length (all_code ps)) qs
rows_from-append at [] qs = let e : at ≡ at + 0 = omega arith in ap (λ n. rows_from n qs) e
rows_from-append at (p ∷ ps) qs =
    let e : at + length p.code + length (all_code ps) ≡ at + length (p.code ++ all_code ps) = omega (arith, length-append p.code (all_code ps)) in
    ap (λ (rows : List LineRow). with_row at p.line p.code rows) (rows_from-append (at + length p.code) ps qs)
    ∙ (with_row-append at p.line p.code (rows_from (at + length p.code) ps) (rows_from (at + length p.code + length (all_code ps)) qs)
    ∙ ap (λ n. with_row at p.line p.code (rows_from (at + length p.code) ps) ++ rows_from n qs) e)

-- ---- steps of loops

pub code_step : {X : Type 0} (code piece rest next total : List X) → code ++ (piece ++ rest) ≡ total → next ≡ code ++ piece → next ++ rest ≡ total
code_step code piece rest next total so_far is = ap (λ c. c ++ rest) is ∙ (append_assoc code piece rest ∙ so_far)

pub place_step : (code piece next : List Instr) → next ≡ code ++ piece → length next ≡ length code + length piece
place_step code piece next is = ap length is ∙ length-append code piece

pub starts_step : (starts next : List ℕ) (at width there : ℕ) (ws total : List ℕ) → starts ++ places_from at (width ∷ ws) ≡ total
    → next ≡ starts ++ at ∷ [] → there ≡ at + width → next ++ places_from there ws ≡ total
starts_step starts next at width there ws total so_far is goes =
    ap (λ (s : List ℕ). s ++ places_from there ws) is
    ∙ (append_assoc starts (at ∷ []) (places_from there ws)
    ∙ (ap (λ n. starts ++ (at ∷ places_from n ws)) goes ∙ so_far))

row_of : (at there line : ℕ) (code : List Instr) (rows : List LineRow) → there ≡ at + length code → with_row at line code rows ≡ row_if (nat_lt at there) at line ++ rows
row_of at there line [] rows goes =
    let e : nat_lt at there ≡ false = grind (arith, nat_tests, goes) in
    ap (λ (b : Bool). row_if b at line ++ rows) (sym e)
row_of at there line (i ∷ is) rows goes =
    let less : at < there = omega (arith, goes) in
    let e : nat_lt at there ≡ true = grind (arith, nat_tests, less) in
    ap (λ (b : Bool). row_if b at line ++ rows) (sym e)

pub lines_step : (lines next : List LineRow) (at there : ℕ) (p : Piece) (ps : List Piece) (total : List LineRow) → lines ++ rows_from at (p ∷ ps) ≡ total
    → next ≡ lines ++ row_if (nat_lt at there) at p.line → there ≡ at + length p.code → next ++ rows_from there ps ≡ total
lines_step lines next at there p ps total so_far is goes =
    ap (λ (rows : List LineRow). rows ++ rows_from there ps) is
    ∙ (append_assoc lines (row_if (nat_lt at there) at p.line) (rows_from there ps)
    ∙ (ap (λ (rows : List LineRow). lines ++ rows) (sym (row_of at there p.line p.code (rows_from there ps) goes))
    ∙ (ap (λ n. lines ++ with_row at p.line p.code (rows_from n ps)) goes ∙ so_far)))
