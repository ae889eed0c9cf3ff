-- What is emitted for a program, by a plan of where things stand.
use Rattle.std.specs.Prelude.{◌≡◌, ℕ, Bool, true, false, List, [], ◌∷◌, All, length, map}
use Rattle.al_ir.specs.declared.ir.Ir.{Ir}
use Rattle.rv_isa.specs.declared.image.LineRow.{LineRow}
use Rattle.rv_code.specs.Laying.{Piece}
use Rattle.rv_form.specs.Layout.{Layout}
use Rattle.rv_form.specs.Program.{functions_place, code_by, lines_by, entries_from, starts_from, reaches_from, dispatcher_places, routine_places}
use Rattle.rv_emit_ops.specs.Plans.{Near}
use Rattle.rv_gen.specs.declared.emitted.Emitted.{Emitted}

-- a row for a piece, where it has a word
abbrev pub row_if : Bool → (at line : ℕ) → List LineRow
row_if true at line = record { word = at; line = line } ∷ []
row_if false at line = []

-- how many words pieces have
abbrev pub widths : List Piece → List ℕ
widths pieces = map (λ (p : Piece). length p.code) pieces

-- places that were found in code
pub record AreFound (e : Emitted) : Type 0 where
  pub entries : All Near e.entries
  pub starts : All (All Near) e.starts
  pub dispatchers : All Near e.dispatchers
  pub routines : All Near e.routines

pub record IsEmitted (l : Layout) (ir : Ir) (e : Emitted) : Type 0 where
  pub code : e.code.items ≡ code_by l ir
  pub lines : e.lines ≡ lines_by l ir
  pub entries : e.entries ≡ entries_from l 0 (functions_place l ir) ir.functions
  pub starts : e.starts ≡ starts_from l 0 (functions_place l ir) ir.functions
  pub dispatchers : e.dispatchers ≡ dispatcher_places ir
  pub routines : e.routines ≡ routine_places ir
  pub reaches : e.reaches ≡ reaches_from l 0 ir.functions
