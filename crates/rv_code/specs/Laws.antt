-- What is said of all code and all harts.
use Rattle.std.specs.Prelude.{◌≡◌, ℕ, ◌+◌, ◌<◌, ◌≤◌, ◌^◌, List, length, slice_get, Some}
use Rattle.al_world.specs.Control.{Asked}
use Rattle.rv_isa.specs.declared.image.Contents.{Contents}
use Rattle.rv_exec.specs.Hart.{Hart}
use Rattle.rv_exec.specs.Calls.{Privates}
use Rattle.rv_exec.specs.Machine.{ask, line_at}
use Rattle.rv_code.specs.Runs.{Comes}
use Rattle.rv_code.specs.Laying.{Piece, before, rows_from}

abbrev pub AskWhatTheyComeTo : Type 0
AskWhatTheyComeTo =
    (image : Contents) (h : Hart) (p : Privates) (a : Asked Hart Privates) → length image.code ≤ 2 ^ 23 → h.pc < 2 ^ 32 → h.jumps ≡ 0 → h.work ≡ 0
    → Comes image h p a → ask image h p ≡ a

abbrev pub HasItsLine : Type 0
HasItsLine =
    (ps : List Piece) (at k j : ℕ) (p : Piece) → slice_get ps k ≡ Some p → at + before ps k ≤ j → j < at + before ps k + length p.code
    → line_at j (rows_from at ps) ≡ p.line
