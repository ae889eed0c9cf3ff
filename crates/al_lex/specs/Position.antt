-- Where a piece begins, with its place.
use Rattle.std.specs.Prelude.{◌≡◌, ℕ, ◌+◌, ◌≤◌, ◌<◌, ◌==◌, ◌||◌, ◌&&◌, if◌then◌else◌, List, length, take, drop, slice_range}
use Rattle.al_base.specs.declared.place.Place.{Place}
use Rattle.al_lex.specs.declared.kind.PieceKind.{PieceKind}
use Rattle.al_lex.specs.declared.fault.LexFault.{LexFault}
use Rattle.al_lex.specs.declared.position.Position.{Position}
use Rattle.al_lex.specs.Bytes.{line_feed}
use Rattle.al_lex.specs.Cut.{IsNext, IsFault, is_fresh}
use Rattle.al_lex.specs.Written.{place_after}

-- the position behind these bytes
pub record IsAt (before : List ℕ) (here : Position) : Type 0 where
  pub at : here.at ≡ length before
  pub place : here.place ≡ place_after before
  pub fresh : here.fresh ≡ is_fresh before

abbrev pub place_step : Place → ℕ → Place
place_step place b = if b == line_feed then record { line = place.line + 1; col = 1 } else record { line = place.line; col = place.col + 1 }

-- the position one byte on
abbrev pub step : Position → ℕ → Position
step here b = record { at = here.at + 1; place = place_step here.place b; fresh = b == line_feed || (here.fresh && (b == 32 || b == 9)) }

-- no line and no column is counted higher than the bytes
pub record IsBounded (here : Position) : Type 0 where
  pub line : here.place.line ≤ here.at + 1
  pub col : here.place.col ≤ here.at + 1

-- the piece of the cutting that begins at `from` and ends at `to`
pub record IsPieceTo (text : List ℕ) (from : ℕ) (kind : PieceKind) (to : ℕ) : Type 0 where
  pub ordered : from < to
  pub within : to ≤ length text
  pub is : IsNext (is_fresh (take from text)) kind (slice_range text from to) (drop to text)

-- the fault that stands where the cutting would go on at `from`
pub record IsFaultFrom (text : List ℕ) (from : ℕ) (f : LexFault) : Type 0 where
  pub offset : ℕ
  pub is : IsFault (is_fresh (take from text)) (drop from text) f.reason offset
  pub byte_is : f.byte ≡ from + offset
