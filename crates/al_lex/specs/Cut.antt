-- The finished cutting of a text, and where there is none.
use Rattle.std.specs.Prelude.{◌≡◌, ◌≢◌, ℕ, ◌+◌, ◌≤◌, ◌^◌, ◌==◌, Bool, ◌||◌, List, [], ◌∷◌, ◌++◌, length, codes}
use Rattle.std.specs.List.{list_all, after_last}
use Rattle.al_lex.specs.declared.kind.PieceKind.{PieceKind}
use Rattle.al_lex.specs.declared.fault.LexReason.{LexReason}
use Rattle.al_lex.specs.declared.fault.LexReason.TheVariants as r
use Rattle.al_lex.specs.Bytes.{line_feed, quote, apostrophe, backslash}
use Rattle.al_lex.specs.Pieces.{IsPiece, IsNumber, IsEscape, IsBody, EndsLine, Occurs}

-- the bytes of the last line
abbrev pub last_line : List ℕ → List ℕ
last_line text = after_last (λ b. b == line_feed) text

-- whether a line that begins with `#` may begin behind these bytes: the last line has only spaces and tabs
abbrev pub is_fresh : List ℕ → Bool
is_fresh before = list_all (λ b. b == 32 || b == 9) (last_line before)

-- the longest piece that begins the text
pub record IsLongest (fresh : Bool) (text : List ℕ) (kind : PieceKind) (piece rest : List ℕ) : Type 0 where
  pub cut : text ≡ piece ++ rest
  pub is : IsPiece fresh kind piece rest
  pub longest : (other : PieceKind) (u v : List ℕ) → text ≡ u ++ v → IsPiece fresh other u v → length u ≤ length piece

-- no escape follows a `\`
abbrev pub BeginsNoEscape : List ℕ → Type 0
BeginsNoEscape text = (u v : List ℕ) (b : ℕ) → text ≡ u ++ v → ¬ IsEscape u b

-- the longest number that begins the text, and its value
pub record IsLongestNumber (text u : List ℕ) (v : ℕ) : Type 0 where
  pub rest : List ℕ
  pub cut : text ≡ u ++ rest
  pub is : IsNumber u v
  pub longest : (w rest : List ℕ) (x : ℕ) → text ≡ w ++ rest → IsNumber w x → length w ≤ length u

-- the faults of a piece that begins here, each with how many bytes further on it stands
pub data IsPieceFault (fresh : Bool) : List ℕ → LexReason → ℕ → Type 0 where
  open_comment : (rest : List ℕ) → ¬ Occurs (codes "*/") rest → IsPieceFault fresh (codes "/*" ++ rest) r.OpenComment 0
  open_string : {u rest : List ℕ} → IsBody u → EndsLine rest → IsPieceFault fresh (quote ∷ (u ++ rest)) r.OpenString 0
  bad_escape_in_string : {u rest : List ℕ} → IsBody u → BeginsNoEscape rest → IsPieceFault fresh (quote ∷ (u ++ backslash ∷ rest)) r.BadEscape (length u + 1)
  bad_escape_in_character : {rest : List ℕ} → BeginsNoEscape rest → IsPieceFault fresh (apostrophe ∷ backslash ∷ rest) r.BadEscape 1
  number_too_big : {text u : List ℕ} {v : ℕ} → IsLongestNumber text u v → 2 ^ 64 ≤ v → IsPieceFault fresh text r.NumberTooBig 0

-- the faults: those of a piece, and else a byte at which no piece begins
pub data IsFault (fresh : Bool) : List ℕ → LexReason → ℕ → Type 0 where
  of_piece : {text : List ℕ} {reason : LexReason} {offset : ℕ} → IsPieceFault fresh text reason offset → IsFault fresh text reason offset
  bad_char : {text : List ℕ} → text ≢ [] → ((kind : PieceKind) (u v : List ℕ) → text ≡ u ++ v → ¬ IsPiece fresh kind u v) → ((reason : LexReason) (offset : ℕ) → ¬ IsPieceFault fresh text reason offset) → IsFault fresh text r.BadChar 0

-- the piece of the cutting: the longest that begins here, where no fault stands
pub record IsNext (fresh : Bool) (kind : PieceKind) (piece rest : List ℕ) : Type 0 where
  pub longest : IsLongest fresh (piece ++ rest) kind piece rest
  pub faultless : (reason : LexReason) (offset : ℕ) → ¬ IsFault fresh (piece ++ rest) reason offset

abbrev pub Piece : Type 0
Piece = PieceKind × List ℕ

-- the bytes of pieces one after another
abbrev pub joined : List Piece → List ℕ
joined [] = []
joined (piece ∷ more) = piece.1 ++ joined more

-- the bytes behind `before` are cut into these pieces, and then `rest` is left
pub data Pieces : List ℕ → List Piece → List ℕ → Type 0 where
  none : {before rest : List ℕ} → Pieces before [] rest
  next : {before u rest : List ℕ} {kind : PieceKind} {more : List Piece} → IsNext (is_fresh before) kind u (joined more ++ rest) → Pieces (before ++ u) more rest → Pieces before ((kind, u) ∷ more) rest

-- the whole text is cut into these pieces
pub record Cut (text : List ℕ) (pieces : List Piece) : Type 0 where
  pub covers : text ≡ joined pieces
  pub each : Pieces [] pieces []

-- a first part of the text is cut, and the fault stands next
pub record Stuck (text : List ℕ) (reason : LexReason) (byte : ℕ) : Type 0 where
  pub pieces : List Piece
  pub rest : List ℕ
  pub offset : ℕ
  pub covers : text ≡ joined pieces ++ rest
  pub each : Pieces [] pieces rest
  pub fault : IsFault (is_fresh (joined pieces)) rest reason offset
  pub byte_is : byte ≡ length (joined pieces) + offset
