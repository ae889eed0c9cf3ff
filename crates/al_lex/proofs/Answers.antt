-- What is to be shown of the answer of each scanner.
use Rattle.std.proofs.Common.{◌≡◌, ◌≢◌, ℕ, ◌≤◌, Bool, List, ◌++◌, length}
use Rattle.al_lex.specs.declared.kind.PieceKind.{PieceKind}
use Rattle.al_lex.specs.declared.fault.LexReason.{LexReason}
use Rattle.al_lex.specs.declared.fault.LexReason.TheVariants as r
use Rattle.al_lex.specs.Pieces.{IsPiece}
use Rattle.al_lex.specs.Cut.{IsPieceFault}
use Rattle.al_lex.specs.Scan.{Answer, found, flaw}

-- a piece that is found stands there, and so does a fault of a piece
pub data IsSound (fresh : Bool) (ts : List ℕ) : Answer → Type 0 where
  piece : (kind : PieceKind) (n : ℕ) (u rest : List ℕ) → ts ≡ u ++ rest → n ≡ length u → IsPiece fresh kind u rest → IsSound fresh ts (found kind n)
  fault : (reason : LexReason) (offset : ℕ) → IsPieceFault fresh ts reason offset → IsSound fresh ts (flaw reason offset)
  nothing : IsSound fresh ts (flaw r.BadChar 0)

-- what is found is no shorter than the piece, and of its kind where it is as long
pub data Covers (kind : PieceKind) (u : List ℕ) : Answer → Type 0 where
  longer : (other : PieceKind) (n : ℕ) → length u ≤ n → (length u ≡ n → kind ≡ other) → Covers kind u (found other n)
  faulty : (reason : LexReason) (offset : ℕ) → reason ≢ r.BadChar → Covers kind u (flaw reason offset)

-- the fault of a piece is found
pub record IsFound (reason : LexReason) (offset : ℕ) (answer : Answer) : Type 0 where
  pub is : answer ≡ flaw reason offset
  pub of_piece : reason ≢ r.BadChar
