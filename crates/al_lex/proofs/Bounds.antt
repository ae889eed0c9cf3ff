-- A piece lies in its text, and so does a fault.
use Rattle.std.proofs.Common.{ℕ, ◌<◌, ◌≤◌, Bool, List, [], ◌∷◌, length, IfOk, IfErr, ap, arith, length-append}
use Rattle.al_lex.specs.Cut.{IsFault, of_piece, bad_char, IsPieceFault, open_comment, open_string, bad_escape_in_string, bad_escape_in_character, number_too_big}
use Rattle.al_lex.specs.Bytes.{backslash}
use Rattle.al_lex.specs.declared.fault.LexReason.{LexReason}
use Rattle.al_lex.specs.Scan.{Answer, scan}
use Rattle.al_lex.proofs.Scanned.{IsRight, right_piece, right_fault, right, some_byte}

piece_fault_within : {fresh : Bool} {ts : List ℕ} {reason : LexReason} {offset : ℕ} → IsPieceFault fresh ts reason offset → offset ≤ length ts
piece_fault_within (open_comment rest h) = omega arith
piece_fault_within (open_string b e) = omega arith
piece_fault_within (bad_escape_in_string {u = u} {rest = rest} b n) = omega (arith, length-append u (backslash ∷ rest))
piece_fault_within (bad_escape_in_character n) = omega arith
piece_fault_within (number_too_big l big) = omega arith

pub fault_within : {fresh : Bool} {ts : List ℕ} {reason : LexReason} {offset : ℕ} → IsFault fresh ts reason offset → offset ≤ length ts
fault_within (of_piece d) = piece_fault_within d
fault_within (bad_char some none other) = omega arith

-- what the answer keeps within the text
pub record Bounds (ts : List ℕ) (a : Answer) : Type 0 where
  pub some : IfOk a (λ found. 0 < found.len)
  pub within : IfOk a (λ found. found.len ≤ length ts)
  pub fault_within : IfErr a (λ flaw. flaw.offset ≤ length ts)

bounds_by : {fresh : Bool} {ts : List ℕ} {a : Answer} → IsRight fresh ts a → Bounds ts a
bounds_by (right_piece kind n u rest cut len d) = record { some = omega (arith, len, some_byte d.longest.is); within = omega (arith, len, ap length cut, length-append u rest); fault_within = tt }
bounds_by (right_fault reason offset f) = record { some = tt; within = tt; fault_within = fault_within f }

pub bounds : (fresh : Bool) (ts : List ℕ) → 0 < length ts → Bounds ts (scan fresh ts)
bounds fresh [] h = absurd (omega arith)
bounds fresh (b ∷ bs) h = bounds_by (right fresh b bs)
