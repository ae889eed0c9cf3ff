-- The pieces of a format, one after the other.
use Rattle.std.proofs.Common.{◌≡◌, ℕ, suc, ◌+◌, ◌<◌, ◌≤◌, List, ◌∷◌, ◌++◌, drop, length, get_or, arith, sym, ap, ◌∙◌, drop-cons}
use Rattle.std.proofs.lemmas.List.{at_drop_all}
use Rattle.al_typed.specs.declared.ty.Ty.{Ty}
use Rattle.al_typed.specs.declared.expression.PrintPiece.{PrintPiece}
use Rattle.al_ir.specs.declared.ir.Operation.{Operation}
use Rattle.al_ir.specs.declared.op.Op.TheVariants.{Print}
use Rattle.al_lower_code.specs.Homes.{Spot, here}
use Rattle.al_lower_code.specs.Actions.{pieces_code}

next : (i : ℕ) → suc i ≡ i + 1
next i = omega arith

-- what was made with the piece at hand is what all pieces make
pub with_piece : (s : Spot) (format : List PrintPiece) (i : ℕ) (d : PrintPiece) (ts : List Ty) (at : ℕ) (out all new : List Operation)
    → i < length format → new ≡ out ++ pieces_code s (get_or format i d ∷ drop (i + 1) format) ts at
    → out ++ pieces_code s (drop i format) ts at ≡ all → new ≡ all
with_piece s format i d ts at out all new within made so_far =
    made
    ∙ ap (λ (ps : List PrintPiece). out ++ pieces_code s ps ts at) (sym (drop-cons format i d within ∙ ap (λ (k : ℕ). get_or format i d ∷ drop k format) (next i)))
    ∙ so_far

-- behind the last one the text is put out
pub with_end : (s : Spot) (format : List PrintPiece) (i : ℕ) (ts : List Ty) (at : ℕ) (out all : List Operation)
    → length format ≤ i → out ++ pieces_code s (drop i format) ts at ≡ all → out ++ here s Print ≡ all
with_end s format i ts at out all ends so_far =
    ap (λ (ops : List Operation). out ++ ops) (sym (at_drop_all (λ (ps : List PrintPiece). pieces_code s ps ts at) format i ends)) ∙ so_far
