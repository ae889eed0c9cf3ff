-- The operations of those forms of expressions whose type plays no part in them, from those of their parts.
use Rattle.std.specs.Prelude.{ℕ, ◌+◌, false, not, if◌then◌else◌, List, [], ◌∷◌, ◌++◌, length}
use Rattle.al_base.specs.declared.arith.Kind.{Kind}
use Rattle.al_typed.specs.declared.ty.Ty.{Ty}
use Rattle.al_typed.specs.declared.expression.BinaryOp.{BinaryOp}
use Rattle.al_typed.specs.declared.expression.Logic.{Logic}
use Rattle.al_typed.specs.declared.expression.Logic.TheVariants as logic
use Rattle.al_ir.specs.declared.ir.Operation.{Operation}
use Rattle.al_ir.specs.declared.op.Op.TheVariants.{Constant, Advance, Skip}
use Rattle.al_lower_code.specs.Homes.{Spot, words, operation, here}
use Rattle.al_lower_code.specs.Moving.{settles, settled}
use Rattle.al_lower_code.specs.Operators.{convert_code}
use Rattle.al_lower_code.specs.Coded.{Coded, operand_slot, operand_code, first_slot}
use Rattle.al_lower_code.specs.Values.{pair_code, skip_unless, truth_of}
use Rattle.al_lower_forms.specs.Pieces.{is_integer}

-- a comparison of words as a condition
abbrev pub compare_unless : Spot → BinaryOp → Kind → (words : ℕ) → (left right : Coded) → (to count : ℕ) → List Operation
compare_unless s op k n left right to count =
    pair_code n left right to ++ skip_unless s op k (first_slot left right to) (operand_slot right (to + n)) count

-- the right side, of so many words, is left out once the left side decides
abbrev pub logical_value : Spot → Logic → (words : ℕ) → (left right : Coded) → (dest to : ℕ) → List Operation
logical_value s logic.And n left right dest to =
    left.unless to (length (truth_of s n right dest to) + 1)
    ++ (truth_of s n right dest to ++ operation s.line (Skip 1) ∷ operation s.line (Constant dest 0) ∷ [])
logical_value s logic.Or n left right dest to =
    left.unless to 2
    ++ operation s.line (Constant dest 1) ∷ operation s.line (Skip (length (truth_of s n right dest to))) ∷ truth_of s n right dest to

abbrev pub logical_unless : Spot → Logic → (left right : Coded) → (to count : ℕ) → List Operation
logical_unless s logic.And left right to count = left.unless to (length (right.unless to count) + count) ++ right.unless to count
logical_unless s logic.Or left right to count =
    left.unless to 1 ++ operation s.line (Skip (length (right.unless to count))) ∷ right.unless to count

-- an integer as one with other bits, or a tuple of such parts, which stands apart from the new one
abbrev pub changed_value : Spot → (from into : Ty) → Coded → (dest to : ℕ) → List Operation
changed_value s from into c dest to =
    if is_integer into then operand_code c to ++ convert_code s from into dest (operand_slot c to)
    else c.value (to + words s into) (to + words s into) ++ convert_code s from into dest (to + words s into)

-- an element whose number is not known
abbrev pub indexed : Spot → (size : ℕ) → (base index : Coded) → (to : ℕ) → List Operation
indexed s size base index to =
    base.pointer (not index.keeps) to ++ (settles s (base.leads (not index.keeps) to) to ++ (operand_code index (to + 1)
    ++ here s (Advance false size to (settled (base.leads (not index.keeps) to) to) (operand_slot index (to + 1)))))
