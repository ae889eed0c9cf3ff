-- What is done at once with a value that was found.
use Rattle.std.specs.Prelude.{ℕ, ◌+◌, List, ◌++◌}
use Rattle.al_base.specs.declared.arith.Op.TheVariants as arith
use Rattle.al_typed.specs.declared.ty.Ty.{Ty}
use Rattle.al_meaning.specs.Words.{integer_words}
use Rattle.al_meaning.specs.Shown.{kind_of}
use Rattle.al_ir.specs.declared.ir.Operation.{Operation}
use Rattle.al_ir.specs.declared.op.Op.TheVariants.{Complement, Offset, Terminate, CanRecv, CanSend}
use Rattle.al_lower_code.specs.Homes.{Spot, words, here}
use Rattle.al_lower_code.specs.Moving.{constants}
use Rattle.al_lower_code.specs.Operators.{arithmetic, operator_by, step_bytes, convert_code, negation_code, truth_code, skip_if_zero, skip_if_set}
use Rattle.al_lower_parts.specs.Parts.{receives}
use Rattle.al_lower_forms.specs.declared.uses.Use.{Use}
use Rattle.al_lower_forms.specs.declared.uses.Use.TheVariants as how

-- a value of a type, which stands from `slot` on
abbrev pub use_code : Spot → Ty → Use → (slot dest to : ℕ) → List Operation
use_code s t how.Negate slot dest to = negation_code s (words s t) dest slot to
use_code s t how.Truth slot dest to = truth_code s (words s t) dest slot
use_code s t (how.SkipIfZero count) slot dest to = skip_if_zero s (words s t) slot to count
use_code s t (how.SkipIfSet count) slot dest to = skip_if_set s (words s t) slot to count
use_code s t (how.Less u bits) slot dest to =
    constants s.line (to + words s u.now) (integer_words (kind_of u.now) bits) ++ here s (arithmetic (kind_of u.now) arith.Sub dest (to + words s u.now) slot)
use_code s t how.Complement slot dest to = here s (Complement dest slot)
use_code s t (how.Convert into) slot dest to = convert_code s t into.now dest slot
use_code s t (how.By op kind word) slot dest to = here s (operator_by op kind dest slot word)
use_code s t (how.Offset back size count) slot dest to = here s (Offset dest slot (step_bytes back size count))
use_code s t how.Terminate slot dest to = here s (Terminate slot)
use_code s t (how.Receive u) slot dest to = receives s u.now slot dest to
use_code s t how.CanReceive slot dest to = here s (CanRecv dest slot)
use_code s t how.CanSend slot dest to = here s (CanSend dest slot)
