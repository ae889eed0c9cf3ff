-- What is made behind the operations of an expression's parts.
use Rattle.std.specs.Prelude.{ℕ, ◌+◌, List, [], ◌∷◌, ◌++◌}
use Rattle.al_typed.specs.declared.ty.Ty.{Ty}
use Rattle.al_typed.specs.declared.expression.StepOp.{StepOp}
use Rattle.al_typed.specs.declared.expression.Passed.{Passed}
use Rattle.al_typed.specs.declared.expression.Passed.TheVariants as passed
use Rattle.al_meaning.specs.Evaluate.{goes_back}
use Rattle.al_ir.specs.declared.ir.Operation.{Operation}
use Rattle.al_ir.specs.declared.op.Op.TheVariants.{Talk}
use Rattle.al_lower_code.specs.Homes.{Spot, words, units, here}
use Rattle.al_lower_code.specs.Moving.{Where, read_code, save_code, clear_code, address_code, trims, moves}
use Rattle.al_lower_code.specs.Operators.{step_code}
use Rattle.al_lower_code.specs.Actions.{receives_from, sends_to}

-- how many words of an object are passed that has so many
abbrev pub passed_words : Passed → ℕ → ℕ
passed_words passed.Address n = 1
passed_words passed.Value n = n
passed_words passed.Nothing n = 0

-- `++` and `--` on what stands at a place, and the new value there
abbrev pub steps_at : Spot → Ty → StepOp → Where → (new to : ℕ) → List Operation
steps_at s t op at new to = read_code s t at (to + 1) ++ (step_code s (goes_back op) t new (to + 1) (to + 1 + words s t) ++ save_code s t at new)

abbrev pub clears_at : Spot → Ty → Where → (to : ℕ) → List Operation
clears_at s t at to = read_code s t at (to + 1) ++ clear_code s t at (to + 1 + words s t)

-- a value of a type from a channel in a slot, and one to it
abbrev pub receives : Spot → Ty → (chan dest to : ℕ) → List Operation
receives s t chan dest to =
    here s (Talk (receives_from chan (words s t) ∷ []) (to + 2) (to + 1) (to + 6)) ++ (trims s.line (to + 6) (units s t) ++ moves s.line dest (to + 6) (words s t))

abbrev pub sends : Spot → Ty → (chan from to : ℕ) → List Operation
sends s t chan from to = let branch = to + 1 + words s t in here s (Talk (sends_to chan (words s t) from ∷ []) (branch + 1) branch branch)

-- the slots that are free behind what an object of so many words gives, and what it gives
abbrev pub object_free : Passed → (words to : ℕ) → ℕ
object_free passed.Address n to = to
object_free passed.Value n to = to + n
object_free passed.Nothing n to = to

abbrev pub passes_at : Spot → Passed → Ty → Where → (to : ℕ) → List Operation
passes_at s passed.Address t at to = address_code s at to
passes_at s passed.Value t at to = read_code s t at to
passes_at s passed.Nothing t at to = []
