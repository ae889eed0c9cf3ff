-- `op=`, before and behind its right side.
use Rattle.std.specs.Prelude.{ℕ, ◌+◌, ◌≡◌, Bool, true, false, if◌then◌else◌, List, [], ◌++◌, Option, Some, None, unwrap_or}
use Rattle.al_typed.specs.declared.ty.Ty.{Ty}
use Rattle.al_typed.specs.declared.expression.Change.{Change}
use Rattle.al_typed.specs.declared.expression.Change.TheVariants as change
use Rattle.al_meaning.specs.Here.{pointee}
use Rattle.al_ir.specs.declared.ir.Operation.{Operation}
use Rattle.al_ir.specs.declared.op.Op.TheVariants.{Advance}
use Rattle.al_lower_code.specs.Homes.{Spot, words, size, here}
use Rattle.al_lower_code.specs.Moving.{Where, copies, read_code, save_code}
use Rattle.al_lower_code.specs.Operators.{operator}
use Rattle.al_lower_code.specs.Coded.{Coded, operand_code, operand_slot}
use Rattle.al_lower_code.specs.Actions.{changed_home, before_change, behind_change, change_code}

-- by a right side that stands in slots
abbrev pub change_by : Spot → Ty → Change → (new old right : ℕ) → List Operation
change_by s t (change.Apply op k) new old right = here s (operator op k new old right)
change_by s t (change.Move back) new old right = here s (Advance back (size s (pointee t)) new old right)

-- All of the change was made, where its right side is a constant that its operation takes. Else nothing was made, and the right
-- side has to be found.
abbrev pub ByConstant : Spot → Ty → Change → Coded → (new old : ℕ) → (before after : List Operation) → Bool → Type 0
ByConstant s t how c new old before after true = (to : ℕ) → after ≡ before ++ change_code s t how c new old to
ByConstant s t how c new old before after false =
    (after ≡ before) × ((to : ℕ) → change_code s t how c new old to ≡ operand_code c to ++ change_by s t how new old (operand_slot c to))

-- a variable is read where it stands, unless the right side may change it
abbrev pub opens_home : Spot → Ty → Coded → (home to : ℕ) → List Operation
opens_home s t c home to = if c.keeps then [] else copies s.line (to + 1) home (words s t)

abbrev pub home_old : Coded → (home to : ℕ) → ℕ
home_old c home to = if c.keeps then home else to + 1

-- any other place is read
abbrev pub opens_stored : Spot → Ty → Change → Where → (to : ℕ) → List Operation
opens_stored s t how at to = read_code s t at (to + 1) ++ before_change s t how (to + 1)

abbrev pub opens : Spot → Ty → Change → Coded → Where → (to : ℕ) → List Operation
opens s t how c at to = elim (changed_home t how at) [ Some home ↦ opens_home s t c home to | None ↦ opens_stored s t how at to ]

-- where the new value comes to stand, and the old one stands
abbrev pub new_slot : Ty → Change → Where → (to : ℕ) → ℕ
new_slot t how at to = unwrap_or (changed_home t how at) (to + 1)

abbrev pub old_slot : Ty → Change → Coded → Where → (to : ℕ) → ℕ
old_slot t how c at to = elim (changed_home t how at) [ Some home ↦ home_old c home to | None ↦ to + 1 ]

-- the new value goes to its place, where it does not stand there
abbrev pub closes_stored : Spot → Ty → Change → Where → (new : ℕ) → List Operation
closes_stored s t how at new = behind_change s t how new ++ save_code s t at new

abbrev pub closes : Spot → Ty → Change → Where → (new : ℕ) → List Operation
closes s t how at new = elim (changed_home t how at) [ Some home ↦ [] | None ↦ closes_stored s t how at new ]
