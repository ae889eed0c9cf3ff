-- Values that go to places which have been found, and the slots where they stand then.
use Rattle.std.specs.Prelude.{ℕ, ◌+◌, List, ◌++◌, Option, Some, None, unwrap_or}
use Rattle.al_typed.specs.declared.ty.Ty.{Ty}
use Rattle.al_typed.specs.declared.expression.Change.{Change}
use Rattle.al_ir.specs.declared.ir.Operation.{Operation}
use Rattle.al_lower_code.specs.Homes.{Spot}
use Rattle.al_lower_code.specs.Moving.{Where, home_of, save_code}
use Rattle.al_lower_code.specs.Coded.{Coded, Aimed, operand_slot, operand_code}
use Rattle.al_lower_code.specs.Actions.{assigned_slot, changed_home, updates_home, updates_place}
use Rattle.al_lower_forms.specs.Steps.{kept}
use Rattle.al_lower_forms.specs.Updates.{new_slot}

-- straight into a variable's slots
abbrev pub stores : Spot → Ty → Where → Coded → (to : ℕ) → List Operation
stores s t at c to = elim (home_of at) [ Some home ↦ c.value home (to + 1) | None ↦ operand_code c (to + 1) ++ save_code s t at (operand_slot c (to + 1)) ]

abbrev pub stored_slot : Where → Coded → (to : ℕ) → ℕ
stored_slot at c to = unwrap_or (home_of at) (operand_slot c (to + 1))

-- where the value of an assignment stands
abbrev pub value_slot : Aimed → Coded → (to : ℕ) → ℕ
value_slot target c to = elim target.single [ Some pl ↦ assigned_slot pl c to | None ↦ to + target.count ]

-- `op=` on what stands at a place, and the new value where it is wanted
abbrev pub updates_at : Spot → Ty → Change → Coded → Where → (dest : Option ℕ) → (to : ℕ) → List Operation
updates_at s t how c at dest to =
    elim (changed_home t how at) [ Some home ↦ updates_home s t how c home to | None ↦ updates_place s t how c at to ]
    ++ kept s t dest (new_slot t how at to)
