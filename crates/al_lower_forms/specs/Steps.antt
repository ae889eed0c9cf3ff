-- `++`, `--` and zerox, on variables and on what stands elsewhere.
use Rattle.std.specs.Prelude.{ℕ, ◌+◌, ◌≡◌, Bool, true, false, if◌then◌else◌, List, [], ◌++◌, Option, Some, None}
use Rattle.al_typed.specs.declared.ty.Ty.{Ty}
use Rattle.al_typed.specs.declared.expression.StepOp.{StepOp}
use Rattle.al_ir.specs.declared.ir.Operation.{Operation}
use Rattle.al_lower_code.specs.Homes.{Spot, words}
use Rattle.al_lower_code.specs.Moving.{Where, home_of, moves}
use Rattle.al_lower_code.specs.Coded.{Coded, Placed}
use Rattle.al_lower_code.specs.Actions.{gives_old, steps_variable, clears_variable, stepped_coded, zerox_coded}
use Rattle.al_lower_parts.specs.Parts.{steps_at, clears_at}
use Rattle.al_lower_forms.specs.declared.steps.Step.{Step}
use Rattle.al_lower_forms.specs.declared.steps.Step.TheVariants as step

-- the value of an expression where it is wanted; else what it does
abbrev pub wanted : Coded → (dest : Option ℕ) → (to : ℕ) → List Operation
wanted c (Some dest) to = c.value dest to
wanted c None to = c.effect to

-- a value that stands in slots, where it is wanted
abbrev pub kept : Spot → Ty → (dest : Option ℕ) → (slot : ℕ) → List Operation
kept s t (Some dest) slot = moves s.line dest slot (words s t)
kept s t None slot = []

abbrev pub stepped : Spot → Ty → Step → Placed → Coded
stepped s t (step.By op) pl = stepped_coded s t op pl
stepped s t step.Clear pl = zerox_coded s t pl

abbrev pub in_variable : Spot → Ty → Step → (home : ℕ) → Coded
in_variable s t (step.By op) home = steps_variable s t op home
in_variable s t step.Clear home = clears_variable s t home

-- through which slots the new value goes to a place: those of the old one, or those behind it
abbrev pub stepped_slot : Spot → Ty → StepOp → (to : ℕ) → ℕ
stepped_slot s t op to = if gives_old op then to + 1 + words s t else to + 1

-- what stands at a place is read, and changed there
abbrev pub step_at : Spot → Ty → Step → Where → (to : ℕ) → List Operation
step_at s t (step.By op) at to = steps_at s t op at (stepped_slot s t op to) to
step_at s t step.Clear at to = clears_at s t at to

-- All was made, where the place is a variable in slots. Else nothing was made.
abbrev pub InSlots : Spot → Ty → Step → Placed → (dest : Option ℕ) → (to : ℕ) → (before after : List Operation) → Bool → Type 0
InSlots s t how pl dest to before after true = after ≡ before ++ wanted (stepped s t how pl) dest to
InSlots s t how pl dest to before after false = (after ≡ before) × (home_of (pl.at false 0) ≡ None)
