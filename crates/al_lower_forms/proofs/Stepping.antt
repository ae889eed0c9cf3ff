-- Variables that are changed in their slots.
use Rattle.std.proofs.Common.{◌≡◌, ℕ, ◌+◌, Bool, true, false, if◌then◌else◌, List, ◌++◌, Option, Some, None, sym, ap, subst}
use Rattle.al_typed.specs.declared.ty.Ty.{Ty}
use Rattle.al_ir.specs.declared.ir.Operation.{Operation}
use Rattle.al_lower_code.specs.Homes.{Spot, words}
use Rattle.al_lower_code.specs.Moving.{home_of}
use Rattle.al_lower_code.specs.Coded.{Coded, Placed}
use Rattle.al_lower_code.specs.Actions.{changing, gives_old, steps_variable, steps_place, stepped_coded, clears_variable, clears_place, zerox_coded}
use Rattle.al_lower_forms.specs.declared.steps.Step.{Step}
use Rattle.al_lower_forms.specs.declared.steps.Step.TheVariants as step
use Rattle.al_lower_forms.specs.Steps.{stepped, in_variable, wanted, InSlots}

pub in_slots : (s : Spot) (t : Ty) (how : Step) (pl : Placed) (home : ℕ) → home_of (pl.at false 0) ≡ Some home → in_variable s t how home ≡ stepped s t how pl
in_slots s t (step.By op) pl home h = sym (ap (λ (found : Option ℕ). elim found as (λ (_ : Option ℕ). Coded) [ Some h ↦ steps_variable s t op h | None ↦ changing s t (λ to. steps_place s t op pl (if gives_old op then to + 1 + words s t else to + 1) to) (λ to. to + 1) ]) h)
in_slots s t step.Clear pl home h = sym (ap (λ (found : Option ℕ). elim found as (λ (_ : Option ℕ). Coded) [ Some h ↦ clears_variable s t h | None ↦ changing s t (clears_place s t pl) (λ to. to + 1) ]) h)

pub is_stepped : (s : Spot) (t : Ty) (how : Step) (pl : Placed) (dest : Option ℕ) (to : ℕ) (before after : List Operation) (done : Bool) → InSlots s t how pl dest to before after done → done ≡ true
    → after ≡ before ++ wanted (stepped s t how pl) dest to
is_stepped s t how pl dest to before after done made is = subst (InSlots s t how pl dest to before after) is made

pub not_stepped : (s : Spot) (t : Ty) (how : Step) (pl : Placed) (dest : Option ℕ) (to : ℕ) (before after : List Operation) (done : Bool) → InSlots s t how pl dest to before after done → done ≡ false
    → (after ≡ before) × (home_of (pl.at false 0) ≡ None)
not_stepped s t how pl dest to before after done made is = subst (InSlots s t how pl dest to before after) is made
