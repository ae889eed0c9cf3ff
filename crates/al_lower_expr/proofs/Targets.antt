-- Targets in a row, and the operations of an assignment by its target.
use Rattle.std.proofs.Common.{◌≡◌, ℕ, ◌+◌, ◌<◌, ◌≤◌, List, [], ◌∷◌, ◌++◌, drop, length, get_or, Option, Some, None, refl, sym, ap}
use Rattle.al_typed.specs.declared.ty.Ty.{Ty}
use Rattle.al_typed.specs.declared.expression.TTarget.{TTarget}
use Rattle.al_ir.specs.declared.ir.Operation.{Operation}
use Rattle.al_lower_code.specs.Homes.{Spot, words}
use Rattle.al_lower_code.specs.Moving.{moves}
use Rattle.al_lower_code.specs.Coded.{Coded, Placed, Aimed}
use Rattle.al_lower_code.specs.Actions.{changing, assigns_one, assigned_slot, assigns_parts, assign_coded}
use Rattle.al_lower_code.specs.Expressions.{aimed}
use Rattle.al_lower_operands.specs.Rows.{aimed_of}
use Rattle.al_lower_operands.proofs.InRows.{targets_at, targets_end}
use Rattle.al_lower_parts.proofs.InTargets.{more, done}
use Rattle.al_lower_expr.specs.Stored.{value_slot}

pub aims_more : (s : Spot) (xs : List TTarget) (i : ℕ) (x : TTarget) (to : ℕ) (out all : List Operation) → i < length xs → x ≡ get_or xs i x
    → out ++ (aimed_of s (drop i xs)).code to ≡ all
    → (out ++ (aimed s x).code to) ++ (aimed_of s (drop (i + 1) xs)).code (to + (aimed s x).count) ≡ all
aims_more s xs i x to out all h is = more out _ _ all _ (ap (λ (a : Aimed). a.code to) (targets_at s xs i x h is))

pub aims_done : (s : Spot) (xs : List TTarget) (i to : ℕ) (out all : List Operation) → length xs ≤ i → out ++ (aimed_of s (drop i xs)).code to ≡ all → out ≡ all
aims_done s xs i to out all h = done out all _ (ap (λ (a : Aimed). a.code to) (targets_end s xs i h))

-- ---- assignments

pub row_has_no_single : (s : Spot) (xs : List TTarget) → (aimed_of s xs).single ≡ None
row_has_no_single s [] = refl
row_has_no_single s (x ∷ xs) = refl

value_by : (s : Spot) (t : Ty) (target : Aimed) (c : Coded) (dest to : ℕ) (single : Option Placed)
    → (assign_coded s t (record target { single = single }) c).effect to ++ moves s.line dest (value_slot (record target { single = single }) c to) (words s t)
    ≡ (assign_coded s t (record target { single = single }) c).value dest to
value_by s t target c dest to (Some pl) = refl
value_by s t target c dest to None = refl

-- its value is its effect, and a copy of what was assigned
pub assigned_value : (s : Spot) (t : Ty) (target : Aimed) (c : Coded) (dest to : ℕ)
    → (assign_coded s t target c).effect to ++ moves s.line dest (value_slot target c to) (words s t) ≡ (assign_coded s t target c).value dest to
assigned_value s t target c dest to = value_by s t target c dest to target.single

abbrev effect_by : Spot → Ty → Aimed → Coded → (to : ℕ) → Option Placed → List Operation
effect_by s t target c to single =
    (elim single as (λ (_ : Option Placed). Coded) [ Some pl ↦ changing s t (assigns_one s t pl c) (assigned_slot pl c) | None ↦ changing s t (assigns_parts target c) (λ to. to + target.count) ]).effect to

pub parts_assigned : (s : Spot) (t : Ty) (target : Aimed) (c : Coded) (to : ℕ) → target.single ≡ None → assigns_parts target c to ≡ (assign_coded s t target c).effect to
parts_assigned s t target c to h = sym (ap (effect_by s t target c to) h)

abbrev slot_by : Aimed → Coded → (to : ℕ) → Option Placed → ℕ
slot_by target c to single = elim single as (λ (_ : Option Placed). ℕ) [ Some pl ↦ assigned_slot pl c to | None ↦ to + target.count ]

pub parts_slot : (target : Aimed) (c : Coded) (to : ℕ) → target.single ≡ None → to + target.count ≡ value_slot target c to
parts_slot target c to h = sym (ap (slot_by target c to) h)
