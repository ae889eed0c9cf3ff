-- Changes by right sides that are constants, and by others.
use Rattle.std.proofs.Common.{◌≡◌, ℕ, Bool, true, false, List, ◌++◌, Option, Some, None, refl, subst}
use Rattle.al_base.specs.declared.arith.Kind.{Kind}
use Rattle.al_typed.specs.declared.ty.Ty.{Ty}
use Rattle.al_typed.specs.declared.expression.BinaryOp.{BinaryOp}
use Rattle.al_typed.specs.declared.expression.Change.{Change}
use Rattle.al_typed.specs.declared.expression.Change.TheVariants as change
use Rattle.al_meaning.specs.Here.{pointee}
use Rattle.al_ir.specs.declared.ir.Operation.{Operation}
use Rattle.al_ir.specs.declared.op.Op.TheVariants.{Offset, Advance}
use Rattle.al_lower_code.specs.Homes.{Spot, size, here}
use Rattle.al_lower_code.specs.Operators.{operator, operator_by, step_bytes}
use Rattle.al_lower_code.specs.Coded.{Coded, operand_code, operand_slot}
use Rattle.al_lower_code.specs.Values.{constant_right}
use Rattle.al_lower_code.specs.Actions.{change_code}
use Rattle.al_lower_forms.specs.Updates.{ByConstant, change_by}

pub applies : (s : Spot) (t : Ty) (op : BinaryOp) (k : Kind) (c : Coded) (new old : ℕ) (found : Option ℕ) → found ≡ constant_right op k c → (to : ℕ)
    → change_code s t (change.Apply op k) c new old to
    ≡ elim found as (λ (_ : Option ℕ). List Operation) [ Some bits ↦ here s (operator_by op k new old bits) | None ↦ operand_code c to ++ here s (operator op k new old (operand_slot c to)) ]
applies s t op k c new old found is to = rw is refl

pub moves : (s : Spot) (t : Ty) (back : Bool) (c : Coded) (new old : ℕ) (found : Option ℕ) → found ≡ c.known → (to : ℕ)
    → change_code s t (change.Move back) c new old to
    ≡ elim found as (λ (_ : Option ℕ). List Operation) [ Some n ↦ here s (Offset new old (step_bytes back (size s (pointee t)) n)) | None ↦ operand_code c to ++ here s (Advance back (size s (pointee t)) new old (operand_slot c to)) ]
moves s t back c new old found is to = rw is refl

-- ---- what was made, by whether all was

pub all_made : (s : Spot) (t : Ty) (how : Change) (c : Coded) (new old : ℕ) (before after : List Operation) (done : Bool) → ByConstant s t how c new old before after done → done ≡ true → (to : ℕ)
    → after ≡ before ++ change_code s t how c new old to
all_made s t how c new old before after done made is = subst (ByConstant s t how c new old before after) is made

pub none_made : (s : Spot) (t : Ty) (how : Change) (c : Coded) (new old : ℕ) (before after : List Operation) (done : Bool) → ByConstant s t how c new old before after done → done ≡ false
    → after ≡ before
none_made s t how c new old before after done made is = (subst (ByConstant s t how c new old before after) is made).0

pub left_to_make : (s : Spot) (t : Ty) (how : Change) (c : Coded) (new old : ℕ) (before after : List Operation) (done : Bool) → ByConstant s t how c new old before after done → done ≡ false → (to : ℕ)
    → change_code s t how c new old to ≡ operand_code c to ++ change_by s t how new old (operand_slot c to)
left_to_make s t how c new old before after done made is = (subst (ByConstant s t how c new old before after) is made).1
