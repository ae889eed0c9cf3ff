use Rattle.std.proofs.Common.{◌≡◌, sym, ap, ◌∙◌}
use Rattle.al_typed.specs.declared.ty.Ty.{Ty}
use Rattle.al_lower_code.specs.Operators.{stays}
use Rattle.al_lower_forms.proofs.SameParts.{same_sign, same_change, changes, signs, same-rest}
use Rattle.al_lower_forms.proofs.same.same_part.Goals as goal

pub returns-in-Plus-clause-same : goal.returns-in-Plus-clause-same
returns-in-Plus-clause-same c = same_sign _ _ _ _ _ c.in-Unary.is c.in-Plus.is c.get.ensures

pub returns-in-Minus-clause-none : goal.returns-in-Minus-clause-none
returns-in-Minus-clause-none c = signs _ _ _ _ c.in-Unary.is c.in-Minus.is

pub returns-then-stays-clause-same : goal.returns-then-stays-clause-same
returns-then-stays-clause-same c =
    same_change _ _ _ _ c.in-Cast.is (ap (λ (t : Ty). stays t c.in-Cast.ty) (sym c.ty.ensures) ∙ sym c.stays.ensures ∙ c.if-stays.true) c.get-of.ensures

pub returns-else-stays-clause-none : goal.returns-else-stays-clause-none
returns-else-stays-clause-none c =
    changes _ _ _ _ c.in-Cast.is (ap (λ (t : Ty). stays t c.in-Cast.ty) (sym c.ty.ensures) ∙ sym c.stays.ensures ∙ c.if-stays.false) c.get-of.ensures

pub returns-in_default-clause-none : goal.returns-in_default-clause-none
returns-in_default-clause-none c = same-rest _ c.in_default.not-Unary c.in_default.not-Cast c.in_default.not-Convert
