use Rattle.std.proofs.Common.{◌≡◌, None, IfOk, refl, sym, ◌∙◌}
use Rattle.al_lower_base.specs.Spots.{spot_of}
use Rattle.al_lower_code.specs.Coded.{Coded}
use Rattle.al_lower_code.specs.Expressions.{coded}
use Rattle.al_meaning.specs.Shown.{kind_of}
use Rattle.al_lower_operands.proofs.ByForm.{by_unary, by_conversion, by_sign}
use Rattle.al_lower_operands.proofs.Plain.{complement_known}
use Rattle.al_lower_operands.proofs.Rest.{known-rest}
use Rattle.al_lower_operands.proofs.constants.+known.Goals as goal

pub known-returns-in-Unary : goal.known-returns-in-Unary
known-returns-in-Unary t c =
    by_unary (λ (x : Coded). IfOk c.unary_known.result (λ k. k ≡ x.known)) (spot_of c.args.s) c.args.e.now _ _ _ _ _ c.in_ok-bits.ensures c.in-None.is c.in-Unary.is c.get.ensures c.unary_known.ensures

pub known-returns-in-Cast : goal.known-returns-in-Cast
known-returns-in-Cast t c =
    by_conversion (λ (x : Coded). IfOk c.converted_known.result (λ k. k ≡ x.known)) (spot_of c.args.s) c.args.e.now _ _ _ _ c.in_ok-bits.ensures c.in-None.is c.in-Cast.is c.get-in-Cast.ensures c.converted_known.ensures

pub known-returns-in_default : goal.known-returns-in_default
known-returns-in_default t c =
    sym (known-rest (spot_of c.args.s) c.args.e.now (sym c.in_ok-bits.ensures ∙ c.in-None.is) c.in_default.not-Unary c.in_default.not-Cast c.in_default.not-Convert)

pub unary_known-returns-in-Minus : goal.unary_known-returns-in-Minus
unary_known-returns-in-Minus t c =
    by_sign (λ (x : Coded). None ≡ x.known) (spot_of c.args.s) c.args.ty.now c.args.op (coded (spot_of c.args.s) c.args.of.now) c.in-Minus.is refl (sym (complement_known (spot_of c.args.s) c.args.ty.now (kind_of c.args.ty.now) (coded (spot_of c.args.s) c.args.of.now)))
