use Rattle.std.proofs.Common.{◌≡◌, false, IfOk, refl, sym, ◌∙◌}
use Rattle.al_lower_base.specs.Spots.{spot_of}
use Rattle.al_lower_code.specs.Coded.{Coded}
use Rattle.al_lower_code.specs.Expressions.{coded}
use Rattle.al_meaning.specs.Shown.{kind_of}
use Rattle.al_lower_operands.proofs.ByForm.{by_unary, by_conversion, by_sign}
use Rattle.al_lower_operands.proofs.Plain.{complement_is_truth}
use Rattle.al_lower_operands.proofs.Rest.{is_truth-rest}
use Rattle.al_lower_operands.proofs.constants.+truths.Goals as goal

pub is_truth-returns-in-Unary : goal.is_truth-returns-in-Unary
is_truth-returns-in-Unary t c =
    by_unary (λ (x : Coded). IfOk c.unary_is_truth.result (λ k. k ≡ x.is_truth)) (spot_of c.args.s) c.args.e.now _ _ _ _ _ c.in_ok-folded.ensures c.in-None.is c.in-Unary.is c.get.ensures c.unary_is_truth.ensures

pub is_truth-returns-in-Cast : goal.is_truth-returns-in-Cast
is_truth-returns-in-Cast t c =
    by_conversion (λ (x : Coded). IfOk c.converted_is_truth.result (λ k. k ≡ x.is_truth)) (spot_of c.args.s) c.args.e.now _ _ _ _ c.in_ok-folded.ensures c.in-None.is c.in-Cast.is c.get-in-Cast.ensures c.converted_is_truth.ensures

pub is_truth-returns-in_default : goal.is_truth-returns-in_default
is_truth-returns-in_default t c =
    sym (is_truth-rest (spot_of c.args.s) c.args.e.now (sym c.in_ok-folded.ensures ∙ c.in-None.is) c.in_default.not-Not c.in_default.not-Logical c.in_default.not-CanReceive c.in_default.not-CanSend c.in_default.not-Binary c.in_default.not-Unary c.in_default.not-Cast c.in_default.not-Convert)

pub unary_is_truth-returns-in-Minus : goal.unary_is_truth-returns-in-Minus
unary_is_truth-returns-in-Minus t c =
    by_sign (λ (x : Coded). false ≡ x.is_truth) (spot_of c.args.s) c.args.ty.now c.args.op (coded (spot_of c.args.s) c.args.of.now) c.in-Minus.is refl (sym (complement_is_truth (spot_of c.args.s) c.args.ty.now (kind_of c.args.ty.now) (coded (spot_of c.args.s) c.args.of.now)))
