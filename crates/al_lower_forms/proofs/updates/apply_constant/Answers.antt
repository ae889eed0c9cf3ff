use Rattle.std.proofs.Common.{◌≡◌, List, ◌++◌, refl, sym, ap, ◌∙◌}
use Rattle.al_ir.specs.declared.ir.Operation.{Operation}
use Rattle.al_ir.specs.declared.op.Op.{Op}
use Rattle.al_lower_code.specs.Homes.{here}
use Rattle.al_lower_code.specs.Expressions.{coded}
use Rattle.al_lower_base.specs.Spots.{spot_of}
use Rattle.al_lower_forms.proofs.ByConstants.{applies}
use Rattle.al_lower_forms.proofs.updates.apply_constant.Goals as goal

pub returns-in_ok-push-in-Some : goal.returns-in_ok-push-in-Some
returns-in_ok-push-in-Some c = λ t to.
    c.in_ok-push-in-Some.ensures
    ∙ ap (λ (op : Op). c.args.code.now ++ here (spot_of c.args.s) op) c.operator_by.ensures
    ∙ ap (λ (ops : List Operation). c.args.code.now ++ ops) (sym (applies (spot_of c.args.s) t c.args.op c.args.kind (coded (spot_of c.args.s) c.args.e.now) c.args.new c.args.old _ (sym c.in-Some.is ∙ c.in_ok-word.ensures) to))

pub returns-in-None : goal.returns-in-None
returns-in-None c = λ t. (refl, λ to. applies (spot_of c.args.s) t c.args.op c.args.kind (coded (spot_of c.args.s) c.args.e.now) c.args.new c.args.old _ (sym c.in-None.is ∙ c.in_ok-word.ensures) to)
