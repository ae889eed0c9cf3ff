use Rattle.std.proofs.Common.{◌≡◌, List, ◌++◌, refl, sym, ap, ◌∙◌}
use Rattle.al_ir.specs.declared.ir.Operation.{Operation}
use Rattle.al_ir.specs.declared.op.Op.TheVariants.{Offset}
use Rattle.al_lower_code.specs.Homes.{here}
use Rattle.al_lower_code.specs.Operators.{step_bytes}
use Rattle.al_lower_code.specs.Expressions.{coded}
use Rattle.al_lower_base.specs.Spots.{spot_of}
use Rattle.al_lower_forms.proofs.ByConstants.{moves}
use Rattle.al_lower_forms.proofs.updates.move_constant.Goals as goal

pub returns-in_ok-offset-in-Some : goal.returns-in_ok-offset-in-Some
returns-in_ok-offset-in-Some c = λ to.
    c.in_ok-offset-in-Some.ensures
    ∙ ap (λ size. c.args.code.now ++ here (spot_of c.args.s) (Offset c.args.new c.args.old (step_bytes c.args.back size c.in-Some.count))) c.in_ok-size-in-Some.ensures
    ∙ ap (λ (ops : List Operation). c.args.code.now ++ ops) (sym (moves (spot_of c.args.s) c.args.ty.now c.args.back (coded (spot_of c.args.s) c.args.e.now) c.args.new c.args.old _ (sym c.in-Some.is ∙ c.in_ok-count.ensures) to))

pub returns-in-None : goal.returns-in-None
returns-in-None c = (refl, λ to. moves (spot_of c.args.s) c.args.ty.now c.args.back (coded (spot_of c.args.s) c.args.e.now) c.args.new c.args.old _ (sym c.in-None.is ∙ c.in_ok-count.ensures) to)
