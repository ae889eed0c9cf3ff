use Rattle.std.proofs.Common.{IfOk, sym, subst}
use Rattle.al_typed.specs.declared.expression.Change.{Change}
use Rattle.al_lower_code.specs.Expressions.{coded}
use Rattle.al_lower_base.specs.Spots.{spot_of}
use Rattle.al_lower_forms.specs.Updates.{ByConstant}
use Rattle.al_lower_forms.proofs.updates.change_constant.Goals as goal

pub returns-in-Apply : goal.returns-in-Apply
returns-in-Apply c =
    subst (λ (how : Change). IfOk c.apply_constant.result (λ done. ByConstant (spot_of c.args.s) c.args.ty.now how (coded (spot_of c.args.s) c.args.e.now) c.args.new c.args.old c.args.code.now c.apply_constant.new.code done))
    (sym c.in-Apply.is) (c.apply_constant.ensures c.args.ty.now)
