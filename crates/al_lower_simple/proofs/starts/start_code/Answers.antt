use Rattle.std.proofs.Common.{◌≡◌, ◌++◌, List, OnOk, sym, ap, ◌∙◌, subst}
use Rattle.al_ir.specs.declared.ir.Operation.{Operation}
use Rattle.al_typed.specs.declared.expression.TExpr.{TExpr}
use Rattle.al_lower_base.specs.Spots.{spot_of}
use Rattle.al_lower_code.specs.Simple.{start_code}
use Rattle.al_lower_simple.proofs.Calls.{start_code-Call}
use Rattle.al_lower_simple.proofs.starts.start_code.Goals as goal

pub returns-in-Call : goal.returns-in-Call
returns-in-Call c =
    subst (λ (ops : List Operation). OnOk c.arguments.result (c.arguments.new.code ≡ c.args.code.now ++ ops))
    (sym (ap (λ (e : TExpr). start_code (spot_of c.args.s) e c.args.to) c.in-Call.is
    ∙ start_code-Call (spot_of c.args.s) c.in-Call.ty c.in-Call.function c.in-Call.receiver c.in-Call.row c.args.to))
    c.arguments.ensures
