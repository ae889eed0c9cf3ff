use Rattle.std.proofs.Common.{◌≡◌, ◌++◌, OnOk, List, ap₂, subst}
use Rattle.al_typed.specs.declared.ty.Ty.{Ty}
use Rattle.al_ir.specs.declared.ir.Operation.{Operation}
use Rattle.al_lower_code.specs.Moving.{Where, save_code}
use Rattle.al_lower_base.specs.Spots.{spot_of}
use Rattle.al_lower_parts.proofs.targets.save_place.Goals as goal

pub returns : goal.returns
returns c =
    subst (λ (ops : List Operation). OnOk c.save.result (c.save.new.code ≡ c.args.code.now ++ ops))
    (ap₂ (λ (t : Ty) (w : Where). save_code (spot_of c.args.s) t w c.args.from) c.ty.ensures c.in_ok-at.ensures) c.save.ensures
