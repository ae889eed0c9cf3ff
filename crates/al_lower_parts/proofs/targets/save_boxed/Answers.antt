use Rattle.std.proofs.Common.{◌≡◌, ◌++◌, OnOk, subst}
use Rattle.al_typed.specs.declared.expression.TPlace.{TPlace}
use Rattle.al_typed.specs.Typed.{place_type}
use Rattle.al_lower_code.specs.Actions.{single_aimed}
use Rattle.al_lower_code.specs.Expressions.{placed}
use Rattle.al_lower_base.specs.Spots.{spot_of}
use Rattle.al_lower_parts.proofs.targets.save_boxed.Goals as goal

pub returns : goal.returns
returns c =
    subst (λ (x : TPlace). OnOk c.save_place.result (c.save_place.new.code ≡ c.args.code.now ++ (single_aimed (spot_of c.args.s) (place_type x) (placed (spot_of c.args.s) x)).save c.args.to c.args.from))
    c.get.ensures c.save_place.ensures
