use Rattle.std.proofs.Common.{◌≡◌, ◌++◌, refl, sym, ap, ◌∙◌}
use Rattle.al_lower_code.specs.Coded.{Coded}
use Rattle.al_lower_code.specs.Moving.{home_of}
use Rattle.al_lower_code.specs.Expressions.{placed}
use Rattle.al_lower_base.specs.Spots.{spot_of}
use Rattle.al_lower_forms.specs.Steps.{wanted}
use Rattle.al_lower_forms.proofs.Stepping.{in_slots}
use Rattle.al_lower_forms.proofs.steps.step_slots.Goals as goal

pub returns-in_ok-step_in-in-Some : goal.returns-in_ok-step_in-in-Some
returns-in_ok-step_in-in-Some c =
    c.in_ok-step_in-in-Some.ensures
    ∙ ap (λ (x : Coded). c.args.code.now ++ wanted x c.args.dest c.args.to)
    (in_slots (spot_of c.args.s) c.args.ty.now c.args.how (placed (spot_of c.args.s) c.args.x.now) c.in-Some.home (ap home_of (sym c.in_ok-place_at.ensures) ∙ sym c.home_of.ensures ∙ c.in-Some.is))

pub returns-in-None : goal.returns-in-None
returns-in-None c = (refl, ap home_of (sym c.in_ok-place_at.ensures) ∙ sym c.home_of.ensures ∙ c.in-None.is)
