use Rattle.std.proofs.Common.{◌∙◌, ap, ap₂, map}
use Rattle.al_lower_code.specs.Homes.{at_line}
use Rattle.al_lower_code.specs.Heads.{switch_head}
use Rattle.al_lower_base.specs.Spots.{spot_of}
use Rattle.al_lower_heads.specs.Cases.{case_of}
use Rattle.al_lower_stmt.proofs.Joined.{one}
use Rattle.al_lower_stmt.proofs.statements.cases_head.Goals as goal

pub returns : goal.returns
returns c =
    one c.switch_head.result _ _ _ _ c.switch_head.ensures
    (ap₂ (switch_head (at_line c.args.line (spot_of c.args.s)) c.args.e.now) (ap (map case_of) c.as_slice.ensures.value ∙ c.in_ok-places.ensures) c.in_ok-other.ensures)
