use Rattle.std.proofs.Common.{◌∙◌, ap}
use Rattle.al_lower_code.specs.Homes.{at_line}
use Rattle.al_lower_code.specs.Heads.{alt_head}
use Rattle.al_lower_base.specs.Spots.{spot_of}
use Rattle.al_lower_heads.specs.Cases.{communications}
use Rattle.al_lower_stmt.proofs.Joined.{one}
use Rattle.al_lower_stmt.proofs.statements.talks_head.Goals as goal

pub returns : goal.returns
returns c =
    one c.alt_head.result _ _ _ _ c.alt_head.ensures
    (ap (alt_head (at_line c.args.line (spot_of c.args.s)) (communications c.args.body.now)) (c.as_slice.ensures.value ∙ c.in_ok-places.ensures))
