use Rattle.std.proofs.Common.{arith}
use Rattle.al_lower_base.specs.Spots.{spot_of}
use Rattle.al_lower_stmt.proofs.InBodies.{cases_more, cases_done}
use Rattle.al_lower_stmt.proofs.cases.case_places.Goals as goal

pub loop-a-preserved : goal.loop-a-preserved
loop-a-preserved c =
    rw (c.in_ok-add_case.ensures, c.in_ok-at.ensures, c.in_ok-stmt_size.ensures)
    (cases_more (spot_of c.args.s) c.args.body.now c.loop-a.a-index c.a-item.result c.loop-a.at _ _ c.loop-a-test.true c.a-item.is c.loop-a.invariant)

pub returns : goal.returns
returns c =
    cases_done (spot_of c.args.s) c.args.body.now c.loop-a.a-index c.loop-a.at _ _ (omega (arith, c.loop-a-test.false)) c.loop-a.invariant
