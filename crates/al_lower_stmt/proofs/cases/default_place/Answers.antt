use Rattle.std.proofs.Common.{arith, sym, ◌∙◌}
use Rattle.al_lower_base.specs.Spots.{spot_of}
use Rattle.al_lower_stmt.proofs.InBodies.{default_more, default_here, default_done}
use Rattle.al_lower_stmt.proofs.cases.default_place.Goals as goal

pub loop-a-preserved : goal.loop-a-preserved
loop-a-preserved c =
    rw (c.in_ok-at.ensures, c.in_ok-stmt_size.ensures)
    (default_more (spot_of c.args.s) c.args.body.now c.loop-a.a-index c.a-item.result c.loop-a.at _ c.loop-a-test.true c.a-item.is
    (sym c.is_default.ensures ∙ c.if-is_default.false) c.loop-a.invariant)

pub returns-then-is_default : goal.returns-then-is_default
returns-then-is_default c =
    default_here (spot_of c.args.s) c.args.body.now c.loop-a.a-index c.a-item.result c.loop-a.at _ c.loop-a-test.true c.a-item.is
    (sym c.is_default.ensures ∙ c.if-is_default.true) c.loop-a.invariant

pub returns : goal.returns
returns c =
    default_done (spot_of c.args.s) c.args.body.now c.loop-a.a-index c.loop-a.at _ (omega (arith, c.loop-a-test.false)) c.loop-a.invariant
