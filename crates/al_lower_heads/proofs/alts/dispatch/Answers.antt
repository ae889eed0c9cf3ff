use Rattle.std.proofs.Common.{arith}
use Rattle.al_lower_base.specs.Spots.{spot_of}
use Rattle.al_lower_heads.proofs.Dispatching.{tested_more}
use Rattle.al_lower_heads.proofs.alts.dispatch.Goals as goal

pub loop-k-preserved : goal.loop-k-preserved
loop-k-preserved c =
    rw (c.in_ok-tested_case.ensures, c.in_ok-number.ensures)
    (tested_more (spot_of c.args.s) c.args.cases.now c.loop-k.k c.index-cases-k.result c.args.bodies.now c.loop-k.number c.args.branch c.args.got c.args.free
    c.loop-k.code _ c.loop-k-test.true c.index-cases-k.is (omega (arith, c.if-k-bodies.false)) (omega (arith, c.if-k-cases.false, c.loop-k-test.true))
    c.loop-k.invariant)
