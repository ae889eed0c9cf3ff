use Rattle.std.proofs.Common.{arith}
use Rattle.al_lower_base.specs.Spots.{spot_of}
use Rattle.al_lower_base.proofs.Converting.{done_from, done_into, one_converted}
use Rattle.al_lower_base.proofs.conversions.+convert.Goals as goal

pub convert_parts-returns-then-i-into : goal.convert_parts-returns-then-i-into
convert_parts-returns-then-i-into t c =
    done_into (spot_of c.args.s) c.args.from.now c.args.into.now c.loop-i.i c.loop-i.slot c.loop-i.old c.loop-i.code _
    (omega (arith, c.if-i-into.true)) c.loop-i.invariant

pub convert_parts-loop-i-preserved : goal.convert_parts-loop-i-preserved
convert_parts-loop-i-preserved t c =
    rw (c.in_ok-convert.ensures, c.in_ok-slot.ensures, c.in_ok-old.ensures, c.in_ok-words.ensures, c.in_ok-words-2.ensures)
    (one_converted (spot_of c.args.s) c.args.from.now c.args.into.now c.loop-i.i c.index-from-i.result c.index-into-i.result c.loop-i.slot c.loop-i.old c.loop-i.code _
    c.loop-i-test.true c.index-from-i.is (omega (arith, c.if-i-into.false)) c.index-into-i.is c.loop-i.invariant)

pub convert_parts-returns : goal.convert_parts-returns
convert_parts-returns t c =
    done_from (spot_of c.args.s) c.args.from.now c.args.into.now c.loop-i.i c.loop-i.slot c.loop-i.old c.loop-i.code _
    (omega (arith, c.loop-i-test.false)) c.loop-i.invariant
