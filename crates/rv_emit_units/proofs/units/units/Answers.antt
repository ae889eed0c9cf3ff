use Rattle.std.proofs.Common.{◌++◌, ◌+◌, ◌-◌, arith}
use Rattle.rv_form.specs.Units.{unit_code, units_code}
use Rattle.rv_emit_units.specs.Ways.{way_of}
use Rattle.rv_emit_units.proofs.Rounds.{one_round, units_splits}
use Rattle.rv_emit_units.proofs.units.units.Goals as goal

pub loop-left-preserved : goal.loop-left-preserved
loop-left-preserved c =
    record {
      offsets = omega arith;
      words = omega (arith, c.loop-left.invariant.words);
      code =
          one_round c.loop-left.code.items (unit_code (way_of c.args.way) c.args.size 10 c.loop-left.at c.loop-left.word) c.unit.new.code.items
          (units_code (way_of c.args.way) c.args.size c.loop-left.at c.loop-left.word c.loop-left.left)
          (units_code (way_of c.args.way) c.args.size (c.loop-left.at + c.args.size) (c.loop-left.word + 1) (c.loop-left.left - 1))
          (c.args.code.now.items ++ units_code (way_of c.args.way) c.args.size c.args.offset c.args.k c.args.count)
          c.loop-left.invariant.code
          (units_splits (way_of c.args.way) c.args.size c.loop-left.at c.loop-left.word c.loop-left.left c.loop-left-test.true)
          c.in_ok-unit.ensures;
    }
