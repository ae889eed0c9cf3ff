use Rattle.std.proofs.Common.{◌++◌, ◌+◌, ◌-◌, ap, ◌∙◌, arith}
use Rattle.rv_code.specs.declared.home.Home.{Home}
use Rattle.rv_regs.specs.Homes.{home_at}
use Rattle.rv_form.specs.Units.{zero_word, zero_each}
use Rattle.rv_emit_units.proofs.Rounds.{one_round, zero_each_splits}
use Rattle.rv_emit_units.proofs.zeros.zero_each.Goals as goal

pub loop-left-preserved : goal.loop-left-preserved
loop-left-preserved c =
    record {
      slots = omega (arith, c.loop-left.invariant.slots);
      code =
          one_round c.loop-left.code.items (zero_word (home_at c.args.homes.now c.loop-left.slot)) c.zero_word.new.code.items
          (zero_each (home_at c.args.homes.now) c.loop-left.slot c.loop-left.left)
          (zero_each (home_at c.args.homes.now) (c.loop-left.slot + 1) (c.loop-left.left - 1))
          (c.args.code.now.items ++ zero_each (home_at c.args.homes.now) c.args.from c.args.count)
          c.loop-left.invariant.code
          (zero_each_splits (home_at c.args.homes.now) c.loop-left.slot c.loop-left.left c.loop-left-test.true)
          (c.in_ok-zero_word.ensures ∙ ap (λ (h : Home). c.loop-left.code.items ++ zero_word h) c.home_of.ensures.value);
    }
