use Rattle.std.proofs.Common.{◌++◌, ◌+◌, ◌-◌, ap, ◌∙◌, arith}
use Rattle.rv_code.specs.declared.home.Home.{Home}
use Rattle.rv_regs.specs.Homes.{home_at}
use Rattle.rv_form.specs.Flow.{show_word, show}
use Rattle.rv_emit_calls.proofs.Rounds.{one_round, show_splits}
use Rattle.rv_emit_calls.proofs.calls.show.Goals as goal

pub loop-left-preserved : goal.loop-left-preserved
loop-left-preserved c =
    record {
      slots = omega (arith, c.loop-left.invariant.slots);
      code =
          one_round c.loop-left.code.items (show_word (home_at c.args.homes.now c.loop-left.slot) c.loop-left.slot) c.show_word.new.code.items
          (show (home_at c.args.homes.now) c.loop-left.slot c.loop-left.left)
          (show (home_at c.args.homes.now) (c.loop-left.slot + 1) (c.loop-left.left - 1))
          (c.args.code.now.items ++ show (home_at c.args.homes.now) c.args.from c.args.count)
          c.loop-left.invariant.code
          (show_splits (home_at c.args.homes.now) c.loop-left.slot c.loop-left.left c.loop-left-test.true)
          (c.in_ok-show_word.ensures ∙ ap (λ (h : Home). c.loop-left.code.items ++ show_word h c.loop-left.slot) c.home_of.ensures.value);
    }
