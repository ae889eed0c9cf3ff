use Rattle.std.proofs.Common.{◌++◌, ◌+◌, ◌-◌, ap, ◌∙◌, arith}
use Rattle.rv_code.specs.declared.home.Home.{Home}
use Rattle.rv_regs.specs.Homes.{home_at}
use Rattle.rv_form.specs.Flow.{pass_word, pass}
use Rattle.rv_emit_calls.proofs.Rounds.{one_round, pass_splits}
use Rattle.rv_emit_calls.proofs.calls.pass.Goals as goal

pub loop-left-preserved : goal.loop-left-preserved
loop-left-preserved c =
    record {
      slots = omega (arith, c.loop-left.invariant.slots);
      words = omega (arith, c.loop-left.invariant.words);
      code =
          one_round c.loop-left.code.items (pass_word (home_at c.args.homes.now c.loop-left.slot) c.loop-left.word) c.pass_word.new.code.items
          (pass (home_at c.args.homes.now) c.loop-left.slot c.loop-left.word c.loop-left.left)
          (pass (home_at c.args.homes.now) (c.loop-left.slot + 1) (c.loop-left.word + 1) (c.loop-left.left - 1))
          (c.args.code.now.items ++ pass (home_at c.args.homes.now) c.args.from c.args.to c.args.count)
          c.loop-left.invariant.code
          (pass_splits (home_at c.args.homes.now) c.loop-left.slot c.loop-left.word c.loop-left.left c.loop-left-test.true)
          (c.in_ok-pass_word.ensures ∙ ap (λ (h : Home). c.loop-left.code.items ++ pass_word h c.loop-left.word) c.home_of.ensures.value);
    }
