use Rattle.std.proofs.Common.{◌∙◌, sym}
use Rattle.al_tree.proofs.Numbered.{numbered_step, numbered_none}
use Rattle.al_tree.proofs.constants.number_constants.Goals as goal

pub loop-constant-preserved : goal.loop-constant-preserved
loop-constant-preserved c =
    c.loop-constant.invariant
    ∙ numbered_step c.loop-constant.next c.loop-constant.known c.args.constants.now c.loop-constant.constant-index c.constant-item.result c.given-value.result c.one_more-next.result c.push.new.self c.loop-constant-test.true c.constant-item.is c.given-value.ensures c.one_more-next.ensures c.in_ok-push.ensures.ok

pub returns : goal.returns
returns c =
    sym (numbered_none c.loop-constant.next c.loop-constant.known c.args.constants.now c.loop-constant.constant-index c.loop-constant-test.false)
    ∙ sym c.loop-constant.invariant
