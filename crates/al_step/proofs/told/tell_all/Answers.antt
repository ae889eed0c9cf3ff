use Rattle.al_step.proofs.Tells.{tells_on, tells_end}
use Rattle.al_step.proofs.told.tell_all.Goals as goal

pub loop-message-preserved : goal.loop-message-preserved
loop-message-preserved c =
    tells_on c.args.p.now c.args.messages.now c.loop-message.message-index c.message-item.result _ _ _ c.loop-message-test.true c.message-item.is c.loop-message.invariant c.in_ok-tell.ensures.tasks

pub returns-clause-tasks : goal.returns-clause-tasks
returns-clause-tasks c = tells_end c.args.p.now c.args.messages.now c.loop-message.message-index _ _ c.loop-message-test.false c.loop-message.invariant
