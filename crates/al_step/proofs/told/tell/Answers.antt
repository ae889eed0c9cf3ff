use Rattle.al_step.proofs.Tells.{told_back, told_away}
use Rattle.al_step.proofs.told.tell.Goals as goal

pub returns-in_ok-put_task-in-Some-clause-tasks : goal.returns-in_ok-put_task-in-Some-clause-tasks
returns-in_ok-put_task-in-Some-clause-tasks c =
    told_back c.args.p.now c.args.message.now c.in_ok-after.after c.take_task-held.result c.in-Some.held _ _ _ c.in-Some.is c.in_ok-put_task-in-Some.ensures c.take_task-held.ensures.others c.in_ok-after.ensures.held c.take_task-held.ensures.taken

pub returns-in-None-clause-tasks : goal.returns-in-None-clause-tasks
returns-in-None-clause-tasks c =
    told_away c.args.p.now c.args.message.now c.in_ok-after.after c.take_task-held.result _ _ c.in-None.is c.take_task-held.ensures.others c.in_ok-after.ensures.held c.take_task-held.ensures.taken
