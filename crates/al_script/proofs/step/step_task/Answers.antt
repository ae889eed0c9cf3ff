use Rattle.al_script.specs.declared.world.Held.TheVariants.{Absent, Goes, Waits}
use Rattle.al_script.proofs.Steps.{steps_held, held_now, held_from}
use Rattle.al_script.proofs.step.step_task.Goals as goal

pub returns-in-Absent : goal.returns-in-Absent
returns-in-Absent c =
    steps_held c.args.script.now c.args.world c.args.task c.args.pick Absent (held_from c.args.script.now c.args.world c.args.task _ _ _ c.in-Absent.is c.in_ok-control.ensures c.as_slice.ensures.value)

pub returns-in-Waits : goal.returns-in-Waits
returns-in-Waits c =
    steps_held c.args.script.now c.args.world c.args.task c.args.pick (Waits c.in-Waits.field-0) (held_from c.args.script.now c.args.world c.args.task _ _ _ c.in-Waits.is c.in_ok-control.ensures c.as_slice.ensures.value)

pub step_goes-requires : goal.step_goes-requires
step_goes-requires c =
    held_now c.args.script.now c.args.world c.args.task (Goes c.in-Goes.control) (held_from c.args.script.now c.args.world c.args.task _ _ _ c.in-Goes.is c.in_ok-control.ensures c.as_slice.ensures.value)
