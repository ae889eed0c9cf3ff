use Rattle.al_script.proofs.Steps.{step_is, performed}
use Rattle.al_script.proofs.step.step_asked.Goals as goal

pub returns : goal.returns
returns c =
    step_is c.args.script.now c.args.world c.in_ok-world.world c.args.task c.args.pick c.args.control c.args.act c.in-Some.effect c.requires.act (performed c.args.script.now c.args.world c.args.task c.args.pick c.args.act _ _ c.in-Some.is c.in_ok-effect.ensures) c.in_ok-world.ensures.shared c.in_ok-world.ensures.tasks
