use Rattle.std.proofs.Common.{Some, None}
use Rattle.al_script.proofs.Steps.{steps_to, no_room}
use Rattle.al_script.proofs.step.step_goes.Goals as goal

pub returns-then-not-has_room : goal.returns-then-not-has_room
returns-then-not-has_room c =
    record { control = c.args.control; goes = c.requires; room = no_room c.args.script.now _ _ _ _ c.in_ok-act.ensures.value c.if-not-has_room.ensures }

pub returns-in-Some : goal.returns-in-Some
returns-in-Some c =
    steps_to c.args.script.now c.args.world c.args.task c.args.pick c.args.control _ (Some c.in-Some.world) c.requires c.in-Some.is c.in_ok-world.ensures

pub returns-in-None : goal.returns-in-None
returns-in-None c =
    steps_to c.args.script.now c.args.world c.args.task c.args.pick c.args.control _ None c.requires c.in-None.is c.in_ok-world.ensures
