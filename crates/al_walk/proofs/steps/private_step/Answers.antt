use Rattle.std.proofs.Common.{map}
use Rattle.al_control.specs.Models.{control_of, frame_of}
use Rattle.al_walk_calls.specs.Fits.{BeginFits}
use Rattle.al_walk.specs.Works.{FramesFit, StepFits}
use Rattle.al_walk.proofs.Frames.{entering_fits, entering_steps, frames_fit, frames_step, goes_as}
use Rattle.al_walk.proofs.Whys.{explains}
use Rattle.al_walk.proofs.steps.private_step.Goals as goal

pub returns-in-Some-clause-next : goal.returns-in-Some-clause-next
returns-in-Some-clause-next c =
    goes_as c.enter_instead.result _ _ (entering_steps c.args.p.now c.args.control c.in-Some.entering c.args.privates c.in-Some.is) c.enter_instead.ensures.next

pub returns-in-Some-clause-why : goal.returns-in-Some-clause-why
returns-in-Some-clause-why c =
    explains c.enter_instead.result (BeginFits c.args.p.now c.in-Some.entering.function) (StepFits c.args.p.now (control_of c.args.control) c.args.privates)
    (entering_fits c.args.p.now c.args.control c.in-Some.entering c.args.privates c.in-Some.is) c.enter_instead.ensures.why

pub returns-in-None-clause-next : goal.returns-in-None-clause-next
returns-in-None-clause-next c =
    goes_as c.step_frames.result _ _ (frames_step c.args.p.now c.args.control c.args.privates c.in-None.is) c.step_frames.ensures.next

pub returns-in-None-clause-why : goal.returns-in-None-clause-why
returns-in-None-clause-why c =
    explains c.step_frames.result (FramesFit c.args.p.now (map frame_of c.args.control.frames) c.args.privates) (StepFits c.args.p.now (control_of c.args.control) c.args.privates)
    (frames_fit c.args.p.now c.args.control c.args.privates c.in-None.is) c.step_frames.ensures.why
