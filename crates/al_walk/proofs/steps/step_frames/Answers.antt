use Rattle.std.proofs.Common.{map}
use Rattle.al_control.specs.Models.{frame_of, item_of}
use Rattle.al_walk.specs.Works.{FrameFits, FramesFit}
use Rattle.al_walk.proofs.Frames.{goes_as, no_frames, top_fits, top_steps}
use Rattle.al_walk.proofs.Whys.{explains}
use Rattle.al_walk.proofs.steps.step_frames.Goals as goal

pub returns-in-None-clause-next : goal.returns-in-None-clause-next
returns-in-None-clause-next c = no_frames c.args.p.now c.args.frames c.pop.new.self c.args.privates c.in-None.ensures.0 c.in-None.ensures.1

pub returns-in-Some-clause-next : goal.returns-in-Some-clause-next
returns-in-Some-clause-next c =
    goes_as c.step_frame.result _ _ (top_steps c.args.p.now c.args.frames c.pop.new.self c.in-Some.frame c.args.privates c.in-Some.ensures) c.step_frame.ensures.next

pub returns-in-Some-clause-why : goal.returns-in-Some-clause-why
returns-in-Some-clause-why c =
    let f = c.in-Some.frame in
    explains c.step_frame.result (FrameFits c.args.p.now (map item_of f.items) (frame_of f) (map frame_of c.pop.new.self) c.args.privates)
    (FramesFit c.args.p.now (map frame_of c.args.frames) c.args.privates)
    (top_fits c.args.p.now c.args.frames c.pop.new.self f c.args.privates c.in-Some.ensures) c.step_frame.ensures.why
