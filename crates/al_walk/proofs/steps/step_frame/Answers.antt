use Rattle.std.proofs.Common.{map}
use Rattle.al_meaning.specs.Here.{here}
use Rattle.al_meaning.specs.Places.{function_at}
use Rattle.al_control.specs.Models.{frame_of, item_of, work_of}
use Rattle.al_walk_calls.specs.Fits.{EndFits}
use Rattle.al_walk.specs.Works.{FrameFits, WorkFits}
use Rattle.al_walk.proofs.Frames.{end_fits, frame_ends, frame_steps, goes_as, item_fits}
use Rattle.al_walk.proofs.Whys.{explains}
use Rattle.al_walk.proofs.steps.step_frame.Goals as goal

pub returns-in-None-clause-next : goal.returns-in-None-clause-next
returns-in-None-clause-next c =
    goes_as c.ends_body.result _ _
    (frame_ends c.args.p.now c.args.frame c.pop.new.self (map frame_of c.args.below) c.args.privates c.in-None.ensures.0 c.in-None.ensures.1) c.ends_body.ensures.next

pub returns-in-None-clause-why : goal.returns-in-None-clause-why
returns-in-None-clause-why c =
    let f = c.args.frame in
    explains c.ends_body.result (EndFits c.args.p.now (function_at c.args.p.now f.function))
    (FrameFits c.args.p.now (map item_of f.items) (frame_of f) (map frame_of c.args.below) c.args.privates)
    (end_fits c.args.p.now f (map frame_of c.args.below) c.args.privates c.in-None.ensures.0) c.ends_body.ensures.why

pub returns-in-Some-clause-next : goal.returns-in-Some-clause-next
returns-in-Some-clause-next c =
    goes_as c.step_work.result _ _
    (frame_steps c.args.p.now c.args.frame c.in-Some.item c.pop.new.self (map frame_of c.args.below) c.args.privates c.in-Some.ensures) c.step_work.ensures.next

pub returns-in-Some-clause-why : goal.returns-in-Some-clause-why
returns-in-Some-clause-why c =
    let f = c.args.frame in
    explains c.step_work.result
    (WorkFits (here c.args.p.now c.in-Some.item.line (frame_of (record f { items = c.pop.new.self })) (map frame_of c.args.below) c.args.privates) (work_of c.in-Some.item.work))
    (FrameFits c.args.p.now (map item_of f.items) (frame_of f) (map frame_of c.args.below) c.args.privates)
    (item_fits c.args.p.now f c.in-Some.item c.pop.new.self (map frame_of c.args.below) c.args.privates c.in-Some.ensures) c.step_work.ensures.why
