use Rattle.al_control.specs.Models.{control_of, frame_of}
use Rattle.std.proofs.Common.{refl, map}
use Rattle.al_walk_calls.proofs.GivenFrames.{resumed, resumed_without}
use Rattle.al_walk_calls.proofs.ends.resume.Goals as goal

pub returns-then-is_empty : goal.returns-then-is_empty
returns-then-is_empty c = resumed_without (control_of c.args.control) c.args.answer (c.if-is_empty.ensures.0 refl)

pub returns : goal.returns
returns c = resumed (control_of c.args.control) c.args.answer (map frame_of c.in_ok-frames.frames) c.if-is_empty.ensures.1 c.in_ok-frames.ensures
