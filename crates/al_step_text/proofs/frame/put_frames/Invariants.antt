use Rattle.std.proofs.Common.{◌≡◌, ◌++◌, map}
use Rattle.al_control.specs.Models.{frame_of}
use Rattle.al_step_text.specs.Frames.{frames_lines}
use Rattle.al_step_text.proofs.frame.put_frames.Given as goal

abbrev pub invariant-loop-number : goal.invariant-loop-number
invariant-loop-number l = l.out ≡ l.fn.out ++ frames_lines l.p (map frame_of l.frames) l.number
