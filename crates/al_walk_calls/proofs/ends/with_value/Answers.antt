use Rattle.std.proofs.Common.{Some, ap, map, sym}
use Rattle.al_meaning.specs.Calls.{with_given}
use Rattle.al_control.specs.Models.{frame_of}
use Rattle.al_walk_calls.proofs.GivenFrames.{no_frame}
use Rattle.al_walk_calls.proofs.Onward.{goes}
use Rattle.al_walk_calls.proofs.ends.with_value.Goals as goal

pub returns-in-None : goal.returns-in-None
returns-in-None c = no_frame c.args.words c.args.frames c.pop.new.self c.in-None.ensures.0 c.in-None.ensures.1

pub returns-in-Some : goal.returns-in-Some
returns-in-Some c =
    goes c.finds_below.result (map frame_of) _ _ (ap (λ l. with_given (Some c.args.words) (map frame_of l)) (sym c.in-Some.ensures)) c.finds_below.ensures
