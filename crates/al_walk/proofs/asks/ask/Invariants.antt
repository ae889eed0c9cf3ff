use Rattle.std.proofs.Common.{◌≡◌}
use Rattle.al_meaning.specs.Meaning.{ask}
use Rattle.al_control.specs.Models.{control_of, next_of}
use Rattle.al_walk.specs.Asks.{AskFits, TurnsFit}
use Rattle.al_walk.proofs.Askings.{asked_after}
use Rattle.al_walk.proofs.asks.ask.Given as goal

abbrev pub invariant-loop-next : goal.invariant-loop-next
invariant-loop-next l = record {
  asked : asked_after l.p l.left (next_of l.next) ≡ ask l.fn.p (control_of l.fn.control) l.fn.privates;
  fit : AskFits l.fn.p (control_of l.fn.control) l.fn.privates → TurnsFit l.p l.left (next_of l.next);
}

abbrev pub decreases-loop-next : goal.decreases-loop-next
decreases-loop-next l = l.left
