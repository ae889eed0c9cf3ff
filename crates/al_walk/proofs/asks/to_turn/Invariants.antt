use Rattle.std.proofs.Common.{◌≡◌}
use Rattle.al_meaning.specs.Weight.{control_weight}
use Rattle.al_control.specs.Models.{control_of}
use Rattle.al_walk.specs.Asks.{turn_from, TurnFits}
use Rattle.al_walk.proofs.asks.to_turn.Given as goal

abbrev pub invariant-loop-c : goal.invariant-loop-c
invariant-loop-c l = record {
  turn : turn_from l.p (control_of l.control) l.privates ≡ turn_from l.fn.p (control_of l.fn.control) l.fn.privates;
  fit : TurnFits l.fn.p (control_of l.fn.control) l.fn.privates → TurnFits l.p (control_of l.control) l.privates;
}

abbrev pub decreases-loop-c : goal.decreases-loop-c
decreases-loop-c l = control_weight l.p (control_of l.control)
