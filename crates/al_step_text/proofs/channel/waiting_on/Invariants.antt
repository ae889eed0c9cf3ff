use Rattle.std.proofs.Common.{◌≡◌}
use Rattle.al_step_text.specs.StepText.{waiting_on}
use Rattle.al_step_text.proofs.channel.waiting_on.Given as goal

abbrev pub invariant-loop-at : goal.invariant-loop-at
invariant-loop-at l = l.count ≡ waiting_on l.chan l.waiting l.at
