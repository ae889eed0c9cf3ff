use Rattle.al_step.specs.Sources.{IsSound}
use Rattle.al_step_tests.proofs.walks.walk.Given as goal

abbrev pub invariant-loop-at : goal.invariant-loop-at
invariant-loop-at l = IsSound l.walked.source
