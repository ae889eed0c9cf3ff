use Rattle.std.proofs.Common.{◌≡◌, take}
use Rattle.al_step.proofs.acts.starts.Given as goal

abbrev pub invariant-loop-start : goal.invariant-loop-start
invariant-loop-start l = l.copies ≡ take l.start-index l.starts
