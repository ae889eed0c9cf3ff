use Rattle.std.proofs.Common.{◌≡◌, map, vec_capacity}
use Rattle.lock_trial.specs.Crew.{pass_of}
use Rattle.lock_trial.proofs.crew.dismiss.Given as goal

abbrev pub invariant-loop-worker : goal.invariant-loop-worker
invariant-loop-worker l = (l.passes.items ≡ map pass_of l.yielded) × (vec_capacity l.passes ≡ vec_capacity l.initial.passes)
