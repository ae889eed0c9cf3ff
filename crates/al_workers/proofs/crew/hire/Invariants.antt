use Rattle.std.proofs.Common.{◌≡◌, map, vec_capacity}
use Rattle.al_workers.specs.Crew.{hired}
use Rattle.al_workers.proofs.crew.hire.Given as goal

abbrev pub invariant-loop-pass : goal.invariant-loop-pass
invariant-loop-pass l = (l.crew.items ≡ map hired l.yielded) × (vec_capacity l.crew ≡ vec_capacity l.initial.crew)
