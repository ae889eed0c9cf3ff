use Rattle.std.proofs.Common.{◌≡◌, None, All, map, vec_capacity}
use Rattle.al_workers.specs.declared.crew.Worker.{Worker}
use Rattle.al_workers.specs.Crew.{pass_of}
use Rattle.al_workers.proofs.crew.dismiss.Given as goal

abbrev pub invariant-loop-worker : goal.invariant-loop-worker
invariant-loop-worker l =
    (l.passes.items ≡ map pass_of l.yielded) × (vec_capacity l.passes ≡ vec_capacity l.initial.passes)
    × (l.any ≡ None → All (λ (w : Worker). w.lack ≡ None) l.yielded)
