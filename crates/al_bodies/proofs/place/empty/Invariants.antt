use Rattle.std.proofs.Common.{◌≡◌, None}
use Rattle.std.specs.Prelude.{replicate}
use Rattle.al_bodies.proofs.place.empty.Given as goal

abbrev pub invariant-loop : goal.invariant-loop
invariant-loop g l = l.places ≡ replicate l.counter None
