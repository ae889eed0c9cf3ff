use Rattle.std.proofs.Common.{◌≡◌}
use Rattle.al_core.specs.Lends.{IsLent}
use Rattle.al_core_tests.proofs.worlds.work.Given as goal

abbrev pub invariant-loop : goal.invariant-loop
invariant-loop l = record {
  lent : IsLent l.world 0 l.held;
  image : l.image.value ≡ l.world.image;
}
