use Rattle.std.proofs.Common.{◌≡◌, None}
use Rattle.al_core.specs.History.{loan_of}
use Rattle.al_core_tests.proofs.worlds.alone.Given as goal

abbrev pub invariant-loop : goal.invariant-loop
invariant-loop g l = loan_of l.world 0 ≡ None
