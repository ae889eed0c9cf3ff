use Rattle.std.proofs.Common.{◌≡◌, ◌+◌, ◌≤◌, length, None}
use Rattle.al_core.specs.History.{over_of}
use Rattle.al_core.specs.Lends.{IsLent}
use Rattle.al_rounds.specs.Later.{IsLater}
use Rattle.al_rounds.proofs.Later.{LoansOf}
use Rattle.al_rounds.proofs.one_worker.go_on.Given as goal

abbrev pub invariant-loop : goal.invariant-loop
invariant-loop g l = record {
  later : IsLater 0 l.initial.world l.world;
  others : LoansOf 0 l.initial.world l.world;
  lent : IsLent l.world 0 l.held;
  live : over_of l.world ≡ None;
  more : length l.initial.world.entries + l.counter ≤ length l.world.entries;
}
