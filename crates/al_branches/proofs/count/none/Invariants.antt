use Rattle.std.proofs.Common.{◌≡◌, []}
use Rattle.al_branches.specs.Tables.{all_uses}
use Rattle.al_branches.proofs.count.none.Given as goal

abbrev pub invariant-loop : goal.invariant-loop
invariant-loop l = l.uses ≡ all_uses [] l.counter
