use Rattle.std.proofs.Common.{◌≡◌, take}
use Rattle.al_branches.specs.Tables.{all_uses}
use Rattle.al_branches.proofs.count.all_uses.Given as goal

abbrev pub invariant-loop-k : goal.invariant-loop-k
invariant-loop-k l = l.uses ≡ all_uses (take l.k l.defined) l.items
