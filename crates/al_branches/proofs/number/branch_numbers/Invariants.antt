use Rattle.std.proofs.Common.{◌≡◌, ◌++◌, length, take, drop}
use Rattle.al_branches.specs.Numbers.{numbers_from}
use Rattle.al_branches.specs.Tables.{all_uses}
use Rattle.al_branches.proofs.number.branch_numbers.Given as goal

abbrev pub invariant-loop-k : goal.invariant-loop-k
invariant-loop-k l =
    (numbers_from l.items l.defined 0 l.defined ≡ l.list ++ numbers_from l.items l.defined l.k (drop l.k l.defined))
    × (l.before ≡ all_uses (take l.k l.defined) (length l.items))
