use Rattle.std.proofs.Common.{◌≡◌, ◌+◌, ◌-◌, ◌*◌, length}
use Rattle.rv_exec.specs.Calls.{branches_from}
use Rattle.rv_exec.specs.Seen.{seen}
use Rattle.rv_exec.proofs.Reading.{with_rest}
use Rattle.rv_exec.proofs.state.State.branches_from.Given as goal

-- the records so far and those that are left
abbrev pub invariant-loop-k : goal.invariant-loop-k
invariant-loop-k l = record {
  read : with_rest l.branches (branches_from (seen l.self) (l.first + 4 * l.k) (l.count - l.k)) ≡ branches_from (seen l.self) l.first l.count;
  count : length l.branches ≡ l.k;
}
