use Rattle.std.proofs.Common.{◌≡◌, ◌+◌, ◌-◌, ◌*◌}
use Rattle.rv_exec.specs.Calls.{starts_from}
use Rattle.rv_exec.specs.Seen.{seen}
use Rattle.rv_exec.proofs.Reading.{with_rest}
use Rattle.rv_exec.proofs.state.State.starts_from.Given as goal

-- the records so far and those that are left
abbrev pub invariant-loop-k : goal.invariant-loop-k
invariant-loop-k l = with_rest l.starts (starts_from l.image (seen l.self) (l.first + 3 * l.k) (l.count - l.k)) ≡ starts_from l.image (seen l.self) l.first l.count
