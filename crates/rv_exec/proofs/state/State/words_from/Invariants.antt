use Rattle.std.proofs.Common.{◌≡◌, ◌+◌, ◌-◌, ◌++◌}
use Rattle.rv_exec.specs.Windows.{words_from}
use Rattle.rv_exec.specs.Seen.{words_of}
use Rattle.rv_exec.proofs.state.State.words_from.Given as goal

-- the words so far and those that are left
abbrev pub invariant-loop-k : goal.invariant-loop-k
invariant-loop-k l =
    let f = words_of l.self.stack.items in
    l.words ++ words_from f (l.first + l.k) (l.count - l.k) ≡ words_from f l.first l.count
